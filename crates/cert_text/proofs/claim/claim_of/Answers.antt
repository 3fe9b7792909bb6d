use Rattle.std.proofs.Common.{◌∙◌, [], arith}
use Rattle.v_design.specs.PlainDesigns.{design_of}
use Rattle.cert_text.proofs.Claimed.{claim-one, claim-two}
use Rattle.cert_text.proofs.claim.claim_of.Goals as goal

pub returns-in-len1 : goal.returns-in-len1
returns-in-len1 c =
    c.claim_of_one.ensures (design_of c.args.design.now) ∙ claim-one (design_of c.args.design.now) c.args.words.now (record { ref_ptr = (0, 0); now = [] }) (omega arith)

pub returns-in-len2 : goal.returns-in-len2
returns-in-len2 c =
    c.claim_of_two.ensures (design_of c.args.design.now) ∙ claim-two (design_of c.args.design.now) c.args.words.now (record { ref_ptr = (0, 0); now = [] }) (omega arith)
