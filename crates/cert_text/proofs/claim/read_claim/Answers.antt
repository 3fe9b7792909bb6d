use Rattle.v_design.specs.PlainDesigns.{design_of}
use Rattle.cert_text.proofs.Claimed.{claim-long}
use Rattle.cert_text.proofs.claim.read_claim.Goals as goal

pub returns-then-count_blanks-gt-MAX_BLANKS : goal.returns-then-count_blanks-gt-MAX_BLANKS
returns-then-count_blanks-gt-MAX_BLANKS c =
    claim-long (design_of c.args.design.now) c.args.line.now c.count_blanks.result c.count_blanks.ensures c.if-count_blanks-gt-MAX_BLANKS.true
