use Rattle.cert_text.proofs.Cutting.{moment-long}
use Rattle.cert_text.proofs.claim.moment_of.Goals as goal

pub returns-in_default-rest : goal.returns-in_default-rest
returns-in_default-rest c =
    moment-long c.args.word.now _ _ _ _ c.in-Some.rest c.in_default-rest.field-0 c.cut.ensures.parts c.in-Some.is c.cut-2.ensures.parts c.in_default-rest.is
