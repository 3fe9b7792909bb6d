use Rattle.cert_text.proofs.Cutting.{line-long}
use Rattle.cert_text.proofs.line.read_cert_line.Goals as goal

pub returns-in-Some-rest-2 : goal.returns-in-Some-rest-2
returns-in-Some-rest-2 c =
    line-long c.args.line.now _ _ _ _ _ _ c.in-Some.rest c.in-Some-rest.rest c.in-Some-rest-2.field-0 c.cut.ensures.parts c.in-Some.is c.cut-2.ensures.parts c.in-Some-rest.is
    c.cut-3.ensures.parts c.in-Some-rest-2.is
