-- The first line.
use Rattle.std.proofs.Common.{◌≡◌, rules}
use Rattle.vf_audit.proofs.LinesBehind.{behind-none, behind-formless, behind-other, behind-same}
use Rattle.vf_audit.proofs.stages.lines_behind.Goals as goal

pub returns-in_default-clause-said : goal.returns-in_default-clause-said
returns-in_default-clause-said c = behind-none c.args.wanted c.args.lines.now c.in_default.ensures.cases

pub returns-in_default-read_cert_line-clause-said : goal.returns-in_default-read_cert_line-clause-said
returns-in_default-read_cert_line-clause-said c =
    behind-formless c.args.wanted c.args.lines.now c.in-Some.first.now c.in-Some.rest.now c.in-Some.ensures.cases.0 c.read_cert_line.result c.read_cert_line.ensures c.in_default-read_cert_line.is

pub returns-then-eq-clause-said : goal.returns-then-eq-clause-said
returns-then-eq-clause-said c =
    let same : c.in-Some-read_cert_line.said ≡ c.args.wanted = search rules in
    behind-same c.args.wanted c.args.lines.now c.in-Some.first.now c.in-Some.rest.now c.in-Some.ensures.cases.0 c.read_cert_line.result c.in-Some-read_cert_line.said c.read_cert_line.ensures
    c.in-Some-read_cert_line.is same

pub returns-else-eq-clause-said : goal.returns-else-eq-clause-said
returns-else-eq-clause-said c =
    let other : ¬ (c.in-Some-read_cert_line.said ≡ c.args.wanted) = search rules in
    behind-other c.args.wanted c.args.lines.now c.in-Some.first.now c.in-Some.rest.now c.in-Some.ensures.cases.0 c.read_cert_line.result c.in-Some-read_cert_line.said c.read_cert_line.ensures
    c.in-Some-read_cert_line.is other
