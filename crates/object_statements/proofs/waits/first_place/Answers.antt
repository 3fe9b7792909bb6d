use Rattle.object_statements.proofs.Runs.{none-up}
use Rattle.object_statements.proofs.waits.first_place.Goals as goal

pub returns-then-width-eq0-clause-same : goal.returns-then-width-eq0-clause-same
returns-then-width-eq0-clause-same c = none-up 0 c.args.low c.args.width c.if-width-eq0.true
