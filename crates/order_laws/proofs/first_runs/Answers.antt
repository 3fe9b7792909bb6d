-- The law is proved in `FirstOrder.FirstRuns`.
use Rattle.order_laws.proofs.FirstOrder.FirstRuns.{first_runs_are_legal}
use Rattle.order_laws.proofs.first_runs.Goals as goal

pub returns : goal.returns
returns c = first_runs_are_legal
