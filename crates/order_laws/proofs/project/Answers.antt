-- The law is proved in `Projection`.
use Rattle.order_laws.proofs.Projection.{runs_project}
use Rattle.order_laws.proofs.project.Goals as goal

pub returns : goal.returns
returns c = runs_project
