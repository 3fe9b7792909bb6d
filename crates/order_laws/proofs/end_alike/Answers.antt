-- The law is proved in `RunsEndAlike`.
use Rattle.order_laws.proofs.RunsEndAlike.{runs_end_alike}
use Rattle.order_laws.proofs.end_alike.Goals as goal

pub returns : goal.returns
returns c = runs_end_alike
