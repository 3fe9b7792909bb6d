-- The law is proved in `Whole`.
use Rattle.soak_plan.proofs.Whole.{plans-read}
use Rattle.soak_plan.proofs.plan_there.Goals as goal

pub returns : goal.returns
returns c = plans-read
