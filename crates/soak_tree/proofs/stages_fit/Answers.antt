-- The law is proved in `Drawn`.
use Rattle.soak_tree.proofs.Drawn.{stages-fit}
use Rattle.soak_tree.proofs.stages_fit.Goals as goal

pub returns : goal.returns
returns c = stages-fit
