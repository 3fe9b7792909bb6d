-- The law is proved in `Told`.
use Rattle.copy_between.proofs.Told.{differences_stand}
use Rattle.copy_between.proofs.laws.differences_stand.Goals as goal

pub returns : goal.returns
returns c = differences_stand
