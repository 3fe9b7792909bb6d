-- The law is proved in `Compared`.
use Rattle.lockstep_compare.proofs.Compared.{comparisons_tell}
use Rattle.lockstep_compare.proofs.laws.comparisons_tell.Goals as goal

pub returns : goal.returns
returns c = comparisons_tell
