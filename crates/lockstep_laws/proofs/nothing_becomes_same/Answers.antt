-- The law is proved in `Unequal`.
use Rattle.lockstep_laws.proofs.Unequal.{nothing_becomes_same}
use Rattle.lockstep_laws.proofs.nothing_becomes_same.Goals as goal

pub returns : goal.returns
returns c = nothing_becomes_same
