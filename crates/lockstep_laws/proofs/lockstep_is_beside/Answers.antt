-- The laws are proved in `Together`.
use Rattle.lockstep_laws.proofs.Together.{lockstep_is_beside, lockstep_holds}
use Rattle.lockstep_laws.proofs.lockstep_is_beside.Goals as goal

pub returns-clause-beside : goal.returns-clause-beside
returns-clause-beside c = lockstep_is_beside c.untouched.ensures.first c.moves.ensures.beside

pub returns-clause-held : goal.returns-clause-held
returns-clause-held c = lockstep_holds
