-- The law is proved in `Turned`.
use Rattle.lockstep_laws.proofs.Turned.{lockstep_turns}
use Rattle.lockstep_laws.proofs.lockstep_turns.Goals as goal

pub returns : goal.returns
returns c = lockstep_turns c.lockstep_is_beside.ensures.beside
