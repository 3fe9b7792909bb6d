-- The laws are proved in `Slots`.
use Rattle.lockstep_laws.proofs.Slots.{lockstep_begins, lockstep_stops}
use Rattle.lockstep_laws.proofs.lockstep_stands.Goals as goal

pub returns-clause-begins : goal.returns-clause-begins
returns-clause-begins c = lockstep_begins c.rests.ensures.begins

pub returns-clause-stops : goal.returns-clause-stops
returns-clause-stops c = lockstep_stops c.lockstep_is_beside.ensures.beside c.rests.ensures.ends
