-- The law is proved in `Slots`.
use Rattle.lockstep_laws.proofs.Slots.{lockstep_ends}
use Rattle.lockstep_laws.proofs.lockstep_ends.Goals as goal

pub returns : goal.returns
returns c = lockstep_ends c.lockstep_turns.ensures c.slot_ends.ensures.quiet
