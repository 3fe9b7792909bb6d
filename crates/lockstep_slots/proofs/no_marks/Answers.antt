-- The law is proved in `Pairs`.
use Rattle.lockstep_slots.proofs.Pairs.{no_marks_leave_none}
use Rattle.lockstep_slots.proofs.no_marks.Goals as goal

pub returns : goal.returns
returns c = no_marks_leave_none c.blocks_suffice.ensures.awaited
