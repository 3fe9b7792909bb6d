use Rattle.std.proofs.Common.{take}
use Rattle.lockstep_copy.specs.Kept.{ArePartedBy}
use Rattle.lockstep_copy.proofs.turn.part_due.Given as goal

-- so far they are parted
abbrev pub invariant-updates : goal.invariant-updates
invariant-updates l = ArePartedBy l.now (take l.update-index l.updates) l.fn.rest.items l.rest.items l.fn.lane.items l.lane.items
