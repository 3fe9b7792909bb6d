-- The lanes of the process are gone at the times so far.
use Rattle.std.proofs.Common.{map, take}
use Rattle.v_design.specs.Plain.{due_of}
use Rattle.event_queue.specs.Arranged.{RemovesLanes}
use Rattle.event_queue.proofs.removals.remove_lanes.Given as goal

abbrev pub invariant-updates : goal.invariant-updates
invariant-updates l = RemovesLanes l.process (map due_of (take l.due-index l.updates)) l.initial.lanes l.lanes
