-- So far room and faults have come to where a phase of the slot begins.
use Rattle.std.proofs.Common.{◌-◌}
use Rattle.std.specs.Prelude.{sum_by}
use Rattle.slot_steps.specs.Rises.{RisesWithin}
use Rattle.lockstep_phase.specs.lockstep_room.Rooms.{AreCounts}
use Rattle.lockstep_phase.specs.phase_faults.Beside.{ticked_of}
use Rattle.lockstep_slot.proofs.Coming.{HaveCome}
use Rattle.lockstep_slot.proofs.slot.go_through_phases.Given as goal

abbrev pub invariant-phases : goal.invariant-phases
invariant-phases g l = record {
  counts : AreCounts g.N.World.design l.room.counts;
  come : HaveCome g.N.World.design g.N.World.plan l.view.window.now.before l.view.window.now.through l.slot l.now l.last l.fn.faults.items l.room.runner l.room.before l.room.behind l.faults.items;
  ticks : RisesWithin (sum_by ticked_of l.fn.faults.items) (sum_by ticked_of l.faults.items) l.fn.steps l.steps;
}

abbrev pub decreases-phases : goal.decreases-phases
decreases-phases g l = l.last - l.room.before.phase
