-- So far room and faults have gone on.
use Rattle.std.proofs.Common.{◌≡◌, ◌-◌, map}
use Rattle.std.specs.List.{sum_by}
use Rattle.slot_steps.specs.Rises.{RisesWithin}
use Rattle.lockstep_turn.specs.phase_faults.Beside.{HaveGoneOn, stop_of, ticked_of}
use Rattle.lockstep_phase.proofs.phase.go_to_end.Given as goal

abbrev pub invariant-moments : goal.invariant-moments
invariant-moments g l = record {
  on :
      HaveGoneOn g.N.World.design g.N.World.plan l.view.window.now.before l.view.window.now.through l.view.blocks.now.moments l.end l.fn.room.runner l.fn.room.before l.fn.room.behind
      l.fn.room.counts l.fn.faults.items l.room.runner l.room.before l.room.behind l.room.counts l.faults.items;
  stops : l.stops.items ≡ map (stop_of l.end) l.faults.items;
  ticks : RisesWithin (sum_by ticked_of l.fn.faults.items) (sum_by ticked_of l.faults.items) l.fn.steps l.steps;
}

abbrev pub decreases-moments : goal.decreases-moments
decreases-moments g l = l.end - l.room.before.moment
