-- So far the first faults took theirs, and the room waits before the block.
use Rattle.std.proofs.Common.{◌≡◌, map}
use Rattle.std.specs.List.{sum_by}
use Rattle.slot_steps.specs.Rises.{RisesWithin}
use Rattle.lockstep_turn.specs.phase_faults.Beside.{RoomWaits, TakesOwn, stop_of, ticked_of}
use Rattle.lockstep_turn.proofs.phase_faults.Lists.{ChangedTo}
use Rattle.lockstep_phase.proofs.own.take_block.Given as goal

abbrev pub invariant-faults : goal.invariant-faults
invariant-faults g l = record {
  changed :
      ChangedTo
      (TakesOwn g.N.World.design g.N.World.plan l.view.window.now.before l.view.window.now.through l.view.blocks.now.moments l.end l.initial.room.runner l.initial.room.before
      l.initial.room.behind l.initial.room.counts) l.place l.initial.faults.items l.faults.items;
  waits :
      RoomWaits g.N.World.design g.N.World.plan l.time l.initial.room.runner l.initial.room.before l.initial.room.behind l.initial.room.counts l.room.runner l.room.before l.room.behind
      l.room.counts;
  stops : l.stops.items ≡ map (stop_of l.end) l.faults.items;
  ticks : RisesWithin (sum_by ticked_of l.initial.faults.items) (sum_by ticked_of l.faults.items) l.fn.steps l.steps;
}
