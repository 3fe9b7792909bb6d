-- So far the faults have come to a slot.
use Rattle.std.specs.Prelude.{◌+◌, ◌≤◌}
use Rattle.std.specs.List.{AllZip}
use Rattle.own_gradings.specs.Numbers.{OwnStepsOf}
use Rattle.copy_lockstep.specs.copy_room.Rooms.{IsRoom}
use Rattle.copy_lockstep.specs.graded_steps.Behind.{RisesWithin}
use Rattle.copy_lockstep.specs.lockstep_block.Rooms.{IsLockstepRoom}
use Rattle.copy_lockstep.specs.window_faults.Steps.{StaysFault, steps_of_faults}
use Rattle.copy_lockstep.specs.window_faults.Within.{AreWithin}
use Rattle.shard_slots.proofs.slots.go_through.Given as goal

abbrev pub invariant-slots : goal.invariant-slots
invariant-slots g l = record {
  most : l.view.window.now.before + l.slot ≤ l.view.window.now.through;
  within : AreWithin g.N.World.design g.N.World.plan l.view.window.now.before l.view.window.now.through l.slot l.faults.items l.ats.items;
  zip : AllZip StaysFault l.fn.faults.items l.faults.items;
  room : IsRoom g.N.World.design l.machine;
  lockstep : IsLockstepRoom g.N.World.design l.lockstep.runner l.lockstep.before l.lockstep.behind l.lockstep.counts;
  ticks : (tally : OwnStepsOf g.N.World.design g.N.World.plan) →
      RisesWithin (steps_of_faults tally l.view.window.now.before l.fn.faults.items) (steps_of_faults tally (l.view.window.now.before + l.slot) l.faults.items) l.fn.steps l.steps;
}
