-- The faults behind a place have left the slot.
use Rattle.std.proofs.Common.{◌≡◌, ℕ, ◌+◌, ◌≤◌, List, length, map}
use Rattle.std.specs.Prelude.{Option, None, Some, is_some, slice_get, sum_by}
use Rattle.std.specs.List.{AllZip}
use Rattle.own_gradings.specs.Numbers.{OwnStepsOf}
use Rattle.copy_lockstep.specs.copy_room.Rooms.{IsRoom}
use Rattle.copy_lockstep.specs.phase_faults.Beside.{ticked_of}
use Rattle.copy_lockstep.specs.copy_window.declared.fault.ShardFault.{ShardFault}
use Rattle.copy_lockstep.specs.phase_faults.declared.beside.FaultBeside.{FaultBeside}
use Rattle.copy_lockstep.specs.window_faults.Steps.{StaysFault, steps_of_fault, steps_of_faults}
use Rattle.copy_lockstep.specs.window_faults.Within.{IsWithin}
use Rattle.copy_lockstep.specs.window_faults.declared.at.FaultAt.{FaultAt}
use Rattle.copy_lockstep.proofs.window_faults.Lists.{mixed}
use Rattle.shard_slots.specs.Slots.{WentIf, somes}
use Rattle.shard_slots.proofs.Leaving.{RisesSoFar}
use Rattle.shard_slots.proofs.leave.leave_each.Given as goal

abbrev pub invariant-faults : goal.invariant-faults
invariant-faults g l = record {
  zip : AllZip StaysFault l.fn.faults.items l.faults.items;
  count : length l.ats.items ≡ length l.faults.items;
  founds : List (Option FaultBeside);
  entered_are : l.entered.items ≡ map is_some founds;
  besides_are : l.besides.items ≡ somes founds;
  left : length founds ≤ length l.faults.items;
  each : (place : ℕ) (own : ShardFault) (at : FaultAt) (found : Option FaultBeside) → slice_get l.faults.items place ≡ Some own → slice_get l.ats.items place ≡ Some at →
      slice_get founds place ≡ Some found → WentIf g.N.World.design g.N.World.plan l.window.before l.window.through l.slot own at found;
  within : (place : ℕ) (own : ShardFault) (at : FaultAt) → length founds ≤ place → slice_get l.faults.items place ≡ Some own → slice_get l.ats.items place ≡ Some at →
      IsWithin g.N.World.design g.N.World.plan l.window.before l.window.through own at;
  come : (place : ℕ) (own : ShardFault) (at : FaultAt) → length founds ≤ place → slice_get l.faults.items place ≡ Some own → slice_get l.ats.items place ≡ Some at → own.end ≡ None →
      l.slot + 1 ≤ at.slot;
  room : IsRoom g.N.World.design l.machine;
  ticks : (tally : OwnStepsOf g.N.World.design g.N.World.plan) →
      RisesSoFar (steps_of_faults tally (l.window.before + l.slot) l.fn.faults.items) (sum_by ticked_of l.fn.besides.items) (sum_by ticked_of l.besides.items)
      l.fn.steps (mixed (steps_of_fault tally (l.window.before + (l.slot + 1))) (steps_of_fault tally (l.window.before + l.slot)) (length founds) l.faults.items) l.steps;
}

abbrev pub decreases-faults : goal.decreases-faults
decreases-faults g l = length l.entered.items
