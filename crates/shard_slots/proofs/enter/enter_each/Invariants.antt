-- So far faults have entered, or rest.
use Rattle.std.proofs.Common.{◌≡◌, ℕ, ◌≤◌, List, length, map}
use Rattle.std.specs.Prelude.{Option, None, Some, is_some, slice_get}
use Rattle.std.specs.List.{AllZip}
use Rattle.copy_lockstep.specs.copy_window.declared.fault.ShardFault.{ShardFault}
use Rattle.copy_lockstep.specs.phase_faults.declared.beside.FaultBeside.{FaultBeside}
use Rattle.copy_lockstep.specs.window_faults.Steps.{StaysFault}
use Rattle.copy_lockstep.specs.window_faults.Within.{IsWithin}
use Rattle.copy_lockstep.specs.window_faults.declared.at.FaultAt.{FaultAt}
use Rattle.shard_slots.specs.Slots.{EntersIf, somes}
use Rattle.shard_slots.proofs.enter.enter_each.Given as goal

abbrev pub invariant-faults : goal.invariant-faults
invariant-faults g l = record {
  zip : AllZip StaysFault l.initial.faults.items l.faults.items;
  count : length l.ats.items ≡ length l.faults.items;
  founds : List (Option FaultBeside);
  got : length founds ≡ l.place;
  most : l.place ≤ length l.initial.faults.items;
  entered_are : l.entered.items ≡ map is_some founds;
  besides_are : l.besides.items ≡ somes founds;
  each : (place : ℕ) (own : ShardFault) (at : FaultAt) (found : Option FaultBeside) → slice_get l.faults.items place ≡ Some own → slice_get l.ats.items place ≡ Some at →
      slice_get founds place ≡ Some found → EntersIf g.N.World.design g.N.World.plan l.view.window.now.before l.view.window.now.through l.slot own at found;
  within : (place : ℕ) (own : ShardFault) (at : FaultAt) → l.place ≤ place → slice_get l.faults.items place ≡ Some own → slice_get l.ats.items place ≡ Some at →
      IsWithin g.N.World.design g.N.World.plan l.view.window.now.before l.view.window.now.through own at;
  come : (place : ℕ) (own : ShardFault) (at : FaultAt) → l.place ≤ place → slice_get l.faults.items place ≡ Some own → slice_get l.ats.items place ≡ Some at → own.end ≡ None → l.slot ≤ at.slot;
}
