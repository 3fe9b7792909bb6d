-- So far it is known where faults begin.
use Rattle.std.proofs.Common.{◌≡◌, ℕ, ◌≤◌, length}
use Rattle.std.specs.Prelude.{Some, slice_get}
use Rattle.std.specs.List.{AllZip}
use Rattle.slot_strobes.specs.copy_window.ShardFaults.{IsShardFault}
use Rattle.slot_strobes.specs.copy_window.declared.fault.ShardFault.{ShardFault}
use Rattle.window_faults.specs.Steps.{StaysFault}
use Rattle.window_faults.specs.Within.{IsWithin}
use Rattle.window_faults.specs.declared.at.FaultAt.{FaultAt}
use Rattle.window_faults.proofs.begin.begin_each.Given as goal

abbrev pub invariant-faults : goal.invariant-faults
invariant-faults g l = record {
  zip : AllZip StaysFault l.initial.faults.items l.faults.items;
  count : length l.ats.items ≡ l.place;
  most : l.place ≤ length l.initial.faults.items;
  each : (place : ℕ) (own : ShardFault) (at : FaultAt) → slice_get l.faults.items place ≡ Some own → slice_get l.ats.items place ≡ Some at →
      IsWithin g.N.World.design g.N.World.plan l.window.before l.window.through own at;
  rest : (place : ℕ) (own : ShardFault) → l.place ≤ place → slice_get l.faults.items place ≡ Some own →
      IsShardFault g.N.World.design g.N.World.plan l.window.before l.strobes.passed own;
}
