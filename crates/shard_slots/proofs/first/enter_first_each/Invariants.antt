-- So far faults have entered, or rest.
use Rattle.std.proofs.Common.{◌≡◌, ℕ, ◌≤◌, length}
use Rattle.std.specs.Prelude.{Some, slice_get}
use Rattle.copy_lockstep.specs.copy_window.declared.fault.ShardFault.{ShardFault}
use Rattle.copy_lockstep.specs.phase_faults.declared.beside.FaultBeside.{FaultBeside}
use Rattle.start_copy.specs.Rooms.{IsRoomFor}
use Rattle.shard_slots.specs.Slots.{EntersFirst}
use Rattle.shard_slots.proofs.first.enter_first_each.Given as goal

abbrev pub invariant-faults : goal.invariant-faults
invariant-faults g l = record {
  most : l.own-index ≤ length l.faults;
  got : length l.besides.items ≡ l.own-index;
  room : IsRoomFor g.N.World.design l.room;
  each : (place : ℕ) (own : ShardFault) (one : FaultBeside) → slice_get l.faults place ≡ Some own → slice_get l.besides.items place ≡ Some one →
      EntersFirst g.N.World.design g.N.World.plan l.view.window.now.through own one;
}
