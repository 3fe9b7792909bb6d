-- Faults before the first slot (slots by IEEE 1364-2001, clause 5).
use Rattle.std.specs.Prelude.{◌≡◌, ℕ, Bool, None}
use Rattle.copy_state.specs.Kept.{nothing_kept}
use Rattle.fault_strobes.specs.Said.{SaysNothing}
use Rattle.shard_slots.specs.copy_window.ShardFaults.{kept_by, said_by}
use Rattle.shard_slots.specs.copy_window.declared.fault.ShardFault.{ShardFault}

-- a fault of a number before the first slot, whose samples are kept or not
pub record IsFresh (kept : Bool) (number : ℕ) (own : ShardFault) : Type 0 where
  pub copy : own.copy ≡ nothing_kept number
  pub nothing : SaysNothing (said_by own)
  pub kind : kept_by own ≡ kept
  pub end : own.end ≡ None
