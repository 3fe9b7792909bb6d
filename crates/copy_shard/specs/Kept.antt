-- What a shard keeps (slots by IEEE 1364-2001, clause 5).
use Rattle.std.specs.Prelude.{◌≡◌, ℕ, false, List, map}
use Rattle.vf_base.specs.Base.{fault_number}
use Rattle.vf_base.specs.Lists.{AllHold}
use Rattle.vf_base.specs.declared.ids.FaultId.{FaultId}
use Rattle.v_design.specs.Designs.{FlatDesign, TestPlan}
use Rattle.shard_windows.specs.copy_window.ShardFaults.{IsShardFault, kept_by}
use Rattle.shard_windows.specs.copy_window.declared.fault.ShardFault.{ShardFault}
use Rattle.copy_shard.specs.Shards.{FaultKept, places_of}
use Rattle.shard_windows.specs.Reached.{HasReachedIfOpen}
use Rattle.shard_windows.specs.declared.reached.Reached.{Reached}

-- what contracts see of a fault of a shard
abbrev pub fault_kept : ShardFault → FaultKept
fault_kept own = record { copy = own.copy; end = own.end }

-- some faults, which are judged and have these numbers in the plan, have gone through so many slots, up to which so many strobes come
pub record IsShard (design : FlatDesign) (plan : TestPlan) (gone : ℕ) (reached : Reached) (numbers : List FaultId) (faults : List ShardFault) : Type 0 where
  pub numbers_are : map fault_number numbers ≡ places_of (map fault_kept faults)
  pub judged : AllHold (λ (own : ShardFault). kept_by own ≡ false) faults
  pub reaches : HasReachedIfOpen design plan gone reached faults
  pub each : AllHold (IsShardFault design plan gone reached.passed) faults
