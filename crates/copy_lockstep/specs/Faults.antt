-- A fault of a shard between two slots of a window (strobes by the plan; slots by IEEE 1364-2001, clause 5).
use Rattle.std.specs.Prelude.{◌≡◌, ℕ, suc, None}
use Rattle.v_design.specs.Designs.{FlatDesign, StuckAt, TestPlan}
use Rattle.lockstep_due.specs.lockstep_copies.Copies.{IsCopyInLockstep}
use Rattle.lockstep_due.specs.copy_window.Copies.{differences_in}
use Rattle.lockstep_due.specs.copy_window.ShardFaults.{IsShardFault}
use Rattle.lockstep_due.specs.copy_window.declared.fault.ShardFault.{ShardFault}
use Rattle.lockstep_due.specs.window_strobes.Passed.{HasPassed}
use Rattle.lockstep_due.specs.lockstep_shards.Shards.{IsOpenBehind}

-- a fault of which nothing was found stands behind so many slots, of which there is one, and more come; so many strobes passed
pub record IsOpenAtSlot (design : FlatDesign) (plan : TestPlan) (fault : StuckAt) (gone passed : ℕ) (own : ShardFault) : Type 0 where
  pub number : ℕ
  pub time : ℕ
  pub gone_is : gone ≡ suc number
  pub behind : IsOpenBehind design plan fault number time passed own

-- a fault stands behind so many slots, up to which so many strobes come as long as nothing was found of it
pub record StandsAtSlot (design : FlatDesign) (plan : TestPlan) (gone passed : ℕ) (own : ShardFault) : Type 0 where
  pub stands : IsShardFault design plan gone passed own
  pub has_passed : own.end ≡ None → HasPassed design plan gone passed

-- it is in lockstep there, so that the next slot may be tried
pub record MayTry (design : FlatDesign) (plan : TestPlan) (fault : StuckAt) (gone passed : ℕ) (own : ShardFault) : Type 0 where
  pub number : ℕ
  pub time : ℕ
  pub gone_is : gone ≡ suc number
  pub behind : IsOpenBehind design plan fault number time passed own
  pub lockstep : IsCopyInLockstep design plan fault number time (differences_in design own.copy)
