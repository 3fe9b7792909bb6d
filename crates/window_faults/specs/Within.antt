-- The faults of a shard within a window (strobes by the plan; slots by IEEE 1364-2001, clause 5).
use Rattle.std.specs.Prelude.{◌≡◌, ℕ, ◌+◌, ◌≤◌, true, List, length, None, Some, is_some, slice_get}
use Rattle.v_design.specs.Designs.{FlatDesign, StuckAt, TestPlan}
use Rattle.slot_strobes.specs.window_strobes.Passed.{HasPassed}
use Rattle.slot_strobes.specs.copy_window.ShardFaults.{IsShardFault, SameFault}
use Rattle.slot_strobes.specs.copy_window.declared.fault.ShardFault.{ShardFault}
use Rattle.window_faults.specs.declared.at.FaultAt.{FaultAt}

-- a fault of which nothing was found has gone through so many slots, up to which so many strobes come
pub record HasComeTo (design : FlatDesign) (plan : TestPlan) (fault : StuckAt) (gone passed : ℕ) (own : ShardFault) : Type 0 where
  pub stands : IsShardFault design plan gone passed own
  pub has_passed : HasPassed design plan gone passed
  pub listed : slice_get plan.faults own.copy.fault ≡ Some fault
  pub none : own.end ≡ None

-- a fault of which nothing was found stands behind so many slots, with whatever count of strobes passed there
pub record StandsAfter (design : FlatDesign) (plan : TestPlan) (at before : ℕ) (fault : StuckAt) (own : ShardFault) : Type 0 where
  pub listed : slice_get plan.faults own.copy.fault ≡ Some fault
  pub none : own.end ≡ None
  pub stands : (passed : ℕ) → before ≤ passed → HasPassed design plan at passed → IsShardFault design plan at passed own

-- a fault has come so far in a window from one number of slots to another; so many strobes come up to there as long as nothing was found of it
pub record IsWithin (design : FlatDesign) (plan : TestPlan) (before through : ℕ) (own : ShardFault) (at : FaultAt) : Type 0 where
  pub within : before + at.slot ≤ through
  pub stands : IsShardFault design plan (before + at.slot) at.passed own
  pub has_passed : own.end ≡ None → HasPassed design plan (before + at.slot) at.passed

-- all faults have come so far in a window, those whose gradings go on to the slot of a number at least
pub record AreWithin (design : FlatDesign) (plan : TestPlan) (before through slot : ℕ) (faults : List ShardFault) (ats : List FaultAt) : Type 0 where
  pub count : length ats ≡ length faults
  pub each : (place : ℕ) (own : ShardFault) (at : FaultAt) → slice_get faults place ≡ Some own → slice_get ats place ≡ Some at → IsWithin design plan before through own at
  pub come : (place : ℕ) (own : ShardFault) (at : FaultAt) → slice_get faults place ≡ Some own → slice_get ats place ≡ Some at → own.end ≡ None → slot ≤ at.slot

-- a fault came through a window to so many slots: it is the same fault, and stays as it is if its grading had ended
pub record ComesThrough (design : FlatDesign) (plan : TestPlan) (through passed : ℕ) (old new : ShardFault) : Type 0 where
  pub stands : IsShardFault design plan through passed new
  pub place : SameFault old new
  pub ended : is_some old.end ≡ true → new ≡ old
