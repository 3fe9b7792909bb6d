-- How far faults have come (slots by IEEE 1364-2001, clause 5).
use Rattle.std.specs.Prelude.{◌≡◌, ℕ, ◌<◌, Bool, true, List, length, Some, is_some, not}
use Rattle.std.specs.List.{list_any}
use Rattle.v_design.specs.Designs.{FlatDesign, TestPlan}
use Rattle.copy_laws.specs.Windows.{good_slots, time_at}
use Rattle.shard_slots.specs.window_strobes.Passed.{HasPassed}
use Rattle.shard_slots.specs.copy_window.declared.fault.ShardFault.{ShardFault}
use Rattle.shard_windows.specs.declared.reached.Reached.{Reached}

-- whether the grading of a fault goes on
abbrev pub is_open : ShardFault → Bool
is_open own = not (is_some own.end)

-- where more slots come behind so many, of which there is one at least, the last of these is at a time
abbrev pub IsTimeOf : FlatDesign → TestPlan → ℕ → ℕ → Type 0
IsTimeOf design plan gone time = 0 < gone → gone < length (good_slots design plan) → time_at design plan gone ≡ Some time

-- it is the time to which so many slots lead, and so many of the plan's strobes come up to then
pub record HasReached (design : FlatDesign) (plan : TestPlan) (gone : ℕ) (reached : Reached) : Type 0 where
  pub passed : HasPassed design plan gone reached.passed
  pub time : IsTimeOf design plan gone reached.time

-- the same as long as the grading of some fault goes on
abbrev pub HasReachedIfOpen : FlatDesign → TestPlan → ℕ → Reached → List ShardFault → Type 0
HasReachedIfOpen design plan gone reached faults = list_any is_open faults ≡ true → HasReached design plan gone reached
