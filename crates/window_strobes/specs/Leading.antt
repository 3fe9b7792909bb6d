-- The time to which faults are graded in a window of the good first run (slots by IEEE 1364-2001, clause 5).
use Rattle.std.specs.Prelude.{◌≡◌, ℕ, zero, suc, ◌≤◌, Option, Some, None}
use Rattle.v_design.specs.Designs.{FlatDesign, TestPlan, good_machine}
use Rattle.v_design.specs.Grades.{Race}
use Rattle.between_slots.specs.Between.{state_through}
use Rattle.copy_laws.specs.Windows.{WindowEnd, IsOpen, IsThrough, IsRaced, time_at, state_at}
use Rattle.grade_laws.specs.Ahead.{StopsAfter}
use Rattle.grade_laws.specs.Grading.{good_stop}
use Rattle.beside_laws.specs.Stands.{IsSince}
use Rattle.beside_laws.specs.GoodRuns.{IsOpenAt, IsAllAt}
use Rattle.window_strobes.specs.Slots.{BeginsBy}

-- the good machine goes on to a time of a window without a stop; where all slots of the window begin by a time up to that one, it stands there in the state after them
pub record IsLed (design : FlatDesign) (plan : TestPlan) (before through until : ℕ) : Type 0 where
  pub since : IsSince (time_at design plan before) until
  pub goes_on : StopsAfter until (good_stop design plan)
  pub within : until ≤ plan.end
  pub at_end : (time : ℕ) → BeginsBy design plan through time → time ≤ until → state_at (good_machine design) plan.end time ≡ state_through design plan through

-- the last time before another
abbrev pub last_before : ℕ → Option ℕ
last_before zero = None
last_before (suc time) = Some time

-- a window that ends so leads to this time: that of its last slot, the plan's end, or the last time before the good machine's race
abbrev pub EndsSo : FlatDesign → TestPlan → ℕ → WindowEnd → Option ℕ → Type 0
EndsSo design plan through IsOpen until = (time : ℕ) × (until ≡ Some time) × IsOpenAt design plan through time
EndsSo design plan through IsThrough until = IsAllAt design plan through × (good_stop design plan ≡ None) × (until ≡ Some plan.end)
EndsSo design plan through (IsRaced pair) until =
    IsAllAt design plan through × (good_stop design plan ≡ Some (record { time = pair.time; outcome = Race pair })) × (until ≡ last_before pair.time)

-- the time to which the faults are graded in a window, if there is one
pub record LeadsTo (design : FlatDesign) (plan : TestPlan) (before through : ℕ) (ending : WindowEnd) (until : Option ℕ) : Type 0 where
  pub led : (time : ℕ) → until ≡ Some time → IsLed design plan before through time
  pub ends : EndsSo design plan through ending until
