-- Strobes of a plan between two slots of a window (strobes by the plan; slots by IEEE 1364-2001, clause 5).
use Rattle.std.specs.Prelude.{◌≡◌, ℕ, ◌<◌, ◌≤◌, List, length, take, drop, Option, None, Some, slice_get}
use Rattle.four_value.specs.Values.{LogicValue, bit_at}
use Rattle.four_value.specs.declared.logic.Bit.{Bit}
use Rattle.vf_base.specs.Base.{WatchedBit}
use Rattle.v_design.specs.Assignments.{value_at}
use Rattle.v_design.specs.Designs.{FlatDesign, StuckAt, TestPlan, good_machine}
use Rattle.v_design.specs.Grades.{Detected, Judged}
use Rattle.between_slots.specs.Between.{state_through}
use Rattle.copy_laws.specs.Differences.{Differences}
use Rattle.copy_laws.specs.Windows.{state_at}
use Rattle.fault_strobes.specs.Said.{Said}
use Rattle.fault_strobes.specs.Strobes.{EndsWith, StrobesGoOn}
use Rattle.lockstep_shards.specs.Shards.{StandsAtStrobe}

-- a watched bit of some values
abbrev pub bit_in : List LogicValue → WatchedBit → Bit
bit_in values watched = bit_at (value_at values watched.object) watched.bit

-- a copy stands at a strobe at which the good machine's state is that behind so many slots
pub record StandsBeforeSlot (design : FlatDesign) (plan : TestPlan) (fault : StuckAt) (d : Differences) (gone strobe : ℕ) : Type 0 where
  pub stands : StandsAtStrobe design plan fault d strobe
  pub state_is : state_at (good_machine design) plan.end strobe ≡ state_through design plan gone

-- the grading of a fault goes on, behind so many of the plan's strobes, which said this
pub record IsGradingBehind (design : FlatDesign) (plan : TestPlan) (fault : StuckAt) (count : ℕ) (said : Said) : Type 0 where
  pub now : Option ℕ
  pub goes : StrobesGoOn design plan fault now (take count plan.strobes) (drop count plan.strobes) said

-- the grading of a fault ends with a hard detection at one of the plan's strobes from one number on and before another
pub record IsFoundAt (design : FlatDesign) (plan : TestPlan) (fault : StuckAt) (first end time : ℕ) (said : Said) : Type 0 where
  pub place : ℕ
  pub since : first ≤ place
  pub before : place < end
  pub at : slice_get plan.strobes place ≡ Some time
  pub ends : EndsWith design plan fault time (Judged (Detected time)) said

-- just so many of some strobes come before a time
pub record ComeBefore (strobes : List ℕ) (count time : ℕ) : Type 0 where
  pub within : count ≤ length strobes
  pub before : (place strobe : ℕ) → place < count → slice_get strobes place ≡ Some strobe → strobe < time
  pub since : (place strobe : ℕ) → count ≤ place → slice_get strobes place ≡ Some strobe → time ≤ strobe

-- strobes were shown up to a count: the grading goes on behind them, with what they said, or it ended with a hard detection at one of them
abbrev pub IsSeenTo : FlatDesign → TestPlan → StuckAt → ℕ → ℕ → Said → Option ℕ → Type 0
IsSeenTo design plan fault first end said None = IsGradingBehind design plan fault end said
IsSeenTo design plan fault first end said (Some time) = IsFoundAt design plan fault first end time said
