-- What is known of a window of the good first run (slots by IEEE 1364-2001, clause 5).
use Rattle.std.specs.Prelude.{◌≡◌, ℕ, ◌≤◌, Some, slice_get}
use Rattle.vf_base.specs.Lists.{AllHold}
use Rattle.v_design.specs.Designs.{FlatDesign, TestPlan}
use Rattle.v_design.specs.Runs.{FirstSlot}
use Rattle.v_design.specs.WellFormed.{KeepsRules, IsPlan}
use Rattle.between_slots.specs.Updates.{LastIsFew}
use Rattle.window_strobes.specs.Watched.{IsObjectOf}
use Rattle.copy_laws.specs.Windows.{WindowEnd, IsWindow, good_slots}

-- a window of the good first run, whose last slot isn't hyperactive; the first slot of the run is at time 0, and none is later than the plan's end
pub record IsKnown (design : FlatDesign) (plan : TestPlan) (before through : ℕ) (ending : WindowEnd) : Type 0 where
  pub rules : KeepsRules design
  pub of_plan : IsPlan plan
  pub watched : AllHold (IsObjectOf design) plan.watched
  pub window : IsWindow design plan before through ending
  pub few : LastIsFew design plan through
  pub first : (slot : FirstSlot) → slice_get (good_slots design plan) 0 ≡ Some slot → slot.begins.time ≡ 0
  pub within : (number : ℕ) (slot : FirstSlot) → slice_get (good_slots design plan) number ≡ Some slot → slot.begins.time ≤ plan.end
