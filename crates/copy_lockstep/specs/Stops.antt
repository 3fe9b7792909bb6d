-- Slots of the good first run that aren't its stop (slots by IEEE 1364-2001, clause 5).
use Rattle.std.specs.Prelude.{◌≡◌, ◌⊎◌, ℕ, ◌<◌, None, length}
use Rattle.v_design.specs.Designs.{FlatDesign, TestPlan}
use Rattle.copy_laws.specs.Windows.{good_slots}
use Rattle.grade_laws.specs.Grading.{good_stop}
use Rattle.beside_laws.specs.GoodRuns.{IsAllAt}

-- the good first run is through behind so many slots, and never stops
pub record EndsWithoutStop (design : FlatDesign) (plan : TestPlan) (gone : ℕ) : Type 0 where
  pub all : IsAllAt design plan gone
  pub never : good_stop design plan ≡ None

-- behind so many slots another one comes, or the good first run is through without a stop: so none of them is its stop
abbrev pub NoStopThrough : FlatDesign → TestPlan → ℕ → Type 0
NoStopThrough design plan gone = (gone < length (good_slots design plan)) ⊎ EndsWithoutStop design plan gone
