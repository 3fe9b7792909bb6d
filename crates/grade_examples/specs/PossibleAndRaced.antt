-- A possible detection, diagnosed; and a faulty race behind a hard strobe, with both strobes.
use Rattle.std.specs.Prelude.{◌≡◌, refl, List, [], ◌∷◌, Option, Some, None, map}
use Rattle.four_value.specs.declared.logic.Bit.TheVariants.{Zero}
use Rattle.v_design.specs.Designs.{TestPlan, good_machine}
use Rattle.v_design.specs.Runs.{first_run}
use Rattle.v_design.specs.Grades.{Sample, samples_at, first_samples, FullGrade, full_grade}
use Rattle.run_examples.specs.PossibleDetection as possible
use Rattle.run_examples.specs.FaultyRaceAfterStrobe as raced
use Rattle.dict_laws.specs.Responses.{Fit, Possible, fit}
use Rattle.pick_laws.specs.Kept.{kept_strobes}
use Rattle.pick_laws.specs.Hard.{hard_lists}

-- 3 0 / 7 0 / 17 0
abbrev pub response : List Sample
response = record { time = 3; bits = Zero ∷ [] } ∷ record { time = 7; bits = Zero ∷ [] } ∷ record { time = 17; bits = Zero ∷ [] } ∷ []

abbrev pub fit_if : Option FullGrade → Option Fit
fit_if None = None
fit_if (Some full) = Some (fit response full.samples)

abbrev pub three_strobes : TestPlan
three_strobes = record possible.test_plan { strobes = 3 ∷ 7 ∷ 17 ∷ [] }

-- the strobe in the race's slot doesn't count
abbrev pub both_strobes : TestPlan
both_strobes = record raced.test_plan { strobes = 12 ∷ 20 ∷ [] }

pub record Holds : Type 0 where
  pub good_fits : fit response (samples_at (first_samples (good_machine possible.design) three_strobes.watched (first_run (good_machine possible.design) three_strobes.end)) three_strobes.strobes) ≡
      Possible
  pub fault_fits : map (λ fault. fit_if (full_grade possible.design three_strobes fault)) three_strobes.faults ≡ Some Possible ∷ []
  pub hard : hard_lists raced.design both_strobes ≡ (12 ∷ []) ∷ []
  pub kept : kept_strobes (hard_lists raced.design both_strobes) both_strobes.strobes ≡ 12 ∷ []

pub holds : Holds
holds = record {
  good_fits = refl;
  fault_fits = refl;
  hard = refl;
  kept = refl;
}
