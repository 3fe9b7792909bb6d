-- The full grade of a fault, and the steps of a faulty machine that the good one doesn't take.
use Rattle.std.specs.Prelude.{◌≡◌, refl, true, [], ◌∷◌, Some, Option, map, length}
use Rattle.v_design.specs.Grades.{full_grade}
use Rattle.v_design.specs.OwnSteps.{ProcessRun, good_steps, runs_beside}
use Rattle.run_examples.specs.Build.{race, variable_fault}
use Rattle.run_examples.specs.FaultyRaceAfterStrobe.{design, test_plan}
use Rattle.four_value.specs.declared.logic.Bit.TheVariants.{One}
use Rattle.vf_base.specs.declared.finding.Side.TheVariants.{Faulty}
use Rattle.vf_base.specs.declared.finding.AccessKind.TheVariants.{Read, Write}

pub record Holds : Type 0 where
  -- a hard strobe doesn't end the full grade: the sample at 12, and then the race at 20
  pub goes_on : full_grade design test_plan (variable_fault 0 0 true)
      ≡ Some (record { end = Some (race Faulty 20 1 Write 1 1 4 Read 1 2 5); samples = record { time = 12; bits = One ∷ [] } ∷ [] })
  -- four steps of each process
  pub good_counts : good_steps design test_plan ≡ 12
  -- to the strobe at 12: each process goes to sleep, and the first one reads, writes and ends
  pub run_lengths : map (λ (pair : Option ProcessRun × ProcessRun). length pair.1.steps) (runs_beside design test_plan (variable_fault 0 0 true)) ≡ 1 ∷ 1 ∷ 1 ∷ 3 ∷ []

pub holds : Holds
holds = record {
  goes_on = refl;
  good_counts = refl;
  run_lengths = refl;
}
