-- What the good machine shows, as plain data (strobes by the plan; slots by IEEE 1364-2001, clause 5).
use Rattle.std.specs.Prelude.{◌≡◌, List, map, Option, Some, None}
use Rattle.v_design.specs.Designs.{FlatDesign, TestPlan}
use Rattle.v_design.specs.Grades as plain
use Rattle.kept_samples.specs.Plain.{sample_of}
use Rattle.grade_laws.specs.Grading.{IsGoodRun, good_stop}
use Rattle.fault_grade.specs.declared.good.GoodSamples.{GoodSamples}
use Rattle.fault_grade.specs.declared.good.GoodRun.{GoodRun}
use Rattle.fault_grade.specs.declared.good.GoodRun.TheVariants.{Shown, Loop}
use Rattle.fault_grade.specs.declared.stop.Stop.{Stop}
use Rattle.fault_grade.specs.Stops.{loop_stop, race_if, stop_view}

-- the samples that were kept of the good machine
abbrev pub samples_kept : GoodSamples → List plain.Sample
samples_kept good = map sample_of good.samples.items

-- a stop that may be there
abbrev pub stop_if : Option Stop → Option plain.Stop
stop_if None = None
stop_if (Some stop) = Some (stop_view stop)

-- the good machine's first run to the plan's end shows this, or its first slot that isn't fine is hyperactive at this time
abbrev pub IsGood : FlatDesign → TestPlan → GoodRun → Type 0
IsGood design plan (Shown good) = IsGoodRun design plan (samples_kept good) (race_if good.race)
IsGood design plan (Loop time) = good_stop design plan ≡ Some (loop_stop time)
