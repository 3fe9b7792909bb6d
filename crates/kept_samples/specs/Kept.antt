-- What is kept of full grades, beside the good machine's samples (slots and orders by IEEE 1364-2001, clause 5).
use Rattle.std.specs.Prelude.{◌≡◌, ℕ, Bool, true, List, map, filter, Option, Some, None, nat_lt}
use Rattle.v_design.specs.Designs.{FlatDesign, StuckAt, TestPlan, good_machine}
use Rattle.v_design.specs.Runs.{first_run}
use Rattle.v_design.specs.Grades.{Samples, Sample, samples_at, first_samples, Stop, first_stop, FullGrade, full_grade}
use Rattle.kept_samples.specs.Plain.{sample_of, IsKeptOf}
use Rattle.kept_samples.specs.declared.kept.Sample.{Sample as SampleKept}
use Rattle.kept_samples.specs.declared.kept.Kept.{Kept}

-- some samples
abbrev pub samples_kept : List SampleKept → List Sample
samples_kept samples = map sample_of samples

-- what the strobes see of the good machine, and its first stop
abbrev pub good_seen : FlatDesign → TestPlan → Samples
good_seen design plan = first_samples (good_machine design) plan.watched (first_run (good_machine design) plan.end)

abbrev pub good_stop : FlatDesign → TestPlan → Option Stop
good_stop design plan = first_stop (good_machine design) (first_run (good_machine design) plan.end)

-- whether a strobe is before a stop that may be there
abbrev pub is_before : Option Stop → ℕ → Bool
is_before None strobe = true
is_before (Some stop) strobe = nat_lt strobe stop.time

-- the good samples at the strobes before the good machine's stop
abbrev pub good_samples : FlatDesign → TestPlan → List Sample
good_samples design plan = samples_at (good_seen design plan) (filter (is_before (good_stop design plan)) plan.strobes)

-- a fault's full grade is kept
abbrev pub Keeps : FlatDesign → TestPlan → StuckAt → Kept → Type 0
Keeps design plan fault kept = (full : FullGrade) × (full_grade design plan fault ≡ Some full) × IsKeptOf (good_seen design plan) full kept
