-- How the grading of a fault ended whose samples are kept (strobes and slots by IEEE 1364-2001, clause 5).
use Rattle.std.specs.Prelude.{◌≡◌, List, Option, Some, None}
use Rattle.v_design.specs.Designs.{FlatDesign, StuckAt, TestPlan}
use Rattle.v_design.specs.Grades.{Sample, FaultGrade, Judged, Raced, Looped, FullGrade, full_grade}
use Rattle.kept_samples.specs.Plain.{differing}
use Rattle.grade_laws.specs.Grading.{good_seen}
use Rattle.fault_strobes.specs.Said.{Said, Judging, Keeping}

-- where the plan without strobes gives a grade the full grade ends so: a verdict is no end
abbrev pub end_in_full : FaultGrade → Option FaultGrade
end_in_full (Judged verdict) = None
end_in_full (Raced side pair) = Some (Raced side pair)
end_in_full (Looped time) = Some (Looped time)

-- the full grade of a fault ends so, and these are its samples that differ
pub record HasFullGrade (design : FlatDesign) (plan : TestPlan) (fault : StuckAt) (end : Option FaultGrade) (differs : List Sample) : Type 0 where
  pub full : FullGrade
  pub full_is : full_grade design plan fault ≡ Some full
  pub end_is : full.end ≡ end
  pub differs_are : differs ≡ differing (good_seen design plan) full.samples

-- so it is where the samples are kept
abbrev pub IsFull : FlatDesign → TestPlan → StuckAt → FaultGrade → Said → Type 0
IsFull design plan fault found (Judging possible) = Unit {0}
IsFull design plan fault found (Keeping differs) = HasFullGrade design plan fault (end_in_full found) differs
