-- The code of a grade, which a fault's word holds (nothing of the language): a kind from 1 to 6, and eight times a time.
use Rattle.std.specs.Prelude.{◌≡◌, ℕ, ◌+◌, ◌*◌, List, map, Option, Some, None, slice_get, slice_index, IsSomeAnd}
use Rattle.vf_base.specs.Base.{reported_pair}
use Rattle.vf_base.specs.declared.finding.End.{End}
use Rattle.vf_base.specs.declared.finding.End.TheVariants as ending
use Rattle.vf_base.specs.declared.finding.Side.{Side}
use Rattle.vf_base.specs.declared.finding.Side.TheVariants.{Good, Faulty}
use Rattle.v_design.specs.Designs.{FlatDesign, StuckAt, TestPlan}
use Rattle.v_design.specs.Grades.{Verdict, Detected, Possible, Undetected, FaultGrade, Judged, Raced, Looped, grade}

-- the kind of a verdict: detected, possible or undetected
abbrev pub kind_of_verdict : Verdict → ℕ
kind_of_verdict (Detected time) = 1
kind_of_verdict (Possible time) = 2
kind_of_verdict Undetected = 3

-- the kind of a race, by the machine that it is in
abbrev pub kind_of_race : Side → ℕ
kind_of_race Good = 4
kind_of_race Faulty = 5

-- the kind of a grade, from 1 to 6
abbrev pub kind_of_grade : FaultGrade → ℕ
kind_of_grade (Judged verdict) = kind_of_verdict verdict
kind_of_grade (Raced side pair) = kind_of_race side
kind_of_grade (Looped time) = 6

-- the strobe of a verdict, 0 where there is none
abbrev pub time_of_verdict : Verdict → ℕ
time_of_verdict (Detected time) = time
time_of_verdict (Possible time) = time
time_of_verdict Undetected = 0

-- the time of a grade: that of its strobe, its race or its loop
abbrev pub time_of_grade : FaultGrade → ℕ
time_of_grade (Judged verdict) = time_of_verdict verdict
time_of_grade (Raced side pair) = pair.time
time_of_grade (Looped time) = time

-- the code of a grade
abbrev pub code_of_grade : FaultGrade → ℕ
code_of_grade grade = kind_of_grade grade + 8 * time_of_grade grade

-- the grade with which a grading ended
abbrev pub grade_of_end : End → FaultGrade
grade_of_end (ending.Detected time) = Judged (Detected time)
grade_of_end (ending.Possible time) = Judged (Possible time)
grade_of_end ending.Undetected = Judged Undetected
grade_of_end (ending.Race side pair) = Raced side (reported_pair pair)
grade_of_end (ending.Hyper time) = Looped time

-- the code of a grade, 0 where there is none
abbrev pub code_if_graded : Option FaultGrade → ℕ
code_if_graded None = 0
code_if_graded (Some grade) = code_of_grade grade

-- the codes of the faults that a plan lists, in order; 0 for a fault that has no grade
unfoldable pub codes_of : FlatDesign → TestPlan → List ℕ
codes_of design plan = map (λ (fault : StuckAt). code_if_graded (grade design plan fault)) plan.faults

-- the code of a fault by its place in the list, 0 where it has none
abbrev pub code_of : List ℕ → ℕ → ℕ
code_of codes fault = slice_index codes fault

-- the grade of a fault that may be listed, by the grade of each fault
abbrev pub grade_if_listed : (StuckAt → Option FaultGrade) → Option StuckAt → Option FaultGrade
grade_if_listed graded None = None
grade_if_listed graded (Some fault) = graded fault

-- the grade of a fault by its place in the plan's list; none past its end, and none where the good first run is hyperactive before the grading ends
unfoldable pub listed_grade : FlatDesign → TestPlan → ℕ → Option FaultGrade
listed_grade design plan fault = grade_if_listed (grade design plan) (slice_get plan.faults fault)

-- the fault has a grade, and this is its code
abbrev pub IsCode : FlatDesign → TestPlan → ℕ → ℕ → Type 0
IsCode design plan fault code = IsSomeAnd (listed_grade design plan fault) (λ (g : FaultGrade). code ≡ code_of_grade g)
