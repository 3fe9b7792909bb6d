-- Where grades exist, and exactly where not (slots by IEEE 1364-2001, clause 5).
use Rattle.std.specs.Prelude.{◌≡◌, ◌↔◌, ℕ, ◌≤◌, List, Some, None}
use Rattle.std.specs.List.{AllZip}
use Rattle.v_design.specs.Designs.{FlatDesign, StuckAt, TestPlan}
use Rattle.v_design.specs.Grades.{is_hard, first_strobe, FaultGrade, FullGrade, grade, full_grade}
use Rattle.order_laws.specs.Reports.{AreGrades}
use Rattle.grade_laws.specs.Grading.{good_seen, faulty_seen, faulty_stop}
use Rattle.grade_laws.specs.Decisions.{NotBefore}
use Rattle.fault_grade.specs.Results.{LoopsAt}

-- the good machine's first run to the plan's end is never hyperactive before a race of its own
abbrev pub NeverLoops : FlatDesign → TestPlan → Type 0
NeverLoops design plan = (time : ℕ) → LoopsAt design plan time → ⊥

-- no hard strobe comes before a time
abbrev pub NoneHardBefore : FlatDesign → TestPlan → StuckAt → ℕ → Type 0
NoneHardBefore design plan fault time = (strobe : ℕ) → first_strobe is_hard (good_seen design plan) (faulty_seen design plan fault) plan.strobes ≡ Some strobe → time ≤ strobe

-- Grades

-- where the good machine never loops each fault has a grade
abbrev pub GradesExist : Type 0
GradesExist = (design : FlatDesign) (plan : TestPlan) (fault : StuckAt) → NeverLoops design plan → (line : FaultGrade) × (grade design plan fault ≡ Some line)

-- a fault has none exactly where the good machine loops, and neither a stop of the faulty machine nor a hard strobe comes before that
abbrev pub GradesMissing : Type 0
GradesMissing =
    (design : FlatDesign) (plan : TestPlan) (fault : StuckAt) →
    (grade design plan fault ≡ None) ↔ ((time : ℕ) × LoopsAt design plan time × NotBefore time (faulty_stop design plan fault) × NoneHardBefore design plan fault time)

-- the listed faults of a plan have their grades
abbrev pub GradeListsExist : Type 0
GradeListsExist = (design : FlatDesign) (plan : TestPlan) → NeverLoops design plan → (lines : List FaultGrade) × AreGrades design plan lines

-- Full grades

-- where the good machine never loops each fault has a full grade
abbrev pub FullGradesExist : Type 0
FullGradesExist = (design : FlatDesign) (plan : TestPlan) (fault : StuckAt) → NeverLoops design plan → (full : FullGrade) × (full_grade design plan fault ≡ Some full)

-- a fault has none exactly where the good machine loops, and no stop of the faulty machine comes before that
abbrev pub FullGradesMissing : Type 0
FullGradesMissing =
    (design : FlatDesign) (plan : TestPlan) (fault : StuckAt) →
    (full_grade design plan fault ≡ None) ↔ ((time : ℕ) × LoopsAt design plan time × NotBefore time (faulty_stop design plan fault))

-- the listed faults of a plan have their full grades
abbrev pub FullGradeListsExist : Type 0
FullGradeListsExist =
    (design : FlatDesign) (plan : TestPlan) → NeverLoops design plan →
    (fulls : List FullGrade) × AllZip (λ fault full. full_grade design plan fault ≡ Some full) plan.faults fulls
