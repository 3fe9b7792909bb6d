-- Findings as grades (nothing of the language).
use Rattle.std.specs.Prelude.{◌≡◌, ℕ, Bool, List, map, count_by, length}
use Rattle.vf_base.specs.Base.{fault_number}
use Rattle.vf_base.specs.declared.finding.Finding.{Finding}
use Rattle.v_design.specs.Expressions.{up_from}
use Rattle.v_design.specs.Grades.{FaultGrade}
use Rattle.v_design.specs.Plain.{grade_of}

-- the grades that some findings tell
abbrev pub grades_of : List Finding → List FaultGrade
grades_of findings = map (λ (finding : Finding). grade_of finding.end) findings

-- how many findings end so
abbrev pub count_ended : (FaultGrade → Bool) → List Finding → ℕ
count_ended test findings = count_by (λ (finding : Finding). test (grade_of finding.end)) findings

-- one finding for each of so many faults, in order
abbrev pub AreInOrder : ℕ → List Finding → Type 0
AreInOrder count findings = map (λ (finding : Finding). fault_number finding.fault) findings ≡ up_from 0 count
