-- What an audit answers (the format is this program's own; runs by IEEE 1364-2001, clause 5).
use Rattle.std.specs.Prelude.{◌≡◌, ℕ, List, [], ◌∷◌, ◌++◌}
use Rattle.v_design.specs.Designs.{FlatDesign, TestPlan, StuckAt}
use Rattle.v_design.specs.Grades.{FaultGrade}
use Rattle.v_design.specs.Laws.{LineHolds}
use Rattle.v_design.specs.Plain.{fault_of, grade_of}
use Rattle.text_lines.specs.Text.{lines_of}
use Rattle.grade_report.specs.Report.{fault_line}
use Rattle.cert_laws.specs.Claims.{Claim}
use Rattle.cert_laws.specs.Valid.{Fails, Shows, outcome}
use Rattle.vf_audit.specs.declared.answers.Audited.{Audited}
use Rattle.vf_audit.specs.declared.answers.Audited.TheVariants.{Yes, No}

-- the second line of a text
abbrev pub second_line : List (List ℕ) → List ℕ
second_line [] = []
second_line (first ∷ []) = []
second_line (first ∷ second ∷ rest) = second

-- a Yes: no line fails; the fault and the end are those that line 2 prints, and what it says holds of every legal order: a verdict in each pair of them, a race in one
pub record SaysYes (design : FlatDesign) (plan : TestPlan) (text : List ℕ) (fault : StuckAt) (end : FaultGrade) : Type 0 where
  pub claim : Claim
  pub valid : outcome design plan (lines_of text) ≡ Shows fault claim
  pub printed : fault_line design fault end ≡ second_line (lines_of text) ++ 10 ∷ []
  pub holds : LineHolds design plan fault end

-- what an audit answers: Yes exactly where no line fails, else the number of the first that does
abbrev pub IsAudit : FlatDesign → TestPlan → List ℕ → Audited → Type 0
IsAudit design plan text (Yes fault end) = SaysYes design plan text (fault_of fault) (grade_of end)
IsAudit design plan text (No number) = outcome design plan (lines_of text) ≡ Fails number
