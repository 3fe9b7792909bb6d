-- What the audit of a certificate writes, and what a yes says of every legal order (IEEE 1364-2001, clause 5; the format is this program's own).
use Rattle.std.specs.Prelude.{◌≡◌, ℕ, List, [], ◌∷◌, ◌++◌, codes}
use Rattle.std.specs.Fmt.{decimal}
use Rattle.v_design.specs.Designs.{FlatDesign, TestPlan}
use Rattle.v_design.specs.Grades.{FaultGrade}
use Rattle.v_design.specs.Laws.{LineHolds}
use Rattle.text_lines.specs.Text.{lines_of}
use Rattle.grade_report.specs.Report.{fault_line}
use Rattle.cert_laws.specs.Valid.{Outcome, Fails, Shows, outcome}
use Rattle.vf_audit.specs.Answers.{second_line}

-- the number of the first line that fails
abbrev pub no_text : ℕ → List ℕ
no_text number = codes "no " ++ decimal number ++ 10 ∷ []

-- a line that was shown
abbrev pub yes_text : List ℕ → List ℕ
yes_text line = codes "yes " ++ line ++ 10 ∷ []

-- what is written of the lines of a text by what they say
abbrev pub text_by : List (List ℕ) → Outcome → List ℕ
text_by lines (Fails number) = no_text number
text_by lines (Shows fault claim) = yes_text (second_line lines)

-- the audit of a certificate: `yes` and its second line where no line fails, else `no` and the number of the first that does
abbrev pub audit_text : FlatDesign → TestPlan → List ℕ → List ℕ
audit_text design plan cert = text_by (lines_of cert) (outcome design plan (lines_of cert))

-- a yes is followed by the line of the fault with an end, and what that line says holds of every legal order
abbrev pub AuditSays : FlatDesign → TestPlan → List ℕ → Outcome → Type 0
AuditSays design plan text (Fails number) = text ≡ no_text number
AuditSays design plan text (Shows fault claim) = (end : FaultGrade) × (text ≡ codes "yes " ++ fault_line design fault end) × LineHolds design plan fault end

abbrev pub AuditHolds : FlatDesign → TestPlan → List ℕ → List ℕ → Type 0
AuditHolds design plan cert text = AuditSays design plan text (outcome design plan (lines_of cert))
