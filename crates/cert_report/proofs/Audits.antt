-- What is written of an audit's answer is the audit's text (the format is this program's own).
use Rattle.std.proofs.Common.{◌≡◌, ℕ, List, ◌++◌, codes, sym, ap, subst, ◌∙◌}
use Rattle.v_design.specs.Designs.{FlatDesign, TestPlan, StuckAt}
use Rattle.v_design.specs.Grades.{FaultGrade}
use Rattle.text_lines.specs.Text.{lines_of}
use Rattle.grade_report.specs.Report.{fault_line}
use Rattle.cert_laws.specs.Valid.{Fails, outcome}
use Rattle.vf_audit.specs.Answers.{SaysYes}
use Rattle.cert_report.specs.Audits.{no_text, text_by, audit_text, AuditSays, AuditHolds}

module _ (design : FlatDesign) (plan : TestPlan) (cert text : List ℕ) where
  pub yes-told : (fault : StuckAt) (end : FaultGrade) → SaysYes design plan cert fault end → text ≡ codes "yes " ++ fault_line design fault end → text ≡ audit_text design plan cert
  yes-told fault end says is = is ∙ (ap (λ line. codes "yes " ++ line) says.printed ∙ sym (ap (text_by (lines_of cert)) says.valid))

  pub yes-holds : (fault : StuckAt) (end : FaultGrade) → SaysYes design plan cert fault end → text ≡ codes "yes " ++ fault_line design fault end → AuditHolds design plan cert text
  yes-holds fault end says is = subst (AuditSays design plan text) (sym says.valid) (end, is, says.holds)

  pub no-told : (number : ℕ) → outcome design plan (lines_of cert) ≡ Fails number → text ≡ no_text number → text ≡ audit_text design plan cert
  no-told number fails is = is ∙ sym (ap (text_by (lines_of cert)) fails)

  pub no-holds : (number : ℕ) → outcome design plan (lines_of cert) ≡ Fails number → text ≡ no_text number → AuditHolds design plan cert text
  no-holds number fails is = subst (AuditSays design plan text) (sym fails) is
