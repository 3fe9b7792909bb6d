-- What a certificate says holds of every legal order, and it is read back (orders by IEEE 1364-2001, clause 5).
use Rattle.std.proofs.Common.{◌≡◌, ℕ, ◌-◌, List}
use Rattle.std.specs.Prelude.{Some, Contains}
use Rattle.v_design.specs.Designs.{FlatDesign, TestPlan, StuckAt}
use Rattle.v_design.specs.Sites.{sites_of}
use Rattle.v_design.specs.Grades.{FaultGrade, grade}
use Rattle.v_design.specs.WellFormed.{KeepsRules, IsPlan, IsPlanOf}
use Rattle.v_design.specs.Laws.{GradesHold}
use Rattle.graph_order.specs.ListLaws.{AllHold-slice_get}
use Rattle.text_lines.specs.Text.{lines_of}
use Rattle.cert_laws.specs.Claims.{Claim}
use Rattle.cert_laws.specs.Valid.{Shows, outcome}
use Rattle.cert_laws.specs.Written.{claim_as, certificate}
use Rattle.cert_report.specs.Certificates.{listed, CertificateHolds}

pub certificate-holds : GradesHold → (design : FlatDesign) (plan : TestPlan) (place : ℕ) (fault : StuckAt) (line : FaultGrade) (text : List ℕ) → KeepsRules design → IsPlan plan →
    IsPlanOf design plan → listed plan place ≡ Some fault → grade design plan fault ≡ Some line → text ≡ certificate design plan fault line →
    ((given : FaultGrade) (claim : Claim) → Contains (sites_of design) fault.site → grade design plan fault ≡ Some given → claim_as design given ≡ Some claim →
    outcome design plan (lines_of text) ≡ Shows fault claim) → CertificateHolds design plan place text
certificate-holds holds design plan place fault line text rules planned fits is graded same read = record {
  fault = fault;
  is_listed = is;
  line = line;
  text_is = same;
  line_holds = holds design plan fault line rules planned graded;
  valid = λ claim claimed. read line claim (AllHold-slice_get (λ (one : StuckAt). Contains (sites_of design) one.site) plan.faults (place - 1) fault fits.faults is) graded claimed;
}
