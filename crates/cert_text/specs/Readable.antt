-- What is written as a certificate is read as a valid one (the format is this program's own).
use Rattle.std.specs.Prelude.{◌≡◌, ℕ, ◌<◌, length, Some}
use Rattle.std.specs.List.{Contains}
use Rattle.vf_base.specs.Base.{ReportedAccess}
use Rattle.vf_base.specs.Lists.{AllHold}
use Rattle.v_design.specs.Designs.{FlatDesign, StuckAt, TestPlan}
use Rattle.v_design.specs.Sites.{sites_of}
use Rattle.v_design.specs.Grades.{FaultGrade, Judged, Raced, Looped, grade}
use Rattle.v_design.specs.WellFormed.{KeepsRules, IsPlan}
use Rattle.text_lines.specs.Text.{lines_of}
use Rattle.fault_list.specs.RoundTrip.{HasNumber}
use Rattle.cert_laws.specs.Claims.{Claim}
use Rattle.cert_laws.specs.Valid.{Fails, Shows, outcome}
use Rattle.cert_laws.specs.Written.{claim_as, lines_by, certificate}
use Rattle.cert_text.specs.Fits.{GradeFits, LineFits}

-- an access to an object of the design by a process of it
pub record IsAccessOf (design : FlatDesign) (access : ReportedAccess) : Type 0 where
  pub object : access.object < length design.objects
  pub process : access.process < length design.processes

-- the accesses of a race are of the design
abbrev pub IsGradeOf : FlatDesign → FaultGrade → Type 0
IsGradeOf design (Judged verdict) = Unit {0}
IsGradeOf design (Raced side pair) = IsAccessOf design pair.first × IsAccessOf design pair.second
IsGradeOf design (Looped time) = Unit {0}

-- the text of the certificate of a fault with a verdict or a race shows that fault and its claim
abbrev pub CertificatesAreRead : Type 0
CertificatesAreRead =
    (design : FlatDesign) (plan : TestPlan) (fault : StuckAt) (line : FaultGrade) (claim : Claim) → KeepsRules design → IsPlan plan →
    Contains (sites_of design) fault.site → HasNumber fault.site → grade design plan fault ≡ Some line → claim_as design line ≡ Some claim → IsGradeOf design line → GradeFits line →
    AllHold LineFits (lines_by design plan fault (Some claim)) → outcome design plan (lines_of (certificate design plan fault line)) ≡ Shows fault claim

-- that of a fault whose faulty machine loops fails at its second line
abbrev pub LoopsFail : Type 0
LoopsFail =
    (design : FlatDesign) (plan : TestPlan) (fault : StuckAt) (time : ℕ) → KeepsRules design → outcome design plan (lines_of (certificate design plan fault (Looped time))) ≡ Fails 2
