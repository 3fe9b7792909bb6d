-- What certify answers (the format is this program's own; runs by IEEE 1364-2001, clause 5).
use Rattle.std.specs.Prelude.{◌≡◌, ℕ, List, Some}
use Rattle.std.specs.List.{Contains}
use Rattle.vf_base.specs.Lists.{AllHold}
use Rattle.v_design.specs.Designs.{FlatDesign, TestPlan, StuckAt, good_machine}
use Rattle.v_design.specs.Runs.{first_run}
use Rattle.v_design.specs.Sites.{sites_of}
use Rattle.v_design.specs.Grades.{Hyper, first_stop, FaultGrade, grade}
use Rattle.grade_laws.specs.Grading.{good_stop}
use Rattle.text_lines.specs.Text.{lines_of}
use Rattle.fault_list.specs.RoundTrip.{HasNumber}
use Rattle.cert_laws.specs.Claims.{Claim}
use Rattle.cert_laws.specs.Valid.{Shows, outcome}
use Rattle.cert_laws.specs.Written.{claim_as, lines_by, certificate}
use Rattle.cert_text.specs.Fits.{GradeFits, LineFits}
use Rattle.vf_certify.specs.declared.cert.Certified.{Certified}
use Rattle.vf_certify.specs.declared.cert.Certified.TheVariants.{Cert, GoodLoop}

-- a certificate: the line of the fault's grade, and the first runs; or the good machine's loop
abbrev pub IsCertified : FlatDesign → TestPlan → StuckAt → Certified → Type 0
IsCertified design plan fault (Cert text) = (line : FaultGrade) × (grade design plan fault ≡ Some line) × (text.items ≡ certificate design plan fault line)
IsCertified design plan fault (GoodLoop time) =
    first_stop (good_machine design) (first_run (good_machine design) plan.end) ≡ Some (record { time = time; outcome = Hyper })

-- where there is a certificate the good machine isn't hyperactive up to the plan's end before a race of its own
abbrev pub NoLoop : FlatDesign → TestPlan → Certified → Type 0
NoLoop design plan (Cert text) = (time : ℕ) → good_stop design plan ≡ Some (record { time = time; outcome = Hyper }) → ⊥
NoLoop design plan (GoodLoop time) = Unit {0}

-- the certificate of a fault of the design, whose grade claims something, is read as a valid one of that fault and that claim
abbrev pub IsRead : FlatDesign → TestPlan → StuckAt → Certified → Type 0
IsRead design plan fault (Cert text) =
    (line : FaultGrade) (claim : Claim) → Contains (sites_of design) fault.site → grade design plan fault ≡ Some line → claim_as design line ≡ Some claim →
    outcome design plan (lines_of text.items) ≡ Shows fault claim
IsRead design plan fault (GoodLoop time) = Unit {0}

-- the text of the certificate of a fault with a grade, all of whose numbers fit
pub record IsCertificate (design : FlatDesign) (plan : TestPlan) (fault : StuckAt) (line : FaultGrade) (text : List ℕ) : Type 0 where
  pub text_is : text ≡ certificate design plan fault line
  pub numbered : HasNumber fault.site
  pub grade_fits : GradeFits line
  pub lines_fit : AllHold LineFits (lines_by design plan fault (claim_as design line))
