-- What the place of a fault in a plan's list means over a design and the plan: the certificate of that fault, or the reason why there is none (first runs, and all
-- legal orders, by IEEE 1364-2001, clause 5; the format is this program's own).
use Rattle.std.specs.Prelude.{◌≡◌, ℕ, ◌-◌, ◌<◌, ◌≤◌, List, length, Option, Some, Result, Ok, Err, slice_get}
use Rattle.v_design.specs.Designs.{FlatDesign, TestPlan, StuckAt}
use Rattle.v_design.specs.Grades.{FaultGrade, grade}
use Rattle.v_design.specs.Laws.{LineHolds}
use Rattle.text_lines.specs.Text.{lines_of}
use Rattle.vf_certify.specs.fault_grade.Results.{LoopsAt}
use Rattle.cert_laws.specs.Claims.{Claim}
use Rattle.cert_laws.specs.Valid.{Shows, outcome}
use Rattle.cert_laws.specs.Written.{claim_as, certificate}
use Rattle.cert_report.specs.declared.fault.CertifyFault.{CertifyFault}
use Rattle.cert_report.specs.declared.fault.CertifyFault.TheVariants.{NoFault, GoodLoop, NoMemory}

-- the good machine's first run isn't hyperactive up to the plan's end before a race of its own
abbrev pub NeverLoops : FlatDesign → TestPlan → Type 0
NeverLoops design plan = (time : ℕ) → LoopsAt design plan time → ⊥

-- the listed fault of a place, from 1
abbrev pub listed : TestPlan → ℕ → Option StuckAt
listed plan place = slice_get plan.faults (place - 1)

-- the text is the certificate of the listed fault of a place: the line of its grade, and the first runs that show it; the good machine doesn't loop up to the plan's
-- end before a race of its own
pub record IsCertificateText (design : FlatDesign) (plan : TestPlan) (place : ℕ) (text : List ℕ) : Type 0 where
  pub fault : StuckAt
  pub is_listed : listed plan place ≡ Some fault
  pub no_loop : NeverLoops design plan
  pub line : FaultGrade
  pub graded : grade design plan fault ≡ Some line
  pub text_is : text ≡ certificate design plan fault line

-- the reason why there is no certificate: fewer faults are listed, else the good machine loops; want of memory is none
abbrev pub IsFaultOf : FlatDesign → TestPlan → ℕ → CertifyFault → Type 0
IsFaultOf design plan place (NoFault number) = (number ≡ place) × (length plan.faults < place)
IsFaultOf design plan place (GoodLoop time) = (place ≤ length plan.faults) × LoopsAt design plan time
IsFaultOf design plan place NoMemory = ⊥

-- what the place means
abbrev pub Means : FlatDesign → TestPlan → ℕ → Result (List ℕ) CertifyFault → Type 0
Means design plan place (Ok text) = IsCertificateText design plan place text
Means design plan place (Err reason) = IsFaultOf design plan place reason

-- this is what the place means, and it means nothing else
pub record IsTheMeaning (design : FlatDesign) (plan : TestPlan) (place : ℕ) (meaning : Result (List ℕ) CertifyFault) : Type 0 where
  pub means : Means design plan place meaning
  pub only : (other : Result (List ℕ) CertifyFault) → Means design plan place other → other ≡ meaning

-- What the line of a certificate says holds of every legal order; and its text is read back as a valid certificate of the fault and of what the line claims, where
-- it claims anything: the line of a loop doesn't.
pub record CertificateHolds (design : FlatDesign) (plan : TestPlan) (place : ℕ) (text : List ℕ) : Type 0 where
  pub fault : StuckAt
  pub is_listed : listed plan place ≡ Some fault
  pub line : FaultGrade
  pub text_is : text ≡ certificate design plan fault line
  pub line_holds : LineHolds design plan fault line
  pub valid : (claim : Claim) → claim_as design line ≡ Some claim → outcome design plan (lines_of text) ≡ Shows fault claim
