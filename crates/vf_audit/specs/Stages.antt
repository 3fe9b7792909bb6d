-- How the lines behind the claim are followed (the format is this program's own).
use Rattle.std.specs.Prelude.{◌≡◌, ℕ, List, [], ◌∷◌, Some, None}
use Rattle.v_design.specs.Designs.{FlatDesign, TestPlan, StuckAt}
use Rattle.v_design.specs.Plain.{fault_of, grade_of}
use Rattle.v_design.specs.Grades.{FaultGrade}
use Rattle.cert_laws.specs.Claims.{Claim}
use Rattle.cert_laws.specs.Valid.{CertLine, Stage, failing_from}
use Rattle.cert_laws.specs.Written.{claim_as}
use Rattle.vf_audit.specs.Ends.{RaceHolds}
use Rattle.vf_audit.specs.declared.answers.Audited.{Audited}
use Rattle.vf_audit.specs.declared.answers.Audited.TheVariants.{Yes, No}

-- the first line, if there is one, isn't this
abbrev pub BeginsOtherwise : CertLine → List CertLine → Type 0
BeginsOtherwise wanted [] = Unit {0}
BeginsOtherwise wanted (said ∷ lines) = ¬ (said ≡ wanted)

-- no line fails, and the end claims what is claimed
pub record ShowsEnd (design : FlatDesign) (plan : TestPlan) (fault : StuckAt) (claim : Claim) (number : ℕ) (stage : Stage) (lines : List CertLine) (found : StuckAt) (end : FaultGrade) : Type 0 where
  pub fault_is : found ≡ fault
  pub valid : failing_from design plan fault claim number stage lines ≡ None
  pub claims : claim_as design end ≡ Some claim
  pub race : RaceHolds design fault end

-- the answer of lines that are followed from a stage on, the first with this number
abbrev pub FollowsFrom : FlatDesign → TestPlan → StuckAt → Claim → ℕ → Stage → List CertLine → Audited → Type 0
FollowsFrom design plan fault claim number stage lines (Yes found end) = ShowsEnd design plan fault claim number stage lines (fault_of found) (grade_of end)
FollowsFrom design plan fault claim number stage lines (No failing) = failing_from design plan fault claim number stage lines ≡ Some failing
