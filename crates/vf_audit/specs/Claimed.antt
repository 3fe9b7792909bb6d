-- What an audit answers by the line of the claim and those behind it (the format is this program's own; runs by IEEE 1364-2001, clause 5).
use Rattle.std.specs.Prelude.{◌≡◌, ℕ, List, [], ◌∷◌, ◌++◌}
use Rattle.v_design.specs.Designs.{FlatDesign, TestPlan, StuckAt}
use Rattle.v_design.specs.Grades.{FaultGrade}
use Rattle.v_design.specs.Laws.{LineHolds}
use Rattle.v_design.specs.Plain.{fault_of, grade_of}
use Rattle.grade_report.specs.Report.{fault_line}
use Rattle.cert_laws.specs.Claims.{Claim, claim_of}
use Rattle.cert_laws.specs.Valid.{Outcome, Fails, Shows, claimed_outcome, lines_said}
use Rattle.vf_audit.specs.declared.answers.Audited.{Audited}
use Rattle.vf_audit.specs.declared.answers.Audited.TheVariants.{Yes, No}

-- what the line of a claim and the lines behind it show
abbrev pub outcome_behind : FlatDesign → TestPlan → List ℕ → List (List ℕ) → Outcome
outcome_behind design plan line rest = claimed_outcome design plan (lines_said rest) (claim_of design line)

-- no line fails, the line is that of the fault with the end, and it holds
pub record ShowsClaim (design : FlatDesign) (plan : TestPlan) (line : List ℕ) (rest : List (List ℕ)) (fault : StuckAt) (end : FaultGrade) : Type 0 where
  pub claim : Claim
  pub valid : outcome_behind design plan line rest ≡ Shows fault claim
  pub printed : fault_line design fault end ≡ line ++ 10 ∷ []
  pub holds : LineHolds design plan fault end

abbrev pub IsAuditBehind : FlatDesign → TestPlan → List ℕ → List (List ℕ) → Audited → Type 0
IsAuditBehind design plan line rest (Yes fault end) = ShowsClaim design plan line rest (fault_of fault) (grade_of end)
IsAuditBehind design plan line rest (No number) = outcome_behind design plan line rest ≡ Fails number
