-- What an audit answers by the line of the claim.
use Rattle.std.proofs.Common.{◌≡◌, ℕ, List, [], ◌∷◌, ◌++◌, Bool, true, false, sym, ap, subst, ◌∙◌}
use Rattle.std.specs.Prelude.{Option, Some, None, option_map, codes, cond}
use Rattle.std.specs.Str.{bytes_eq}
use Rattle.v_design.specs.Designs.{FlatDesign, StuckAt, TestPlan}
use Rattle.v_design.specs.Grades.{FaultGrade, Judged, Raced, Looped}
use Rattle.v_design.specs.Laws.{LineHolds}
use Rattle.v_design.specs.Plain.{fault_of, grade_of}
use Rattle.v_design.specs.WellFormed.{KeepsRules, IsPlan}
use Rattle.v_design.specs.declared.plan.Fault.{Fault}
use Rattle.text_lines.specs.Text.{lines_of}
use Rattle.cert_laws.specs.Claims.{Claim, Says, claim_of}
use Rattle.cert_laws.specs.Meaning.{ClaimHolds, YesHolds}
use Rattle.cert_laws.specs.Valid.{CertLine, Before, failing_from, Outcome, Fails, Shows, outcome_by, claimed_outcome, headed_outcome, outcome, lines_said}
use Rattle.cert_laws.specs.Written.{claim_as}
use Rattle.cert_text.specs.Views.{claim_said, claimed_said}
use Rattle.cert_text.specs.declared.claim.Claim.{Claim as ClaimKept}
use Rattle.vf_audit.specs.Answers.{second_line, IsAudit}
use Rattle.vf_audit.specs.Claimed.{outcome_behind, IsAuditBehind}
use Rattle.vf_audit.specs.Ends.{RaceHolds}
use Rattle.vf_audit.specs.Stages.{FollowsFrom}
use Rattle.vf_audit.specs.declared.answers.Audited.{Audited}
use Rattle.vf_audit.specs.declared.answers.Audited.TheVariants.{Yes, No}
use Rattle.vf_audit.proofs.Printed.{line-printed}

-- What is claimed holds

end-holds : YesHolds → (design : FlatDesign) (plan : TestPlan) (fault : StuckAt) (claim : Claim) (lines : List CertLine) (end : FaultGrade) → KeepsRules design → IsPlan plan →
    failing_from design plan fault claim 3 Before lines ≡ None → claim_as design end ≡ Some claim → RaceHolds design fault end → LineHolds design plan fault end
end-holds holds design plan fault claim lines (Judged verdict) rules planned valid claims race =
    let is : Says verdict ≡ claim = cc in
    let told : ClaimHolds design plan fault claim = holds design plan fault claim 3 lines rules planned valid in
    subst (ClaimHolds design plan fault) (sym is) told
end-holds holds design plan fault claim lines (Raced side pair) rules planned valid claims race = race
end-holds holds design plan fault claim lines (Looped time) rules planned valid claims race = cc

-- The line of the claim

module _ (design : FlatDesign) (plan : TestPlan) (line : List ℕ) (rest : List (List ℕ)) where
  -- it is none
  pub claims-none : (claimed : Option (Fault × ClaimKept)) → option_map claimed_said claimed ≡ claim_of design line → claimed ≡ None → outcome_behind design plan line rest ≡ Fails 2
  claims-none claimed read none = ap (claimed_outcome design plan (lines_said rest)) (sym read ∙ ap (option_map claimed_said) none)

  said-is : (claimed : Option (Fault × ClaimKept)) (fault : Fault) (claim : ClaimKept) → option_map claimed_said claimed ≡ claim_of design line → claimed ≡ Some (fault, claim) →
      claim_of design line ≡ Some (fault_of fault, claim_said claim)
  said-is claimed fault claim read some = sym read ∙ ap (option_map claimed_said) some

  -- it claims something of a fault
  pub claims-some : YesHolds → KeepsRules design → IsPlan plan → (claimed : Option (Fault × ClaimKept)) (fault : Fault) (claim : ClaimKept) (audited : Audited) →
      option_map claimed_said claimed ≡ claim_of design line → claimed ≡ Some (fault, claim) →
      FollowsFrom design plan (fault_of fault) (claim_said claim) 3 Before (lines_said rest) audited → IsAuditBehind design plan line rest audited
  claims-some holds rules planned claimed fault claim (Yes found end) read some f =
      let is = said-is claimed fault claim read some in
      let valid : outcome_behind design plan line rest ≡ Shows (fault_of fault) (claim_said claim) =
      ap (claimed_outcome design plan (lines_said rest)) is ∙ ap (outcome_by (fault_of fault) (claim_said claim)) f.valid in
      record {
        claim = claim_said claim;
        valid = valid ∙ ap (λ x. Shows x (claim_said claim)) (sym f.fault_is);
        printed = line-printed design line (fault_of found) (claim_said claim) (grade_of end) (is ∙ ap (λ (x : StuckAt). Some (x, claim_said claim)) (sym f.fault_is)) f.claims;
        holds = subst (λ (x : StuckAt). LineHolds design plan x (grade_of end)) (sym f.fault_is)
            (end-holds holds design plan (fault_of fault) (claim_said claim) (lines_said rest) (grade_of end) rules planned f.valid f.claims f.race);
      }
  claims-some holds rules planned claimed fault claim (No failing) read some f =
      ap (claimed_outcome design plan (lines_said rest)) (said-is claimed fault claim read some) ∙ ap (outcome_by (fault_of fault) (claim_said claim)) f

-- The lines

module _ (design : FlatDesign) (plan : TestPlan) (text : List ℕ) where
  -- there is none
  pub no-head : (lines : List (List ℕ)) → lines ≡ lines_of text → lines ≡ [] → outcome design plan (lines_of text) ≡ Fails 1
  no-head lines is none = ap (outcome design plan) (sym is ∙ none)

  abbrev headed : List (List ℕ) → Bool → Outcome
  headed rest head = cond head (headed_outcome design plan rest) (Fails 1)

  -- the first isn't the head
  pub other-head : (head : List ℕ) (rest : List (List ℕ)) → head ∷ rest ≡ lines_of text → bytes_eq head (codes "vfault cert 1") ≡ false → outcome design plan (lines_of text) ≡ Fails 1
  other-head head rest is other = ap (outcome design plan) (sym is) ∙ ap (headed rest) other

  -- there is no other
  pub no-claim : (head : List ℕ) (rest : List (List ℕ)) → head ∷ rest ≡ lines_of text → bytes_eq head (codes "vfault cert 1") ≡ true → rest ≡ [] → outcome design plan (lines_of text) ≡ Fails 2
  no-claim head rest is same none = ap (outcome design plan) (sym is) ∙ ap (headed rest) same ∙ ap (headed_outcome design plan) none

  behind-head : (head line : List ℕ) (rest : List (List ℕ)) → head ∷ line ∷ rest ≡ lines_of text → bytes_eq head (codes "vfault cert 1") ≡ true →
      outcome design plan (lines_of text) ≡ outcome_behind design plan line rest
  behind-head head line rest is same = ap (outcome design plan) (sym is) ∙ ap (headed (line ∷ rest)) same

  -- the lines behind the head
  pub is-audit : (head line : List ℕ) (rest : List (List ℕ)) (audited : Audited) → head ∷ line ∷ rest ≡ lines_of text → bytes_eq head (codes "vfault cert 1") ≡ true →
      IsAuditBehind design plan line rest audited → IsAudit design plan text audited
  is-audit head line rest (Yes fault end) is same a = record {
    claim = a.claim;
    valid = behind-head head line rest is same ∙ a.valid;
    printed = a.printed ∙ ap (λ lines. second_line lines ++ 10 ∷ []) is;
    holds = a.holds;
  }
  is-audit head line rest (No number) is same a = behind-head head line rest is same ∙ a
