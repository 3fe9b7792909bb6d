-- The text of a certificate, as it is read.
use Rattle.std.proofs.Common.{◌≡◌, ℕ, List, [], ◌∷◌, ◌++◌, Some, None, map, codes, refl, ◌∙◌, ap}
use Rattle.vf_base.specs.Lists.{AllHold, joined}
use Rattle.v_design.specs.Designs.{FlatDesign, StuckAt, TestPlan}
use Rattle.v_design.specs.Sites.{site_name}
use Rattle.v_design.specs.Grades.{FaultGrade, Looped}
use Rattle.v_design.specs.WellFormed.{KeepsRules}
use Rattle.text_lines.specs.Text.{lines_of}
use Rattle.fault_list.specs.Spelled.{site_spelled}
use Rattle.fault_list.specs.RoundTrip.{NamesAreRead}
use Rattle.cert_laws.specs.Claims.{Claim, value_of_word, named_site, fault_by, line_claims, claim_of}
use Rattle.cert_laws.specs.Valid.{CertLine, Closes, Before, failing_from, outcome_by, claimed_outcome, lines_said, outcome}
use Rattle.cert_laws.specs.Written.{claim_as, lines_by, cert_line_text, certificate}
use Rattle.cert_laws.specs.Certified.{GradesCertified}
use Rattle.cert_text.specs.Fits.{LineFits}
use Rattle.cert_text.specs.Readable.{CertificatesAreRead, LoopsFail}
use Rattle.cert_text.proofs.Digits.{closed-word}
use Rattle.cert_text.proofs.Worded.{in_words, AreWords, ended, parts-words, lines-text}
use Rattle.cert_text.proofs.CertWords.{cert_words, joined-text, lines-are, lines-read}
use Rattle.cert_text.proofs.FaultWords.{fault_words, value_word, claim_words, fault-text, fault-are}
use Rattle.cert_text.proofs.FaultRead.{fault-read}
use Rattle.cert_text.proofs.Claimed.{claims-none}

-- the words of the first line
abbrev head_words : List (List ℕ)
head_words = codes "vfault" ∷ codes "cert" ∷ codes "1" ∷ []

head-are : AreWords head_words
head-are = (closed-word (codes "vfault") refl, (closed-word (codes "cert") refl, (closed-word (codes "1") refl, tt)))

module _ (design : FlatDesign) (plan : TestPlan) (fault : StuckAt) (line : FaultGrade) (lines : List CertLine) where
  -- the words of all lines
  abbrev all_words : List (List (List ℕ))
  all_words = head_words ∷ fault_words design fault line ∷ map cert_words lines

  cert-text : lines_by design plan fault (claim_as design line) ≡ lines → AllHold LineFits lines → certificate design plan fault line ≡ joined (map ended all_words)
  cert-text are h =
      ap (λ l. (codes "vfault cert 1" ++ 10 ∷ l) ++ joined (map cert_line_text (lines_by design plan fault (claim_as design line)))) (fault-text design fault line)
      ∙ (ap (λ l. (codes "vfault cert 1" ++ 10 ∷ ended (fault_words design fault line)) ++ joined (map cert_line_text l)) are
      ∙ ap (λ l. (codes "vfault cert 1" ++ 10 ∷ ended (fault_words design fault line)) ++ l) (joined-text lines h))

  -- they are its lines
  cert-lines : KeepsRules design → lines_by design plan fault (claim_as design line) ≡ lines → AllHold LineFits lines → lines_of (certificate design plan fault line) ≡ map in_words all_words
  cert-lines k are h = ap lines_of (cert-text are h) ∙ lines-text all_words (head-are, (fault-are design fault line k, lines-are lines))

  -- and they show what fails first of the lines that were written
  cert-outcome : (claim : Claim) → KeepsRules design → claim_of design (in_words (fault_words design fault line)) ≡ Some (fault, claim) →
      lines_by design plan fault (claim_as design line) ≡ lines → AllHold LineFits lines →
      outcome design plan (lines_of (certificate design plan fault line)) ≡ outcome_by fault claim (failing_from design plan fault claim 3 Before lines)
  cert-outcome claim k said are h =
      ap (outcome design plan) (cert-lines k are h)
      ∙ (ap (claimed_outcome design plan (lines_said (map in_words (map cert_words lines)))) said
      ∙ ap (λ l. outcome_by fault claim (failing_from design plan fault claim 3 Before l)) (lines-read lines h))

pub certificates-read : NamesAreRead → GradesCertified → CertificatesAreRead
certificates-read read certified design plan fault line claim k is_plan there numbered graded as_claim of fits h =
    let lines = lines_by design plan fault (Some claim) in
    let said = fault-read design fault line claim k (read design fault.site k numbered there) of fits as_claim in
    cert-outcome design plan fault line lines claim k said (ap (lines_by design plan fault) as_claim) h
    ∙ ap (outcome_by fault claim) (certified design plan fault line claim 3 k is_plan graded as_claim)

-- a loop is no claim
loop-unread : (design : FlatDesign) (fault : StuckAt) (time : ℕ) → KeepsRules design → claim_of design (in_words (fault_words design fault (Looped time))) ≡ None
loop-unread design fault time k =
    let site = site_name design fault.site in
    ap (line_claims design) (parts-words site (value_word fault.value ∷ claim_words design (Looped time)) (fault-are design fault (Looped time) k))
    ∙ claims-none (fault_by (named_site design site (site_spelled design site)) (value_of_word (value_word fault.value)))

pub loops-fail : LoopsFail
loops-fail design plan fault time k =
    ap (outcome design plan) (cert-lines design plan fault (Looped time) (Closes ∷ []) k refl (tt, tt))
    ∙ ap (claimed_outcome design plan (lines_said (map in_words (map cert_words (Closes ∷ []))))) (loop-unread design fault time k)
