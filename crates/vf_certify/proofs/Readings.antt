-- A certificate is read as a valid one.
use Rattle.std.proofs.Common.{◌≡◌, ℕ, List, sym, ap, subst, ◌∙◌}
use Rattle.std.specs.Prelude.{Some}
use Rattle.std.specs.List.{Contains}
use Rattle.vf_base.specs.Lists.{AllHold}
use Rattle.v_design.specs.Designs.{FlatDesign, TestPlan, StuckAt}
use Rattle.v_design.specs.Sites.{sites_of}
use Rattle.v_design.specs.Grades.{FaultGrade, Judged, Raced, Looped, grade}
use Rattle.v_design.specs.WellFormed.{KeepsRules, IsPlan}
use Rattle.text_lines.specs.Text.{lines_of}
use Rattle.cert_laws.specs.Claims.{Claim}
use Rattle.cert_laws.specs.Valid.{Shows, outcome}
use Rattle.cert_laws.specs.Written.{claim_as, lines_by}
use Rattle.cert_text.specs.Fits.{LineFits}
use Rattle.cert_text.specs.Readable.{IsGradeOf, CertificatesAreRead}
use Rattle.race_laws.specs.Races.{RacesNameParts}
use Rattle.vf_certify.specs.Answers.{IsCertificate}

-- the accesses of a race are of the design
is-grade-of : RacesNameParts → (design : FlatDesign) (plan : TestPlan) (fault : StuckAt) (line : FaultGrade) → KeepsRules design → IsPlan plan → grade design plan fault ≡ Some line →
    IsGradeOf design line
is-grade-of law design plan fault (Judged verdict) rules planned graded = tt
is-grade-of law design plan fault (Raced side pair) rules planned graded =
    let h = law design plan fault side pair rules planned graded in (record { object = h.0.object; process = h.0.process }, record { object = h.1.object; process = h.1.process })
is-grade-of law design plan fault (Looped time) rules planned graded = tt

pub is-read : CertificatesAreRead → RacesNameParts → (design : FlatDesign) (plan : TestPlan) (fault : StuckAt) (given line : FaultGrade) (claim : Claim) (text : List ℕ) → KeepsRules design →
    IsPlan plan → grade design plan fault ≡ Some given → IsCertificate design plan fault given text → Contains (sites_of design) fault.site → grade design plan fault ≡ Some line →
    claim_as design line ≡ Some claim → outcome design plan (lines_of text) ≡ Shows fault claim
is-read law races design plan fault given line claim text rules planned found is site graded claimed =
    let same : given ≡ line = some-is given line (sym found ∙ graded) in
    let cert = subst (λ x. IsCertificate design plan fault x text) same is in
    ap (λ t. outcome design plan (lines_of t)) cert.text_is
    ∙ law design plan fault line claim rules planned site cert.numbered graded claimed
    (is-grade-of races design plan fault line rules planned graded) cert.grade_fits (subst (λ o. AllHold LineFits (lines_by design plan fault o)) claimed cert.lines_fit)
  where
    some-is : (one other : FaultGrade) → Some one ≡ Some other → one ≡ other
    some-is one other e = cc
