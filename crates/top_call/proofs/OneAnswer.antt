-- What is decided is decided alone.
use Rattle.std.proofs.Common.{◌≡◌, ℕ, ◌<◌, ◌≤◌, List, length, codes, Option, Some, None, Result, Ok, Err, refl, sym, ap, subst, ◌∙◌, inl, inr, arith, lit<}
use Rattle.std.specs.Prelude.{◌≢◌}
use Rattle.vf_base.specs.Shelf.{Files, content_of}
use Rattle.v_design.specs.Designs.{FlatDesign, TestPlan}
use Rattle.v_design.specs.Grades.{Sample}
use Rattle.vf_status.specs.elaborate.declared.design_fault.DesignFault.{DesignFault}
use Rattle.vf_status.specs.elaborate.Meanings as texts
use Rattle.design_report.specs.Texts.{check_text, IsFaultsText, IsTheFaultsText}
use Rattle.outputs_exist.specs.plan_report.declared.fault.ReportFault.{ReportFault}
use Rattle.outputs_exist.specs.plan_report.declared.fault.ReportFault.TheVariants as reported
use Rattle.outputs_exist.specs.plan_report.Reports as reports
use Rattle.outputs_exist.specs.plan_report.declared.extent.Extent.TheVariants.{Lines, Totals}
use Rattle.plan_read.specs.Spelled as plans
use Rattle.plan_read.specs.declared.fault.PlanFault.{PlanFault}
use Rattle.outputs_exist.specs.plan_report.OneMeaning.{one-plan, one-reason, no-reason}
use Rattle.response_text.specs.Reading.{response_of}
use Rattle.response_text.specs.Spelled as responses
use Rattle.response_text.specs.declared.fault.ResponseFault.{ResponseFault}
use Rattle.response_text.specs.declared.fault.ResponseFault.TheVariants as response_faults
use Rattle.outputs_exist.specs.dict_report.declared.fault.OutputFault.{OutputFault}
use Rattle.outputs_exist.specs.dict_report.declared.fault.OutputFault.TheVariants as output_faults
use Rattle.outputs_exist.specs.dict_report.Outputs as outputs
use Rattle.outputs_exist.specs.cert_report.declared.fault.CertifyFault.{CertifyFault}
use Rattle.outputs_exist.specs.cert_report.declared.fault.CertifyFault.TheVariants as certify_faults
use Rattle.outputs_exist.specs.cert_report.Certificates as certificates
use Rattle.outputs_exist.specs.cert_report.Audits as audits
use Rattle.soak_text.specs.Soak as soaks
use Rattle.v_elab.specs.declared.Mode.TheVariants.{Usual}
use Rattle.vf_words.specs.Words.{Source, Form, Grade, Check, Faults, Soak, Dict, Diagnose, Certify, Audit, Pick}
use Rattle.vf_status.specs.declared.status.Which.{Which}
use Rattle.vf_status.specs.declared.status.Which.TheVariants as whiches
use Rattle.vf_status.specs.declared.status.Refusal.{Refusal}
use Rattle.vf_status.specs.declared.status.Refusal.TheVariants as refusals
use Rattle.top_call.specs.declared.purpose.Purpose.{Purpose}
use Rattle.top_call.specs.declared.purpose.Purpose.TheVariants.{Dictionary, Certificate}
use Rattle.top_call.specs.Answers.{Answer, Outputs, Refuses, Lacks, Exceeds, most_of, IsFile, HoldDesign, excess, HoldPlan, HoldResponse, AfterFile, refusal_of, IsRefusal, GoesOn, AfterDesign}
use Rattle.top_call.specs.Answers.{AfterSource, IsReported, AfterPlan, PlanMeans, AfterRoom, PlanGoesOn, AfterPlanText, AfterTest, ResponseMeans, ResponseGoesOn, AfterResponse, IsMade}
use Rattle.top_call.specs.Answers.{AfterOutput, AfterObserved, IsCertified, AfterPlace, AfterCert, AfterAudited, IsCounted, IsSoaked, IsTheAnswer}
use Rattle.top_call.specs.Outside.{ComesTo, Names, MakesDictionary}
use Rattle.top_call.specs.Making.{IsLongFile, HoldRefused, RefusesText, HoldRefusedPlan, RefusesObserved, HoldRefusedResponse}

-- an answer, and the only one
abbrev pub The : (Answer → Type 0) → Answer → Type 0
The P answer = P answer × ((other : Answer) → P other → other ≡ answer)

-- what a text means decides, where it means one thing
the-meaning : {M : Type 0} (means : M → Type 0) (goes : M → Answer → Type 0) (meaning : M) (answer : Answer) → means meaning → ((other : M) → means other → other ≡ meaning) →
    The (goes meaning) answer →
    The (λ a. (m : M) × means m × goes m a) answer
the-meaning means goes meaning answer is only t = ((meaning, is, t.0), λ other h. t.1 other (subst (λ m. goes m other) (only h.0 h.1) h.2))

some-is : (one other : List ℕ) → Some one ≡ Some other → one ≡ other
some-is one other e = cc

-- Files

module _ (which : Which) (next : List ℕ → Answer → Type 0) where
  pub the-lacks : (content : Option (List ℕ)) → content ≡ None → The (AfterFile which content next) (Lacks which)
  the-lacks None e = (refl, λ other h. h)
  the-lacks (Some bytes) e = absurd (cc)

  pub the-exceeds : (content : Option (List ℕ)) (bytes : List ℕ) → content ≡ Some bytes → most_of which < length bytes → The (AfterFile which content next) (Exceeds which)
  the-exceeds None bytes e long = absurd (cc)
  the-exceeds (Some found) bytes e long = (inl (subst (λ bs. most_of which < length bs) (sym (some-is found bytes e)) long, refl), only)
    where
      only : (other : Answer) → AfterFile which (Some found) next other → other ≡ Exceeds which
      only other (inl h) = h.1
      only other (inr h) = let same = ap length (some-is found bytes e) in absurd (omega (arith, h.0, long, same))

  pub the-file : (content : Option (List ℕ)) (bytes : List ℕ) (answer : Answer) → content ≡ Some bytes → length bytes ≤ most_of which → The (next bytes) answer →
      The (AfterFile which content next) answer
  the-file None bytes answer e short t = absurd (cc)
  the-file (Some found) bytes answer e short t = (
    inr (subst (λ bs. length bs ≤ most_of which) (sym (some-is found bytes e)) short, subst (λ bs. next bs answer) (sym (some-is found bytes e)) t.0),
    only,
  )
    where
      only : (other : Answer) → AfterFile which (Some found) next other → other ≡ answer
      only other (inl h) = let same = ap length (some-is found bytes e) in absurd (omega (arith, h.0, short, same))
      only other (inr h) = t.1 other (subst (λ bs. next bs other) (some-is found bytes e) h.1)

-- Designs

module _ (source : Source) (next : FlatDesign → Answer → Type 0) where
  goes-on : (bytes : List ℕ) (meaning : Result FlatDesign DesignFault) (answer : Answer) → texts.IsTheMeaning bytes source.top source.mode meaning → The (GoesOn next meaning) answer →
      The (AfterDesign source next bytes) answer
  goes-on bytes meaning answer is t = the-meaning (texts.Means bytes source.top source.mode) (GoesOn next) meaning answer is.means is.only t

  refused : (reason : Option Refusal) (why : Refusal) → reason ≡ Some why → The (IsRefusal reason) (Refuses why)
  refused None why e = absurd (cc)
  refused (Some found) why e = let same : found ≡ why = cc in (ap Refuses (sym same), λ other h. h ∙ ap Refuses same)

  pub source-lacks : (files : Files) → content_of files source.design ≡ None → The (AfterSource source files next) (Lacks whiches.Design)
  source-lacks files e = the-lacks whiches.Design (AfterDesign source next) (content_of files source.design) e

  pub source-exceeds : (files : Files) → IsLongFile files source.design whiches.Design → The (AfterSource source files next) (Exceeds whiches.Design)
  source-exceeds files h = the-exceeds whiches.Design (AfterDesign source next) (content_of files source.design) h.bytes h.held h.long

  pub source-refused : (files : Files) (why : Refusal) → HoldRefused files source why → The (AfterSource source files next) (Refuses why)
  source-refused files why h =
      the-file whiches.Design (AfterDesign source next) (content_of files source.design) h.bytes (Refuses why) h.file.held h.file.short
      (goes-on h.bytes (Err h.fault) (Refuses why) h.meaning (refused (refusal_of h.fault) why h.told))

  pub source-design : (files : Files) (design : FlatDesign) (answer : Answer) → HoldDesign files source design → The (next design) answer → The (AfterSource source files next) answer
  source-design files design answer h t =
      the-file whiches.Design (AfterDesign source next) (content_of files source.design) h.bytes answer h.file.held h.file.short (goes-on h.bytes (Ok design) answer h.meaning t)

-- Plans

reported-one : (meaning : Result (List ℕ) ReportFault) (one other : Answer) → IsReported meaning one → IsReported meaning other → other ≡ one
reported-one (Ok report) one other h d = d ∙ sym h
reported-one (Err (reported.Plan fault)) one other h d = d ∙ sym h
reported-one (Err (reported.GoodLoop time)) one other h d = d ∙ sym h
reported-one (Err reported.NoMemory) one other h d = absurd h

pub the-plan : (design : FlatDesign) (bytes : List ℕ) (meaning : Result (List ℕ) ReportFault) (answer : Answer) → reports.IsTheMeaning Lines design bytes meaning → IsReported meaning answer →
    The (AfterPlan design bytes) answer
the-plan design bytes meaning answer is told = the-meaning (reports.Means Lines design bytes) IsReported meaning answer is.means is.only (told, λ other h. reported-one meaning answer other told h)

-- a plan's text means one thing
plan-meaning : (design : FlatDesign) (bytes : List ℕ) (one other : Result TestPlan PlanFault) → PlanMeans design bytes one → PlanMeans design bytes other → other ≡ one
plan-meaning design bytes (Ok one) (Ok other) h d = ap (λ p. Ok p) (one-plan design bytes other one d h)
plan-meaning design bytes (Ok one) (Err other) h d = absurd (no-reason design bytes one other h d.0 d.1)
plan-meaning design bytes (Err one) (Ok other) h d = absurd (no-reason design bytes other one d h.0 h.1)
plan-meaning design bytes (Err one) (Err other) h d = ap (λ f. Err f) (one-reason design bytes other one d.0 h.0 d.1 h.1)

-- Plans for a purpose

room-refused : (room : Option ℕ) (most : ℕ) (next : Answer → Type 0) → room ≡ Some most → The (AfterRoom room next) (Refuses (refusals.TooLarge most))
room-refused None most next e = absurd (cc)
room-refused (Some found) most next e =
    let same : found ≡ most = cc in (ap (λ n. Refuses (refusals.TooLarge n)) (sym same), λ other h. h ∙ ap (λ n. Refuses (refusals.TooLarge n)) same)

room-left : (room : Option ℕ) (next : Answer → Type 0) (answer : Answer) → room ≡ None → The next answer → The (AfterRoom room next) answer
room-left None next answer e t = t
room-left (Some found) next answer e t = absurd (cc)

module _ (purpose : Purpose) (design : FlatDesign) (next : TestPlan → Answer → Type 0) (bytes : List ℕ) where
  text-refused : (why : Refusal) → RefusesText purpose design bytes why → The (AfterPlanText purpose design next bytes) (Refuses why)
  text-refused (refusals.Scan fault) h = absurd h
  text-refused (refusals.Parse fault) h = absurd h
  text-refused (refusals.Elab fault) h = absurd h
  text-refused (refusals.Plan fault) h =
      the-meaning (PlanMeans design bytes) (PlanGoesOn purpose next) (Err fault) (Refuses (refusals.Plan fault)) h (λ other d. plan-meaning design bytes (Err fault) other h d) (refl, λ other o. o)
  text-refused (refusals.Response fault) h = absurd h
  text-refused (refusals.TooLarge room) h =
      the-meaning (PlanMeans design bytes) (PlanGoesOn purpose next) (Ok h.0) (Refuses (refusals.TooLarge room)) h.1 (λ other d. plan-meaning design bytes (Ok h.0) other h.1 d)
      (room-refused (excess purpose h.0) room (next h.0) h.2)
  text-refused (refusals.NoFault place) h = absurd h

  text-spells : (plan : TestPlan) (answer : Answer) → plans.Spells design bytes plan → excess purpose plan ≡ None → The (next plan) answer →
      The (AfterPlanText purpose design next bytes) answer
  text-spells plan answer spelled roomy t =
      the-meaning (PlanMeans design bytes) (PlanGoesOn purpose next) (Ok plan) answer spelled (λ other d. plan-meaning design bytes (Ok plan) other spelled d)
      (room-left (excess purpose plan) (next plan) answer roomy t)

-- Responses

same-samples : (found : Result (List Sample) ℕ) (one other : List Sample) → found ≡ Ok one → found ≡ Ok other → other ≡ one
same-samples found one other h d = cc

same-line : (found : Result (List Sample) ℕ) (one other : ℕ) → found ≡ Err one → found ≡ Err other → other ≡ one
same-line found one other h d = cc

-- a response's text means one thing
module _ (plan : TestPlan) (bytes : List ℕ) where
  spelled-refused : (observed : List Sample) (fault : ResponseFault) → responses.Spells plan bytes observed → responses.Refuses plan bytes fault → fault ≢ response_faults.NoMemory → ⊥
  spelled-refused observed (response_faults.BadLine n) s r other = let same : Ok observed ≡ Err n = sym s.samples_are ∙ r.1 in cc
  spelled-refused observed response_faults.TooLong s r other = omega (arith, s.short, r)
  spelled-refused observed response_faults.NoMemory s r other = other refl

  one-fault : (one other : ResponseFault) → responses.Refuses plan bytes one → responses.Refuses plan bytes other → one ≢ response_faults.NoMemory → other ≢ response_faults.NoMemory → other ≡ one
  one-fault (response_faults.BadLine n) (response_faults.BadLine m) h d p q = ap response_faults.BadLine (same-line (response_of plan bytes) n m h.1 d.1)
  one-fault (response_faults.BadLine n) response_faults.TooLong h d p q = absurd (omega (arith, h.0, d))
  one-fault (response_faults.BadLine n) response_faults.NoMemory h d p q = absurd (q refl)
  one-fault response_faults.TooLong (response_faults.BadLine m) h d p q = absurd (omega (arith, d.0, h))
  one-fault response_faults.TooLong response_faults.TooLong h d p q = refl
  one-fault response_faults.TooLong response_faults.NoMemory h d p q = absurd (q refl)
  one-fault response_faults.NoMemory other h d p q = absurd (p refl)

  response-meaning : (one other : Result (List Sample) ResponseFault) → ResponseMeans plan bytes one → ResponseMeans plan bytes other → other ≡ one
  response-meaning (Ok one) (Ok other) h d = ap (λ x. Ok x) (same-samples (response_of plan bytes) one other h.samples_are d.samples_are)
  response-meaning (Ok one) (Err other) h d = absurd (spelled-refused one other h d.0 d.1)
  response-meaning (Err one) (Ok other) h d = absurd (spelled-refused other one d h.0 h.1)
  response-meaning (Err one) (Err other) h d = ap (λ f. Err f) (one-fault one other h.0 d.0 h.1 d.1)

module _ (plan : TestPlan) (next : List Sample → Answer → Type 0) (bytes : List ℕ) where
  response-refused : (why : Refusal) → RefusesObserved plan bytes why → The (AfterResponse plan next bytes) (Refuses why)
  response-refused (refusals.Scan fault) h = absurd h
  response-refused (refusals.Parse fault) h = absurd h
  response-refused (refusals.Elab fault) h = absurd h
  response-refused (refusals.Plan fault) h = absurd h
  response-refused (refusals.Response fault) h =
      the-meaning (ResponseMeans plan bytes) (ResponseGoesOn next) (Err fault) (Refuses (refusals.Response fault)) h (λ other d. response-meaning plan bytes (Err fault) other h d) (refl, λ other o. o)
  response-refused (refusals.TooLarge room) h = absurd h
  response-refused (refusals.NoFault place) h = absurd h

  response-spells : (observed : List Sample) (answer : Answer) → responses.Spells plan bytes observed → The (next observed) answer → The (AfterResponse plan next bytes) answer
  response-spells observed answer spelled t =
      the-meaning (ResponseMeans plan bytes) (ResponseGoesOn next) (Ok observed) answer spelled (λ other d. response-meaning plan bytes (Ok observed) other spelled d) t

-- Outputs over a dictionary

made-one : (meaning : Result (List ℕ) OutputFault) (one other : Answer) → IsMade meaning one → IsMade meaning other → other ≡ one
made-one (Ok text) one other h d = d ∙ sym h
made-one (Err (output_faults.GoodLoop time)) one other h d = d ∙ sym h
made-one (Err output_faults.NoMemory) one other h d = absurd h

pub the-output : (output : outputs.Output) (design : FlatDesign) (plan : TestPlan) (meaning : Result (List ℕ) OutputFault) (answer : Answer) → outputs.IsTheMeaning output design plan meaning →
    IsMade meaning answer →
    The (AfterOutput output design plan) answer
the-output output design plan meaning answer is told = the-meaning (outputs.Means output design plan) IsMade meaning answer is.means is.only (told, λ other h. made-one meaning answer other told h)

-- Certificates

certified-one : (meaning : Result (List ℕ) CertifyFault) (one other : Answer) → IsCertified meaning one → IsCertified meaning other → other ≡ one
certified-one (Ok text) one other h d = d ∙ sym h
certified-one (Err (certify_faults.NoFault place)) one other h d = d ∙ sym h
certified-one (Err (certify_faults.GoodLoop time)) one other h d = d ∙ sym h
certified-one (Err certify_faults.NoMemory) one other h d = absurd h

pub the-certificate : (place : ℕ) (design : FlatDesign) (plan : TestPlan) (meaning : Result (List ℕ) CertifyFault) (answer : Answer) → certificates.IsTheMeaning design plan place meaning →
    IsCertified meaning answer →
    The (AfterPlace place design plan) answer
the-certificate place design plan meaning answer is told =
    the-meaning (certificates.Means design plan place) IsCertified meaning answer is.means is.only (told, λ other h. certified-one meaning answer other told h)

-- Forms

module _ (source : Source) (plan : List ℕ) (workers : ℕ) (files : Files) where
  abbrev pub over_design : FlatDesign → Answer → Type 0
  over_design design = AfterFile whiches.Plan (content_of files plan) (AfterPlan design)

  pub plan-lacks : (design : FlatDesign) → HoldDesign files source design → content_of files plan ≡ None → IsTheAnswer (Grade source plan workers) files (Lacks whiches.Plan)
  plan-lacks design h e =
      let t = source-design source over_design files design (Lacks whiches.Plan) h (the-lacks whiches.Plan (AfterPlan design) (content_of files plan) e) in record { is = t.0; only = t.1 }

  pub plan-exceeds : (design : FlatDesign) → HoldDesign files source design → IsLongFile files plan whiches.Plan → IsTheAnswer (Grade source plan workers) files (Exceeds whiches.Plan)
  plan-exceeds design h l =
      let t = source-design source over_design files design (Exceeds whiches.Plan) h (the-exceeds whiches.Plan (AfterPlan design) (content_of files plan) l.bytes l.held l.long) in
      record { is = t.0; only = t.1 }

  pub plan-tells : (design : FlatDesign) (bytes : List ℕ) (meaning : Result (List ℕ) ReportFault) (answer : Answer) → HoldDesign files source design → IsFile files plan whiches.Plan bytes →
      reports.IsTheMeaning Lines design bytes meaning → IsReported meaning answer → IsTheAnswer (Grade source plan workers) files answer
  plan-tells design bytes meaning answer h f is told =
      let t = source-design source over_design files design answer h (the-file whiches.Plan (AfterPlan design) (content_of files plan) bytes answer f.held f.short
      (the-plan design bytes meaning answer is told)) in
      record { is = t.0; only = t.1 }

  pub grade-form : (answer : Answer) → The (AfterSource source files over_design) answer → IsTheAnswer (Grade source plan workers) files answer
  grade-form answer t = record { is = t.0; only = t.1 }

abbrev pub check_next : FlatDesign → Answer → Type 0
check_next design answer = answer ≡ Outputs (check_text design)

abbrev pub faults_next : FlatDesign → Answer → Type 0
faults_next design answer = (text : List ℕ) × IsFaultsText design text × (answer ≡ Outputs text)

module _ (source : Source) (files : Files) where
  pub check-form : (answer : Answer) → The (AfterSource source files check_next) answer → IsTheAnswer (Check source) files answer
  check-form answer t = record { is = t.0; only = t.1 }

  pub faults-form : (answer : Answer) → The (AfterSource source files faults_next) answer → IsTheAnswer (Faults source) files answer
  faults-form answer t = record { is = t.0; only = t.1 }

  pub check-tells : (design : FlatDesign) (text : List ℕ) → HoldDesign files source design → text ≡ check_text design → IsTheAnswer (Check source) files (Outputs text)
  check-tells design text h e = check-form (Outputs text) (source-design source check_next files design (Outputs text) h (ap Outputs e, λ other o. o ∙ ap Outputs (sym e)))

  pub faults-tell : (design : FlatDesign) (text : List ℕ) → HoldDesign files source design → IsTheFaultsText design text → IsTheAnswer (Faults source) files (Outputs text)
  faults-tell design text h is = faults-form (Outputs text) (source-design source faults_next files design (Outputs text) h ((text, is.is, refl), λ other o. o.2 ∙ ap Outputs (is.only o.0 o.1)))

-- Forms over a plan that is read for a purpose

module _ (source : Source) (plan : List ℕ) (purpose : Purpose) (files : Files) (next : FlatDesign → TestPlan → Answer → Type 0) where
  abbrev OverTest : Answer → Type 0
  OverTest = AfterSource source files (AfterTest purpose files plan next)

  pub test-lacks : (design : FlatDesign) → HoldDesign files source design → content_of files plan ≡ None → The OverTest (Lacks whiches.Plan)
  test-lacks design h e =
      source-design source (AfterTest purpose files plan next) files design (Lacks whiches.Plan) h
      (the-lacks whiches.Plan (AfterPlanText purpose design (next design)) (content_of files plan) e)

  pub test-exceeds : (design : FlatDesign) → HoldDesign files source design → IsLongFile files plan whiches.Plan → The OverTest (Exceeds whiches.Plan)
  test-exceeds design h l =
      source-design source (AfterTest purpose files plan next) files design (Exceeds whiches.Plan) h
      (the-exceeds whiches.Plan (AfterPlanText purpose design (next design)) (content_of files plan) l.bytes l.held l.long)

  pub test-refused : (design : FlatDesign) (why : Refusal) → HoldDesign files source design → HoldRefusedPlan files plan purpose design why → The OverTest (Refuses why)
  test-refused design why h r =
      source-design source (AfterTest purpose files plan next) files design (Refuses why) h
      (the-file whiches.Plan (AfterPlanText purpose design (next design)) (content_of files plan) r.bytes (Refuses why) r.file.held r.file.short
      (text-refused purpose design (next design) r.bytes why r.refused))

  pub test-spelled : (design : FlatDesign) (test : TestPlan) (answer : Answer) → HoldDesign files source design → HoldPlan files plan purpose design test → The (next design test) answer →
      The OverTest answer
  test-spelled design test answer h p t =
      source-design source (AfterTest purpose files plan next) files design answer h
      (the-file whiches.Plan (AfterPlanText purpose design (next design)) (content_of files plan) p.bytes answer p.file.held p.file.short
      (text-spells purpose design (next design) p.bytes test answer p.spelled p.roomy t))

-- what was observed decides a diagnosis
module _ (files : Files) (response : List ℕ) (design : FlatDesign) (test : TestPlan) where
  abbrev ByObserved : List Sample → Answer → Type 0
  ByObserved observed = AfterOutput (outputs.Diagnosis observed) design test

  pub observed-lacks : content_of files response ≡ None → The (AfterObserved files response design test) (Lacks whiches.Response)
  observed-lacks e = the-lacks whiches.Response (AfterResponse test ByObserved) (content_of files response) e

  pub observed-exceeds : IsLongFile files response whiches.Response → The (AfterObserved files response design test) (Exceeds whiches.Response)
  observed-exceeds l = the-exceeds whiches.Response (AfterResponse test ByObserved) (content_of files response) l.bytes l.held l.long

  pub observed-refused : (why : Refusal) → HoldRefusedResponse files response test why → The (AfterObserved files response design test) (Refuses why)
  observed-refused why r =
      the-file whiches.Response (AfterResponse test ByObserved) (content_of files response) r.bytes (Refuses why) r.file.held r.file.short (response-refused test ByObserved r.bytes why r.refused)

  pub observed-spelled : (observed : List Sample) (answer : Answer) → HoldResponse files response test observed → The (ByObserved observed) answer →
      The (AfterObserved files response design test) answer
  observed-spelled observed answer h t =
      the-file whiches.Response (AfterResponse test ByObserved) (content_of files response) h.bytes answer h.file.held h.file.short
      (response-spells test ByObserved h.bytes observed answer h.spelled t)

-- what the bytes of a certificate decide of its audit
module _ (files : Files) (cert : List ℕ) (design : FlatDesign) (test : TestPlan) where
  pub cert-lacks : content_of files cert ≡ None → The (AfterAudited files cert design test) (Lacks whiches.Cert)
  cert-lacks e = the-lacks whiches.Cert (AfterCert design test) (content_of files cert) e

  pub cert-exceeds : IsLongFile files cert whiches.Cert → The (AfterAudited files cert design test) (Exceeds whiches.Cert)
  cert-exceeds l = the-exceeds whiches.Cert (AfterCert design test) (content_of files cert) l.bytes l.held l.long

  pub cert-tells : (bytes text : List ℕ) → IsFile files cert whiches.Cert bytes → text ≡ audits.audit_text design test bytes → The (AfterAudited files cert design test) (Outputs text)
  cert-tells bytes text f e = the-file whiches.Cert (AfterCert design test) (content_of files cert) bytes (Outputs text) f.held f.short (ap Outputs e, λ other o. o ∙ ap Outputs (sym e))

-- a form over a design and a plan that is read for a purpose: what comes next decides its answer
pub record IsOver (form : Form) (source : Source) (plan : List ℕ) (purpose : Purpose) (next : Files → FlatDesign → TestPlan → Answer → Type 0) : Type 0 where
  pub as_form : (files : Files) (answer : Answer) → The (AfterSource source files (AfterTest purpose files plan (next files))) answer → IsTheAnswer form files answer
  pub due : (files : Files) (design : FlatDesign) → HoldDesign files source design → ComesTo form files whiches.Plan
  pub names_design : Names form whiches.Design
  pub names_plan : Names form whiches.Plan
  pub makes : purpose ≡ Dictionary → MakesDictionary form

pub dict-over : (source : Source) (plan : List ℕ) → IsOver (Dict source plan) source plan Dictionary (λ files. AfterOutput outputs.DictText)
dict-over source plan = record {
  as_form = λ files answer t. record { is = t.0; only = t.1 };
  due = λ files design h. (design, h);
  names_design = lit< tt;
  names_plan = lit< tt;
  makes = λ e. tt;
}

pub pick-over : (source : Source) (plan : List ℕ) → IsOver (Pick source plan) source plan Dictionary (λ files. AfterOutput outputs.PickText)
pick-over source plan = record {
  as_form = λ files answer t. record { is = t.0; only = t.1 };
  due = λ files design h. (design, h);
  names_design = lit< tt;
  names_plan = lit< tt;
  makes = λ e. tt;
}

pub diagnose-over : (source : Source) (plan response : List ℕ) → IsOver (Diagnose source plan response) source plan Dictionary (λ files. AfterObserved files response)
diagnose-over source plan response = record {
  as_form = λ files answer t. record { is = t.0; only = t.1 };
  due = λ files design h. (design, h);
  names_design = lit< tt;
  names_plan = lit< tt;
  makes = λ e. tt;
}

pub certify-over : (source : Source) (plan : List ℕ) (place : ℕ) → IsOver (Certify source plan place) source plan Certificate (λ files. AfterPlace place)
certify-over source plan place = record {
  as_form = λ files answer t. record { is = t.0; only = t.1 };
  due = λ files design h. (design, h);
  names_design = lit< tt;
  names_plan = lit< tt;
  makes = λ e. absurd (cc);
}

pub audit-over : (source : Source) (plan cert : List ℕ) → IsOver (Audit source plan cert) source plan Certificate (λ files. AfterAudited files cert)
audit-over source plan cert = record {
  as_form = λ files answer t. record { is = t.0; only = t.1 };
  due = λ files design h. (design, h);
  names_design = lit< tt;
  names_plan = lit< tt;
  makes = λ e. absurd (cc);
}

-- Generated designs

counted-one : (meaning : Result (List ℕ) ReportFault) (one other : Answer) → IsCounted meaning one → IsCounted meaning other → other ≡ one
counted-one (Ok totals) one other h d = d ∙ sym h
counted-one (Err (reported.Plan fault)) one other h d = absurd h
counted-one (Err (reported.GoodLoop time)) one other h d = d ∙ sym h
counted-one (Err reported.NoMemory) one other h d = absurd h

abbrev design_or : FlatDesign → Result FlatDesign DesignFault → FlatDesign
design_or none (Ok design) = design
design_or none (Err fault) = none

-- a generated text says one design
pub generated-design : (number size : ℕ) (design : FlatDesign) → texts.IsTheMeaning (soaks.design_text number size) (codes "top") Usual (Ok design) → (other : FlatDesign) →
    texts.IsDesignOf (soaks.design_text number size) (codes "top") Usual other → other ≡ design
generated-design number size design d other is = ap (design_or design) (d.only (Ok other) is)

pub soak-tells : (number size workers : ℕ) (files : Files) (design : FlatDesign) (meaning : Result (List ℕ) ReportFault) (answer : Answer) →
    texts.IsTheMeaning (soaks.design_text number size) (codes "top") Usual (Ok design) → reports.IsTheMeaning Totals design (soaks.plan_text size) meaning → IsCounted meaning answer →
    IsTheAnswer (Soak number size workers) files answer
soak-tells number size workers files design meaning answer d m told =
    record { is = record { design = design; is_design = d.means; meaning = meaning; means = m.means; counted = told }; only = only }
  where
    only : (other : Answer) → IsSoaked number size other → other ≡ answer
    only other h =
        let means = subst (λ x. reports.Means Totals x (soaks.plan_text size) h.meaning) (generated-design number size design d h.design h.is_design) h.means in
        counted-one meaning answer other told (subst (λ x. IsCounted x other) (m.only h.meaning means) h.counted)
