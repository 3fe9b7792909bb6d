-- What a form needs gives its output.
use Rattle.std.proofs.Common.{◌≡◌, ℕ, ◌≤◌, List, length, Option, Some, None, Ok, refl, sym, subst, inr}
use Rattle.vf_base.specs.Shelf.{Files, content_of}
use Rattle.v_design.specs.Designs.{FlatDesign, TestPlan}
use Rattle.soak_text.specs.Soak as soaks
use Rattle.design_report.specs.Texts.{check_text}
use Rattle.outputs_exist.specs.plan_report.declared.extent.Extent.TheVariants.{Lines, Totals}
use Rattle.outputs_exist.specs.dict_report.Outputs as outputs
use Rattle.outputs_exist.specs.cert_report.Audits as audits
use Rattle.outputs_exist.specs.grades_exist.Existing.{NeverLoops}
use Rattle.outputs_exist.specs.Existing.{ReportsExist, DictionaryOutputsExist, CertificatesExist, FaultsTextsExist}
use Rattle.soak_meanings.specs.SoakMeanings.{TextsAreAccepted}
use Rattle.vf_words.specs.Words.{Source, Form, Grade, Check, Faults, Soak, Dict, Diagnose, Certify, Audit, Pick, Fits}
use Rattle.vf_status.specs.declared.status.Which.{Which}
use Rattle.vf_status.specs.declared.status.Which.TheVariants as whiches
use Rattle.top_call.specs.declared.purpose.Purpose.{Purpose}
use Rattle.top_call.specs.declared.purpose.Purpose.TheVariants.{Dictionary, Certificate}
use Rattle.top_call.specs.Answers.{Answer, Outputs, most_of, IsFile, excess, AfterFile, AfterDesign, AfterSource, AfterPlan, AfterRoom, AfterPlanText, AfterTest, AfterResponse, AfterOutput}
use Rattle.top_call.specs.Answers.{AfterObserved, AfterPlace, AfterCert, AfterAudited, IsAnswer}
use Rattle.top_call.specs.Inputs.{SaysDesign, SpellsPlan, HasTest, NeedsDictionary, NeedsResponse, NeedsFault, NeedsCert, HasInput, AnswersExist}
use Rattle.top_call.proofs.OneAnswer.{check_next, faults_next}

-- the laws on which outputs rest
pub record OutputLaws : Type 0 where
  pub reports : ReportsExist
  pub over_dictionary : DictionaryOutputsExist
  pub certificates : CertificatesExist
  pub faults : FaultsTextsExist
  pub generated : TextsAreAccepted

-- Files

after-content : (which : Which) (next : List ℕ → Answer → Type 0) (content : Option (List ℕ)) (bytes : List ℕ) (answer : Answer) → content ≡ Some bytes → length bytes ≤ most_of which →
    next bytes answer →
    AfterFile which content next answer
after-content which next content bytes answer held short h = subst (λ found. AfterFile which found next answer) (sym held) (inr (short, h))

module _ (files : Files) where
  after-file : (name : List ℕ) (which : Which) (next : List ℕ → Answer → Type 0) (bytes : List ℕ) (answer : Answer) → IsFile files name which bytes → next bytes answer →
      AfterFile which (content_of files name) next answer
  after-file name which next bytes answer file h = after-content which next (content_of files name) bytes answer file.held file.short h

  after-design : (source : Source) (next : FlatDesign → Answer → Type 0) (design : FlatDesign) (answer : Answer) → SaysDesign files source design → next design answer →
      AfterSource source files next answer
  after-design source next design answer said h = after-file source.design whiches.Design (AfterDesign source next) said.bytes answer said.file (Ok design, said.says, h)

  after-test : (purpose : Purpose) (plan : List ℕ) (next : FlatDesign → TestPlan → Answer → Type 0) (design : FlatDesign) (test : TestPlan) (answer : Answer) → SpellsPlan files plan design test →
      excess purpose test ≡ None → next design test answer → AfterTest purpose files plan next design answer
  after-test purpose plan next design test answer spelled roomy h =
      after-file plan whiches.Plan (AfterPlanText purpose design (next design)) spelled.bytes answer spelled.file
      (Ok test, spelled.spells, subst (λ room. AfterRoom room (next design test) answer) (sym roomy) h)

  over-test : (source : Source) (plan : List ℕ) (needs : FlatDesign → TestPlan → Type 0) (input : HasTest files source plan needs) (purpose : Purpose) (next : FlatDesign → TestPlan → Answer → Type 0)
      (answer : Answer) → excess purpose input.test ≡ None → next input.design input.test answer → AfterSource source files (AfterTest purpose files plan next) answer
  over-test source plan needs input purpose next answer roomy h =
      after-design source (AfterTest purpose files plan next) input.design answer input.says
      (after-test purpose plan next input.design input.test answer input.spells roomy h)

-- Forms

module _ (laws : OutputLaws) (files : Files) where
  abbrev HasOutput : Form → Type 0
  HasOutput form = (text : List ℕ) × IsAnswer form files (Outputs text)

  report-there : (source : Source) (plan : List ℕ) (workers : ℕ) → HasTest files source plan NeverLoops → HasOutput (Grade source plan workers)
  report-there source plan workers input =
      let report = laws.reports Lines input.design input.spells.bytes input.test input.spells.spells input.has in (
        report.0,
        after-design files source (λ design. AfterFile whiches.Plan (content_of files plan) (AfterPlan design)) input.design (Outputs report.0) input.says
            (after-file files plan whiches.Plan (AfterPlan input.design) input.spells.bytes (Outputs report.0) input.spells.file (Ok report.0, report.1, refl)),
      )

  totals-there : (number size workers : ℕ) → Fits (Soak number size workers) → HasInput (Soak number size workers) files → HasOutput (Soak number size workers)
  totals-there number size workers fits never =
      let said = laws.generated number size fits.0.0 fits.0.1 in
      let totals = laws.reports Totals said.0 (soaks.plan_text size) said.2 said.3 (never said.0 said.2 said.1 said.3) in
      (totals.0, record { design = said.0; is_design = said.1; meaning = Ok totals.0; means = totals.1; counted = refl })

  -- the output over the dictionary of a design and a plan
  made : (output : outputs.Output) (design : FlatDesign) (test : TestPlan) → NeverLoops design test → (text : List ℕ) × AfterOutput output design test (Outputs text)
  made output design test never = let text = laws.over_dictionary output design test never in (text.0, (Ok text.0, text.1, refl))

  dictionary-there : (source : Source) (plan : List ℕ) → HasTest files source plan NeedsDictionary → HasOutput (Dict source plan)
  dictionary-there source plan input =
      let text = made outputs.DictText input.design input.test input.has.1 in
      (text.0, over-test files source plan NeedsDictionary input Dictionary (AfterOutput outputs.DictText) (Outputs text.0) input.has.0 text.1)

  picked-there : (source : Source) (plan : List ℕ) → HasTest files source plan NeedsDictionary → HasOutput (Pick source plan)
  picked-there source plan input =
      let text = made outputs.PickText input.design input.test input.has.1 in
      (text.0, over-test files source plan NeedsDictionary input Dictionary (AfterOutput outputs.PickText) (Outputs text.0) input.has.0 text.1)

  diagnosis-there : (source : Source) (plan response : List ℕ) → HasTest files source plan (NeedsResponse files response) → HasOutput (Diagnose source plan response)
  diagnosis-there source plan response input =
      let seen = input.has.1 in
      let text = made (outputs.Diagnosis seen.0) input.design input.test input.has.0.1 in (
        text.0,
        over-test files source plan (NeedsResponse files response) input Dictionary (AfterObserved files response) (Outputs text.0) input.has.0.0
            (after-file files response whiches.Response (AfterResponse input.test (λ observed. AfterOutput (outputs.Diagnosis observed) input.design input.test)) seen.1.bytes (Outputs text.0) seen.1.file
            (Ok seen.0, seen.1.spelled, text.1)),
      )

  certificate-there : (source : Source) (plan : List ℕ) (place : ℕ) → HasTest files source plan (NeedsFault place) → HasOutput (Certify source plan place)
  certificate-there source plan place input =
      let text = laws.certificates input.design input.test place input.has.0.0 input.has.0.1 input.has.1 in
      (text.0, over-test files source plan (NeedsFault place) input Certificate (AfterPlace place) (Outputs text.0) refl (Ok text.0, text.1, refl))

  audit-there : (source : Source) (plan cert : List ℕ) → HasTest files source plan (NeedsCert files cert) → HasOutput (Audit source plan cert)
  audit-there source plan cert input =
      let text = audits.audit_text input.design input.test input.has.0 in (
        text,
        over-test files source plan (NeedsCert files cert) input Certificate (AfterAudited files cert) (Outputs text) refl
            (after-file files cert whiches.Cert (AfterCert input.design input.test) input.has.0 (Outputs text) input.has.1 refl),
      )

  abbrev NotWithout : Form → Type 0
  NotWithout form = ((text : List ℕ) → IsAnswer form files (Outputs text) → ⊥) → ⊥

  there : (form : Form) → HasOutput form → NotWithout form
  there form found none = none found.0 found.1

  output-there : (form : Form) → Fits form → HasInput form files → NotWithout form
  output-there (Grade source plan workers) fits input = there (Grade source plan workers) (report-there source plan workers input)
  output-there (Check source) fits input =
      there (Check source) (check_text input.0, after-design files source check_next input.0 (Outputs (check_text input.0)) input.1 refl)
  output-there (Faults source) fits input = λ none.
      laws.faults input.0 (λ text is. none text (after-design files source faults_next input.0 (Outputs text) input.1 (text, is, refl)))
  output-there (Soak number size workers) fits input = there (Soak number size workers) (totals-there number size workers fits input)
  output-there (Dict source plan) fits input = there (Dict source plan) (dictionary-there source plan input)
  output-there (Diagnose source plan response) fits input = there (Diagnose source plan response) (diagnosis-there source plan response input)
  output-there (Certify source plan fault) fits input = there (Certify source plan fault) (certificate-there source plan fault input)
  output-there (Audit source plan cert) fits input = there (Audit source plan cert) (audit-there source plan cert input)
  output-there (Pick source plan) fits input = there (Pick source plan) (picked-there source plan input)

pub answers-exist : OutputLaws → AnswersExist
answers-exist laws = λ form files. output-there laws files form
