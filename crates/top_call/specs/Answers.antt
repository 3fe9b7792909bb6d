-- What the program answers to a form over files, where no outside fails and there is memory (orders by IEEE 1364-2001, clause 5; the rest is this program's own).
use Rattle.std.specs.Prelude.{◌≡◌, ◌≢◌, ℕ, ◌<◌, ◌≤◌, ◌⊎◌, List, length, codes, Option, Some, None, Result, Ok, Err}
use Rattle.vf_base.specs.Shelf.{Files, content_of}
use Rattle.v_design.specs.Designs.{FlatDesign, TestPlan}
use Rattle.v_design.specs.Grades.{Sample}
use Rattle.vf_status.specs.elaborate.declared.design_fault.DesignFault.{DesignFault}
use Rattle.vf_status.specs.elaborate.declared.design_fault.DesignFault.TheVariants as designs
use Rattle.vf_status.specs.elaborate.Meanings as texts
use Rattle.design_report.specs.Texts.{check_text, IsFaultsText}
use Rattle.v_elab.specs.declared.Mode.TheVariants.{Usual}
use Rattle.soak_text.specs.Soak as soaks
use Rattle.plan_read.specs.Spelled as plans
use Rattle.plan_read.specs.declared.fault.PlanFault.{PlanFault}
use Rattle.plan_read.specs.declared.fault.PlanFault.TheVariants as plan_faults
use Rattle.response_text.specs.Spelled as responses
use Rattle.response_text.specs.declared.fault.ResponseFault.{ResponseFault}
use Rattle.response_text.specs.declared.fault.ResponseFault.TheVariants as response_faults
use Rattle.dict_text.specs.Dictionaries.{too_large}
use Rattle.outputs_exist.specs.dict_report.declared.fault.OutputFault.{OutputFault}
use Rattle.outputs_exist.specs.dict_report.declared.fault.OutputFault.TheVariants as output_faults
use Rattle.outputs_exist.specs.dict_report.Outputs as outputs
use Rattle.outputs_exist.specs.dict_report.Orders as orders
use Rattle.outputs_exist.specs.cert_report.declared.fault.CertifyFault.{CertifyFault}
use Rattle.outputs_exist.specs.cert_report.declared.fault.CertifyFault.TheVariants as certify_faults
use Rattle.outputs_exist.specs.cert_report.Certificates as certificates
use Rattle.outputs_exist.specs.cert_report.Audits as audits
use Rattle.outputs_exist.specs.plan_report.declared.extent.Extent.TheVariants.{Lines, Totals}
use Rattle.outputs_exist.specs.plan_report.declared.fault.ReportFault.{ReportFault}
use Rattle.outputs_exist.specs.plan_report.declared.fault.ReportFault.TheVariants as reported
use Rattle.outputs_exist.specs.plan_report.Reports as reports
use Rattle.vf_words.specs.Words.{Source, Form, Grade, Check, Faults, Soak, Dict, Diagnose, Certify, Audit, Pick}
use Rattle.vf_status.specs.declared.status.Which.{Which}
use Rattle.vf_status.specs.declared.status.Which.TheVariants as whiches
use Rattle.vf_status.specs.declared.status.Refusal.{Refusal}
use Rattle.vf_status.specs.declared.status.Refusal.TheVariants as refusals
use Rattle.vf_status.specs.declared.status.Status.{Status}
use Rattle.vf_status.specs.declared.status.Status.TheVariants as statuses
use Rattle.top_call.specs.declared.purpose.Purpose.{Purpose}
use Rattle.top_call.specs.declared.purpose.Purpose.TheVariants.{Dictionary, Certificate}

-- the text of an output; a refusal; a file that isn't there; a file with more bytes than it may have; the time at which the good machine loops
pub data Answer : Type 0 where
  Outputs : (text : List ℕ) → Answer
  Refuses : (why : Refusal) → Answer
  Lacks : (which : Which) → Answer
  Exceeds : (which : Which) → Answer
  Loops : (time : ℕ) → Answer

-- the status of an answer
abbrev pub status_of : Answer → Status
status_of (Outputs text) = statuses.Done
status_of (Refuses why) = statuses.Refused why
status_of (Lacks which) = statuses.ReadFault which
status_of (Exceeds which) = statuses.TooLong which
status_of (Loops time) = statuses.GoodLoop time

-- the most bytes of a file
abbrev pub most_of : Which → ℕ
most_of whiches.Design = 1048576
most_of whiches.Plan = 262144
most_of whiches.Response = 1048576
most_of whiches.Cert = 16777216

-- What the files hold

-- a file of this name that isn't too long
pub record IsFile (files : Files) (name : List ℕ) (which : Which) (bytes : List ℕ) : Type 0 where
  pub held : content_of files name ≡ Some bytes
  pub short : length bytes ≤ most_of which

-- a text that says the design, and nothing else
pub record HoldDesign (files : Files) (source : Source) (design : FlatDesign) : Type 0 where
  pub bytes : List ℕ
  pub file : IsFile files source.design whiches.Design bytes
  pub meaning : texts.IsTheMeaning bytes source.top source.mode (Ok design)

-- the room of a plan's dictionary where that is too much, if the plan is read for one
abbrev pub excess : Purpose → TestPlan → Option ℕ
excess Dictionary plan = too_large plan
excess Certificate plan = None

-- a text that spells the plan over the design, whose dictionary isn't too large if the plan is read for one; a text spells one plan
pub record HoldPlan (files : Files) (name : List ℕ) (purpose : Purpose) (design : FlatDesign) (plan : TestPlan) : Type 0 where
  pub bytes : List ℕ
  pub file : IsFile files name whiches.Plan bytes
  pub spelled : plans.Spells design bytes plan
  pub roomy : excess purpose plan ≡ None

-- a text that spells the response to the plan; a text spells one response
pub record HoldResponse (files : Files) (name : List ℕ) (plan : TestPlan) (observed : List Sample) : Type 0 where
  pub bytes : List ℕ
  pub file : IsFile files name whiches.Response bytes
  pub spelled : responses.Spells plan bytes observed

-- Step by step: what comes first decides

-- a file is read: it isn't there, or it is too long, or its bytes decide
abbrev pub AfterFile : Which → Option (List ℕ) → (List ℕ → Answer → Type 0) → Answer → Type 0
AfterFile which None next answer = answer ≡ Lacks which
AfterFile which (Some bytes) next answer = ((most_of which < length bytes) × (answer ≡ Exceeds which)) ⊎ ((length bytes ≤ most_of which) × next bytes answer)

-- the refusal of a text without a design
abbrev pub refusal_of : DesignFault → Option Refusal
refusal_of (designs.Scan fault) = Some (refusals.Scan fault)
refusal_of (designs.Parse fault) = Some (refusals.Parse fault)
refusal_of (designs.Elab fault) = Some (refusals.Elab fault)
refusal_of designs.NoMemory = None

abbrev pub IsRefusal : Option Refusal → Answer → Type 0
IsRefusal None answer = ⊥
IsRefusal (Some why) answer = answer ≡ Refuses why

-- the design decides, or the text is refused
abbrev pub GoesOn : (FlatDesign → Answer → Type 0) → Result FlatDesign DesignFault → Answer → Type 0
GoesOn next (Ok design) answer = next design answer
GoesOn next (Err fault) answer = IsRefusal (refusal_of fault) answer

-- the design's text is read
abbrev pub AfterDesign : Source → (FlatDesign → Answer → Type 0) → List ℕ → Answer → Type 0
AfterDesign source next bytes answer = (meaning : Result FlatDesign DesignFault) × texts.Means bytes source.top source.mode meaning × GoesOn next meaning answer

-- the design of a form is read: first its file, then its text
abbrev pub AfterSource : Source → Files → (FlatDesign → Answer → Type 0) → Answer → Type 0
AfterSource source files next answer = AfterFile whiches.Design (content_of files source.design) (AfterDesign source next) answer

-- what a plan's text means, as an answer
abbrev pub IsReported : Result (List ℕ) ReportFault → Answer → Type 0
IsReported (Ok report) answer = answer ≡ Outputs report
IsReported (Err (reported.Plan fault)) answer = answer ≡ Refuses (refusals.Plan fault)
IsReported (Err (reported.GoodLoop time)) answer = answer ≡ Loops time
IsReported (Err reported.NoMemory) answer = ⊥

-- the plan's text is read over the design
abbrev pub AfterPlan : FlatDesign → List ℕ → Answer → Type 0
AfterPlan design bytes answer = (meaning : Result (List ℕ) ReportFault) × reports.Means Lines design bytes meaning × IsReported meaning answer

-- what a plan's text means over the design: a plan, or the reason why it spells none
abbrev pub PlanMeans : FlatDesign → List ℕ → Result TestPlan PlanFault → Type 0
PlanMeans design bytes (Ok plan) = plans.Spells design bytes plan
PlanMeans design bytes (Err fault) = plans.Refuses design bytes fault × (fault ≢ plan_faults.NoMemory)

-- what comes next decides, or the dictionary is refused as too large
abbrev pub AfterRoom : Option ℕ → (Answer → Type 0) → Answer → Type 0
AfterRoom None next answer = next answer
AfterRoom (Some room) next answer = answer ≡ Refuses (refusals.TooLarge room)

-- the plan decides, if its dictionary isn't too large where it is read for one, or its text is refused
abbrev pub PlanGoesOn : Purpose → (TestPlan → Answer → Type 0) → Result TestPlan PlanFault → Answer → Type 0
PlanGoesOn purpose next (Ok plan) answer = AfterRoom (excess purpose plan) (next plan) answer
PlanGoesOn purpose next (Err fault) answer = answer ≡ Refuses (refusals.Plan fault)

-- the text of a plan is read over the design, for a purpose
abbrev pub AfterPlanText : Purpose → FlatDesign → (TestPlan → Answer → Type 0) → List ℕ → Answer → Type 0
AfterPlanText purpose design next bytes answer = (meaning : Result TestPlan PlanFault) × PlanMeans design bytes meaning × PlanGoesOn purpose next meaning answer

-- the plan of a form is read for a purpose: first its file, then its text
abbrev pub AfterTest : Purpose → Files → List ℕ → (FlatDesign → TestPlan → Answer → Type 0) → FlatDesign → Answer → Type 0
AfterTest purpose files plan next design answer = AfterFile whiches.Plan (content_of files plan) (AfterPlanText purpose design (next design)) answer

-- what a response's text means for a plan: what was observed, or the reason why it spells no response
abbrev pub ResponseMeans : TestPlan → List ℕ → Result (List Sample) ResponseFault → Type 0
ResponseMeans plan bytes (Ok observed) = responses.Spells plan bytes observed
ResponseMeans plan bytes (Err fault) = responses.Refuses plan bytes fault × (fault ≢ response_faults.NoMemory)

-- what was observed decides, or the response's text is refused
abbrev pub ResponseGoesOn : (List Sample → Answer → Type 0) → Result (List Sample) ResponseFault → Answer → Type 0
ResponseGoesOn next (Ok observed) answer = next observed answer
ResponseGoesOn next (Err fault) answer = answer ≡ Refuses (refusals.Response fault)

-- the response's text is read for the plan
abbrev pub AfterResponse : TestPlan → (List Sample → Answer → Type 0) → List ℕ → Answer → Type 0
AfterResponse plan next bytes answer = (meaning : Result (List Sample) ResponseFault) × ResponseMeans plan bytes meaning × ResponseGoesOn next meaning answer

-- what an output over a dictionary means, as an answer
abbrev pub IsMade : Result (List ℕ) OutputFault → Answer → Type 0
IsMade (Ok text) answer = answer ≡ Outputs text
IsMade (Err (output_faults.GoodLoop time)) answer = answer ≡ Loops time
IsMade (Err output_faults.NoMemory) answer = ⊥

-- an output over the dictionary of the design and the plan is made
abbrev pub AfterOutput : outputs.Output → FlatDesign → TestPlan → Answer → Type 0
AfterOutput output design plan answer = (meaning : Result (List ℕ) OutputFault) × outputs.Means output design plan meaning × IsMade meaning answer

-- a diagnosis is made: first the response is read, its file and then its text
abbrev pub AfterObserved : Files → List ℕ → FlatDesign → TestPlan → Answer → Type 0
AfterObserved files response design plan answer =
    AfterFile whiches.Response (content_of files response) (AfterResponse plan (λ observed. AfterOutput (outputs.Diagnosis observed) design plan)) answer

-- what the place of a listed fault means, as an answer
abbrev pub IsCertified : Result (List ℕ) CertifyFault → Answer → Type 0
IsCertified (Ok text) answer = answer ≡ Outputs text
IsCertified (Err (certify_faults.NoFault place)) answer = answer ≡ Refuses (refusals.NoFault place)
IsCertified (Err (certify_faults.GoodLoop time)) answer = answer ≡ Loops time
IsCertified (Err certify_faults.NoMemory) answer = ⊥

-- the certificate of the listed fault of a place is made
abbrev pub AfterPlace : ℕ → FlatDesign → TestPlan → Answer → Type 0
AfterPlace place design plan answer = (meaning : Result (List ℕ) CertifyFault) × certificates.Means design plan place meaning × IsCertified meaning answer

-- a certificate's text is audited
abbrev pub AfterCert : FlatDesign → TestPlan → List ℕ → Answer → Type 0
AfterCert design plan bytes answer = answer ≡ Outputs (audits.audit_text design plan bytes)

-- an audit is made: first the certificate is read
abbrev pub AfterAudited : Files → List ℕ → FlatDesign → TestPlan → Answer → Type 0
AfterAudited files cert design plan answer = AfterFile whiches.Cert (content_of files cert) (AfterCert design plan) answer

-- what the text of a generated plan means, as an answer
abbrev pub IsCounted : Result (List ℕ) ReportFault → Answer → Type 0
IsCounted (Ok totals) answer = answer ≡ Outputs totals
IsCounted (Err (reported.Plan fault)) answer = ⊥
IsCounted (Err (reported.GoodLoop time)) answer = answer ≡ Loops time
IsCounted (Err reported.NoMemory) answer = ⊥

-- the totals over the generated design and plan of a number and a size
pub record IsSoaked (number size : ℕ) (answer : Answer) : Type 0 where
  pub design : FlatDesign
  pub is_design : texts.IsDesignOf (soaks.design_text number size) (codes "top") Usual design
  pub meaning : Result (List ℕ) ReportFault
  pub means : reports.Means Totals design (soaks.plan_text size) meaning
  pub counted : IsCounted meaning answer

-- The answer to each form. No number of workers is in it, and `soak` reads no file

-- the form by so many workers
abbrev pub by_workers : ℕ → Form → Form
by_workers count (Grade source plan workers) = Grade source plan count
by_workers count (Check source) = Check source
by_workers count (Faults source) = Faults source
by_workers count (Soak number size workers) = Soak number size count
by_workers count (Dict source plan) = Dict source plan
by_workers count (Diagnose source plan response) = Diagnose source plan response
by_workers count (Certify source plan fault) = Certify source plan fault
by_workers count (Audit source plan cert) = Audit source plan cert
by_workers count (Pick source plan) = Pick source plan

abbrev pub IsAnswer : Form → Files → Answer → Type 0
IsAnswer (Grade source plan workers) files answer = AfterSource source files (λ design. AfterFile whiches.Plan (content_of files plan) (AfterPlan design)) answer
IsAnswer (Check source) files answer = AfterSource source files (λ design answer. answer ≡ Outputs (check_text design)) answer
IsAnswer (Faults source) files answer = AfterSource source files (λ design answer. (text : List ℕ) × IsFaultsText design text × (answer ≡ Outputs text)) answer
IsAnswer (Soak number size workers) files answer = IsSoaked number size answer
IsAnswer (Dict source plan) files answer = AfterSource source files (AfterTest Dictionary files plan (AfterOutput outputs.DictText)) answer
IsAnswer (Diagnose source plan response) files answer = AfterSource source files (AfterTest Dictionary files plan (AfterObserved files response)) answer
IsAnswer (Certify source plan fault) files answer = AfterSource source files (AfterTest Certificate files plan (AfterPlace fault)) answer
IsAnswer (Audit source plan cert) files answer = AfterSource source files (AfterTest Certificate files plan (AfterAudited files cert)) answer
IsAnswer (Pick source plan) files answer = AfterSource source files (AfterTest Dictionary files plan (AfterOutput outputs.PickText)) answer

-- this is the answer, and there is no other
pub record IsTheAnswer (form : Form) (files : Files) (answer : Answer) : Type 0 where
  pub is : IsAnswer form files answer
  pub only : (other : Answer) → IsAnswer form files other → other ≡ answer

-- What the lines of a report say

-- the report is that on the design and the plan of the files, and what its lines say holds in every pair of legal orders
pub record StandsInEveryOrder (source : Source) (plan : List ℕ) (files : Files) (report : List ℕ) : Type 0 where
  pub design_text : List ℕ
  pub design_held : content_of files source.design ≡ Some design_text
  pub design : FlatDesign
  pub is_design : texts.IsDesignOf design_text source.top source.mode design
  pub plan_text : List ℕ
  pub plan_held : content_of files plan ≡ Some plan_text
  pub holds : reports.HoldsInEveryOrder Lines design plan_text report

-- the totals count lines on the generated design and plan, and what these say holds in every pair of legal orders
pub record CountsInEveryOrder (number size : ℕ) (totals : List ℕ) : Type 0 where
  pub design : FlatDesign
  pub is_design : texts.IsDesignOf (soaks.design_text number size) (codes "top") Usual design
  pub holds : reports.HoldsInEveryOrder Totals design (soaks.plan_text size) totals

-- the output is that over the dictionary of the design and the plan of the files, and what its lines say holds in every legal order
pub record TellsInEveryOrder (output : outputs.Output) (source : Source) (plan : List ℕ) (files : Files) (text : List ℕ) : Type 0 where
  pub design : FlatDesign
  pub design_held : HoldDesign files source design
  pub test : TestPlan
  pub plan_held : HoldPlan files plan Dictionary design test
  pub holds : orders.HoldsInEveryOrder output design test text

-- the diagnosis is that of the response of the files over their design and plan, and what its lines say holds in every legal order
pub record DiagnosesInEveryOrder (source : Source) (plan response : List ℕ) (files : Files) (text : List ℕ) : Type 0 where
  pub design : FlatDesign
  pub design_held : HoldDesign files source design
  pub test : TestPlan
  pub plan_held : HoldPlan files plan Dictionary design test
  pub observed : List Sample
  pub response_held : HoldResponse files response test observed
  pub holds : orders.HoldsInEveryOrder (outputs.Diagnosis observed) design test text

-- the certificate is that of the fault at a place of the plan of the files over their design: its line holds in every legal order, and it is read as a valid one
pub record CertifiesInEveryOrder (source : Source) (plan : List ℕ) (place : ℕ) (files : Files) (text : List ℕ) : Type 0 where
  pub design : FlatDesign
  pub design_held : HoldDesign files source design
  pub test : TestPlan
  pub plan_held : HoldPlan files plan Certificate design test
  pub holds : certificates.CertificateHolds design test place text

-- the audit is that of the certificate of the files over their design and plan, and what a yes says holds in every legal order
pub record AuditsInEveryOrder (source : Source) (plan cert : List ℕ) (files : Files) (text : List ℕ) : Type 0 where
  pub design : FlatDesign
  pub design_held : HoldDesign files source design
  pub test : TestPlan
  pub plan_held : HoldPlan files plan Certificate design test
  pub bytes : List ℕ
  pub cert_held : IsFile files cert whiches.Cert bytes
  pub holds : audits.AuditHolds design test bytes text

abbrev pub Stands : Form → Files → List ℕ → Type 0
Stands (Grade source plan workers) files text = StandsInEveryOrder source plan files text
Stands (Check source) files text = Unit {0}
Stands (Faults source) files text = Unit {0}
Stands (Soak number size workers) files text = CountsInEveryOrder number size text
Stands (Dict source plan) files text = TellsInEveryOrder outputs.DictText source plan files text
Stands (Diagnose source plan response) files text = DiagnosesInEveryOrder source plan response files text
Stands (Certify source plan fault) files text = CertifiesInEveryOrder source plan fault files text
Stands (Audit source plan cert) files text = AuditsInEveryOrder source plan cert files text
Stands (Pick source plan) files text = TellsInEveryOrder outputs.PickText source plan files text
