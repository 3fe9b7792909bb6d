-- What each step towards an output gives (nothing of the language).
use Rattle.std.specs.Prelude.{◌≡◌, ◌≢◌, ℕ, ◌<◌, ◌≤◌, ◌⊎◌, List, length, Option, Some, None, Result, Ok, Err, Vec}
use Rattle.std.specs.declared.alloc.Global.{Global}
use Rattle.vf_base.specs.Counts.{Rose}
use Rattle.vf_base.specs.Shelf.{Files, content_of}
use Rattle.v_design.specs.Designs.{FlatDesign, TestPlan}
use Rattle.v_design.specs.PlainDesigns.{design_of, plan_of}
use Rattle.v_design.specs.declared.plan.Design.{Design}
use Rattle.v_design.specs.declared.plan.Plan.{Plan}
use Rattle.vf_status.specs.elaborate.declared.design_fault.DesignFault.{DesignFault}
use Rattle.vf_status.specs.elaborate.Meanings as texts
use Rattle.plan_read.specs.Spelled as plans
use Rattle.plan_read.specs.declared.fault.PlanFault.{PlanFault}
use Rattle.plan_read.specs.declared.fault.PlanFault.TheVariants as plan_faults
use Rattle.kept_samples.specs.Kept.{samples_kept}
use Rattle.kept_samples.specs.declared.kept.Sample.{Sample}
use Rattle.response_text.specs.Spelled as responses
use Rattle.response_text.specs.declared.fault.ResponseFault.{ResponseFault}
use Rattle.response_text.specs.declared.fault.ResponseFault.TheVariants as response_faults
use Rattle.outputs_exist.specs.dict_report.declared.fault.OutputFault.{OutputFault}
use Rattle.outputs_exist.specs.dict_report.declared.fault.OutputFault.TheVariants as output_faults
use Rattle.outputs_exist.specs.cert_report.declared.fault.CertifyFault.{CertifyFault}
use Rattle.outputs_exist.specs.cert_report.declared.fault.CertifyFault.TheVariants as certify_faults
use Rattle.outputs_exist.specs.plan_report.declared.fault.ReportFault.{ReportFault}
use Rattle.outputs_exist.specs.plan_report.declared.fault.ReportFault.TheVariants as reported
use Rattle.vf_words.specs.Words.{Source, Form}
use Rattle.vf_status.specs.declared.status.Which.{Which}
use Rattle.vf_status.specs.declared.status.Which.TheVariants as whiches
use Rattle.vf_status.specs.declared.status.Refusal.{Refusal}
use Rattle.vf_status.specs.declared.status.Refusal.TheVariants as refusals
use Rattle.vf_status.specs.declared.status.Status.{Status}
use Rattle.vf_status.specs.declared.status.Status.TheVariants.{Done, Refused, Usage, ReadFault, WriteFault, NoMemory, GoodLoop, TooLong}
use Rattle.top_call.specs.declared.purpose.Purpose.{Purpose}
use Rattle.top_call.specs.declared.purpose.Purpose.TheVariants.{Dictionary}
use Rattle.top_call.specs.Answers.{Refuses, Lacks, Exceeds, Loops, refusal_of, most_of, IsFile, HoldDesign, excess, HoldPlan, HoldResponse, IsTheAnswer}
use Rattle.top_call.specs.Outside.{IfTold, ShelfCounts, IsOutput, ReadFailed, ToldLong, refused_file, IsReason}

-- Files

-- the files hold a file of this name that is too long
pub record IsLongFile (files : Files) (name : List ℕ) (which : Which) : Type 0 where
  pub bytes : List ℕ
  pub held : content_of files name ≡ Some bytes
  pub long : most_of which < length bytes

-- what a read says of a file, by the shelf's faults, and by its long answers
abbrev pub LongFile : Option Files → List ℕ → Which → ℕ → ℕ → Type 0
LongFile None name which before after = Rose before after
LongFile (Some files) name which before after = IsLongFile files name which

abbrev pub NoFile : Option Files → List ℕ → Type 0
NoFile None name = ⊥
NoFile (Some files) name = content_of files name ≡ None

-- what reading one file of the form answers
abbrev pub FileGives : Option Files → List ℕ → Which → ShelfCounts → ShelfCounts → Result (Vec ℕ Global) Status → Type 0
FileGives held name which old new (Ok bytes) = (length bytes.items ≤ most_of which) × IfTold held (λ files. IsFile files name which bytes.items)
FileGives held name which old new (Err Done) = ⊥
FileGives held name which old new (Err (Refused why)) = ⊥
FileGives held name which old new (Err Usage) = ⊥
FileGives held name which old new (Err (ReadFault file)) = (file ≡ which) × (Rose old.faults new.faults ⊎ NoFile held name)
FileGives held name which old new (Err WriteFault) = ⊥
FileGives held name which old new (Err NoMemory) = Unit {0}
FileGives held name which old new (Err (GoodLoop time)) = ⊥
FileGives held name which old new (Err (TooLong file)) = (file ≡ which) × LongFile held name which old.long_answers new.long_answers

-- Texts

-- a reason of the text of this file
abbrev pub IsReasonOf : Which → Refusal → Type 0
IsReasonOf which why = (refused_file why ≡ which) × IsReason why

-- how reading a text of the form can end without what it says: it is refused for a reason that it can have, or as reading its file can
abbrev pub TextFails : Option Files → List ℕ → Which → (Refusal → Type 0) → (Files → Refusal → Type 0) → ShelfCounts → ShelfCounts → Status → Type 0
TextFails held name which can refuses old new Done = ⊥
TextFails held name which can refuses old new (Refused why) = can why × IfTold held (λ files. refuses files why)
TextFails held name which can refuses old new Usage = ⊥
TextFails held name which can refuses old new (ReadFault file) = (file ≡ which) × (Rose old.faults new.faults ⊎ NoFile held name)
TextFails held name which can refuses old new WriteFault = ⊥
TextFails held name which can refuses old new NoMemory = Unit {0}
TextFails held name which can refuses old new (GoodLoop time) = ⊥
TextFails held name which can refuses old new (TooLong file) = (file ≡ which) × LongFile held name which old.long_answers new.long_answers

-- Designs

-- the files hold a text that is refused
pub record HoldRefused (files : Files) (source : Source) (why : Refusal) : Type 0 where
  pub bytes : List ℕ
  pub file : IsFile files source.design whiches.Design bytes
  pub fault : DesignFault
  pub meaning : texts.IsTheMeaning bytes source.top source.mode (Err fault)
  pub told : refusal_of fault ≡ Some why

abbrev pub status_if : Option Refusal → Status
status_if None = NoMemory
status_if (Some why) = Refused why

-- the status of a text without a design
abbrev pub design_status : DesignFault → Status
design_status fault = status_if (refusal_of fault)

-- what reading the design of a form answers
abbrev pub DesignGives : Option Files → Source → ShelfCounts → ShelfCounts → Result Design Status → Type 0
DesignGives held source old new (Ok design) = IfTold held (λ files. HoldDesign files source (design_of design))
DesignGives held source old new (Err status) = TextFails held source.design whiches.Design (IsReasonOf whiches.Design) (λ files why. HoldRefused files source why) old new status

-- Plans

-- the status of a plan's text without a plan
abbrev pub plan_status : PlanFault → Status
plan_status (plan_faults.BadLine line) = Refused (refusals.Plan (plan_faults.BadLine line))
plan_status (plan_faults.UnknownSite line) = Refused (refusals.Plan (plan_faults.UnknownSite line))
plan_status (plan_faults.TooMany line) = Refused (refusals.Plan (plan_faults.TooMany line))
plan_status plan_faults.TooLong = Refused (refusals.Plan plan_faults.TooLong)
plan_status plan_faults.NoMemory = NoMemory

-- why a plan's text is refused for a purpose: it spells no plan, or one whose dictionary is too large where it is read for one
abbrev pub RefusesText : Purpose → FlatDesign → List ℕ → Refusal → Type 0
RefusesText purpose design bytes (refusals.Scan fault) = ⊥
RefusesText purpose design bytes (refusals.Parse fault) = ⊥
RefusesText purpose design bytes (refusals.Elab fault) = ⊥
RefusesText purpose design bytes (refusals.Plan fault) = plans.Refuses design bytes fault × (fault ≢ plan_faults.NoMemory)
RefusesText purpose design bytes (refusals.Response fault) = ⊥
RefusesText purpose design bytes (refusals.TooLarge room) = (plan : TestPlan) × plans.Spells design bytes plan × (excess purpose plan ≡ Some room)
RefusesText purpose design bytes (refusals.NoFault place) = ⊥

-- the reasons for which a plan's text can be refused for a purpose
abbrev pub IsPlanReason : Purpose → Refusal → Type 0
IsPlanReason purpose (refusals.Scan fault) = ⊥
IsPlanReason purpose (refusals.Parse fault) = ⊥
IsPlanReason purpose (refusals.Elab fault) = ⊥
IsPlanReason purpose (refusals.Plan fault) = IsReason (refusals.Plan fault)
IsPlanReason purpose (refusals.Response fault) = ⊥
IsPlanReason purpose (refusals.TooLarge room) = (purpose ≡ Dictionary) × IsReason (refusals.TooLarge room)
IsPlanReason purpose (refusals.NoFault place) = ⊥

-- what reading a plan's text for a purpose answers
abbrev pub PlanTextGives : Purpose → FlatDesign → List ℕ → Result Plan Status → Type 0
PlanTextGives purpose design bytes (Ok plan) = plans.Spells design bytes (plan_of plan) × (excess purpose (plan_of plan) ≡ None)
PlanTextGives purpose design bytes (Err Done) = ⊥
PlanTextGives purpose design bytes (Err (Refused why)) = RefusesText purpose design bytes why
PlanTextGives purpose design bytes (Err Usage) = ⊥
PlanTextGives purpose design bytes (Err (ReadFault file)) = ⊥
PlanTextGives purpose design bytes (Err WriteFault) = ⊥
PlanTextGives purpose design bytes (Err NoMemory) = Unit {0}
PlanTextGives purpose design bytes (Err (GoodLoop time)) = ⊥
PlanTextGives purpose design bytes (Err (TooLong file)) = ⊥

-- the files hold a plan's text that is refused for a purpose
pub record HoldRefusedPlan (files : Files) (name : List ℕ) (purpose : Purpose) (design : FlatDesign) (why : Refusal) : Type 0 where
  pub bytes : List ℕ
  pub file : IsFile files name whiches.Plan bytes
  pub refused : RefusesText purpose design bytes why

-- what reading the plan of a form for a purpose answers
abbrev pub PlanGives : Option Files → List ℕ → Purpose → FlatDesign → ShelfCounts → ShelfCounts → Result Plan Status → Type 0
PlanGives held name purpose design old new (Ok plan) = IfTold held (λ files. HoldPlan files name purpose design (plan_of plan))
PlanGives held name purpose design old new (Err status) = TextFails held name whiches.Plan (IsPlanReason purpose) (λ files why. HoldRefusedPlan files name purpose design why) old new status

-- Responses

-- the status of a response's text that is refused
abbrev pub response_status : ResponseFault → Status
response_status (response_faults.BadLine line) = Refused (refusals.Response (response_faults.BadLine line))
response_status response_faults.TooLong = Refused (refusals.Response response_faults.TooLong)
response_status response_faults.NoMemory = NoMemory

-- why a response's text is refused
abbrev pub RefusesObserved : TestPlan → List ℕ → Refusal → Type 0
RefusesObserved plan bytes (refusals.Scan fault) = ⊥
RefusesObserved plan bytes (refusals.Parse fault) = ⊥
RefusesObserved plan bytes (refusals.Elab fault) = ⊥
RefusesObserved plan bytes (refusals.Plan fault) = ⊥
RefusesObserved plan bytes (refusals.Response fault) = responses.Refuses plan bytes fault × (fault ≢ response_faults.NoMemory)
RefusesObserved plan bytes (refusals.TooLarge room) = ⊥
RefusesObserved plan bytes (refusals.NoFault place) = ⊥

-- the files hold a response's text that is refused
pub record HoldRefusedResponse (files : Files) (name : List ℕ) (plan : TestPlan) (why : Refusal) : Type 0 where
  pub bytes : List ℕ
  pub file : IsFile files name whiches.Response bytes
  pub refused : RefusesObserved plan bytes why

-- what reading the response of a form answers
abbrev pub ResponseGives : Option Files → List ℕ → TestPlan → ShelfCounts → ShelfCounts → Result (Vec Sample Global) Status → Type 0
ResponseGives held name plan old new (Ok observed) = IfTold held (λ files. HoldResponse files name plan (samples_kept observed.items))
ResponseGives held name plan old new (Err status) = TextFails held name whiches.Response (IsReasonOf whiches.Response) (λ files why. HoldRefusedResponse files name plan why) old new status

-- Reports

-- the status of a plan's text without a report
abbrev pub report_status : ReportFault → Status
report_status (reported.Plan fault) = Refused (refusals.Plan fault)
report_status (reported.GoodLoop time) = GoodLoop time
report_status reported.NoMemory = NoMemory

-- the status of an output over a dictionary that isn't made
abbrev pub output_status : OutputFault → Status
output_status (output_faults.GoodLoop time) = GoodLoop time
output_status output_faults.NoMemory = NoMemory

-- the status of a place of the list without a certificate
abbrev pub certify_status : CertifyFault → Status
certify_status (certify_faults.NoFault place) = Refused (refusals.NoFault place)
certify_status (certify_faults.GoodLoop time) = GoodLoop time
certify_status certify_faults.NoMemory = NoMemory

-- Outputs

-- what making the output of a form answers, over the files that are told for it and by the shelf's counts
abbrev pub OutputGives : Form → Option Files → ShelfCounts → ShelfCounts → Result (Vec ℕ Global) Status → Type 0
OutputGives form held old new (Ok text) = IfTold held (λ files. IsOutput form files text.items)
OutputGives form held old new (Err Done) = ⊥
OutputGives form held old new (Err (Refused why)) = IfTold held (λ files. IsTheAnswer form files (Refuses why))
OutputGives form held old new (Err Usage) = ⊥
OutputGives form held old new (Err (ReadFault which)) = ReadFailed form held which old new ⊎ ((files : Files) × (held ≡ Some files) × IsTheAnswer form files (Lacks which))
OutputGives form held old new (Err WriteFault) = ⊥
OutputGives form held old new (Err NoMemory) = Unit {0}
OutputGives form held old new (Err (GoodLoop time)) = IfTold held (λ files. IsTheAnswer form files (Loops time))
OutputGives form held old new (Err (TooLong which)) = ToldLong held which old new ⊎ ((files : Files) × (held ≡ Some files) × IsTheAnswer form files (Exceeds which))
