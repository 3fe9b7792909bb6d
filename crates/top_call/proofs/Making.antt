-- From what each step gives to what the output's making gives.
use Rattle.std.proofs.Common.{◌≡◌, ◌≢◌, ℕ, ◌+◌, ◌<◌, ◌≤◌, List, [], ◌++◌, length, codes, Option, Some, None, Result, Ok, Err, Vec, refl, sym, ap, subst, ◌∙◌, ◌⊎◌, inl, inr, arith, lit<}
use Rattle.std.proofs.lemmas.Option.{none-some, same_Some}
use Rattle.std.specs.Result.{IsErrAnd}
use Rattle.std.specs.declared.alloc.Global.{Global}
use Rattle.vf_base.specs.Counts.{raised, Rose}
use Rattle.vf_base.specs.Shelf.{Files, content_of}
use Rattle.vf_base.specs.Sink.{Gains}
use Rattle.v_scan.specs.Texts as tokens
use Rattle.v_scan.specs.declared.fault.ScanFault.{ScanFault}
use Rattle.v_scan.specs.declared.fault.ScanFault.TheVariants as scans
use Rattle.v_design.specs.Designs.{FlatDesign}
use Rattle.vf_status.specs.elaborate.declared.design_fault.DesignFault.{DesignFault}
use Rattle.vf_status.specs.elaborate.declared.design_fault.DesignFault.TheVariants as designs
use Rattle.vf_status.specs.elaborate.ElabFaults as elab_faults
use Rattle.vf_status.specs.elaborate.Meanings as texts
use Rattle.design_report.specs.Texts.{check_text, IsTheFaultsText}
use Rattle.plan_read.specs.Spelled as plans
use Rattle.plan_read.specs.declared.fault.PlanFault.{PlanFault}
use Rattle.plan_read.specs.declared.fault.PlanFault.TheVariants as plan_faults
use Rattle.outputs_exist.specs.plan_report.declared.fault.ReportFault.{ReportFault}
use Rattle.outputs_exist.specs.plan_report.declared.fault.ReportFault.TheVariants as reported
use Rattle.outputs_exist.specs.plan_report.Reports as reports
use Rattle.outputs_exist.specs.plan_report.declared.extent.Extent.TheVariants.{Lines, Totals}
use Rattle.outputs_exist.specs.plan_report.OneMeaning.{no-reason}
use Rattle.soak_text.specs.Soak as soaks
use Rattle.soak_meanings.specs.SoakMeanings.{TextsAreAccepted}
use Rattle.v_elab.specs.declared.Mode.TheVariants.{Usual}
use Rattle.vf_words.specs.Words.{Source, Form, Grade, Check, Faults, Soak, Dict, Diagnose, Certify, Audit, Pick}
use Rattle.vf_status.specs.declared.status.Which.{Which}
use Rattle.vf_status.specs.declared.status.Which.TheVariants as whiches
use Rattle.vf_status.specs.declared.status.Refusal.{Refusal}
use Rattle.vf_status.specs.declared.status.Refusal.TheVariants as refusals
use Rattle.vf_status.specs.declared.status.Status.{Status}
use Rattle.vf_status.specs.declared.status.Status.TheVariants.{Done, Refused, Usage, ReadFault, WriteFault, NoMemory, GoodLoop, TooLong}
use Rattle.top_call.specs.Answers.{Answer, Outputs, Refuses, Lacks, Exceeds, Loops, status_of, most_of, IsFile, HoldDesign, AfterSource, refusal_of, by_workers, IsAnswer, IsTheAnswer}
use Rattle.std.specs.Prelude.{IfSome, IfErr}
use Rattle.top_call.specs.Outside.{Answers, IsOutput, IfTold, ShelfCounts, reads_to, refused_file, IsReason, ComesTo, ReadFailed, ToldLong, PutGives, PutsInFew, Keeps, Names}
use Rattle.top_call.specs.Outside.{CanRefuse, CanEnd, files_of, files_named, files_for, as_answered, no_memory, no_read, no_put}
use Rattle.top_call.specs.Making.{IsLongFile, FileGives, IsReasonOf, TextFails, HoldRefused, DesignGives, status_if, design_status, report_status, OutputGives}
use Rattle.top_call.proofs.OneAnswer.{The, source-lacks, source-exceeds, source-refused, plan-lacks, plan-exceeds, plan-tells, check-tells, faults-tell, generated-design, soak-tells}

-- what is handed on
pub err-gives : (form : Form) (held : Option Files) (old new : ShelfCounts) (r : Result (Vec ℕ Global) Status) (status : Status) → IsErrAnd r (λ e. e ≡ status) →
    OutputGives form held old new (Err status) → OutputGives form held old new r
err-gives form held old new (Ok text) status same h = absurd same
err-gives form held old new (Err found) status same h = subst (λ s. OutputGives form held old new (Err s)) (sym same) h

-- The statuses with which a form can end

pub err-ends : (form : Form) (r : Result (Vec ℕ Global) Status) (status : Status) → IsErrAnd r (λ e. e ≡ status) → CanEnd form status → IfErr r (CanEnd form)
err-ends form (Ok text) status same h = absurd same
err-ends form (Err found) status same h = subst (CanEnd form) (sym same) h

pub file-ends : (form : Form) (held : Option Files) (name : List ℕ) (which : Which) (old new : ShelfCounts) (status : Status) → Names form which → FileGives held name which old new (Err status) →
    CanEnd form status
file-ends form held name which old new Done names h = absurd h
file-ends form held name which old new (Refused why) names h = absurd h
file-ends form held name which old new Usage names h = absurd h
file-ends form held name which old new (ReadFault file) names h = subst (Names form) (sym h.0) names
file-ends form held name which old new WriteFault names h = absurd h
file-ends form held name which old new NoMemory names h = tt
file-ends form held name which old new (GoodLoop time) names h = absurd h
file-ends form held name which old new (TooLong file) names h = subst (Names form) (sym h.0) names

-- a reason of a text other than the plan's
can-refuse : (form : Form) (which : Which) (why : Refusal) → Names form which → (whiches.Plan ≡ which → ⊥) → refused_file why ≡ which → CanRefuse form why
can-refuse form which (refusals.Scan fault) names other e = subst (Names form) (sym e) names
can-refuse form which (refusals.Parse fault) names other e = subst (Names form) (sym e) names
can-refuse form which (refusals.Elab fault) names other e = subst (Names form) (sym e) names
can-refuse form which (refusals.Plan fault) names other e = subst (Names form) (sym e) names
can-refuse form which (refusals.Response fault) names other e = subst (Names form) (sym e) names
can-refuse form which (refusals.TooLarge room) names other e = absurd (other e)
can-refuse form which (refusals.NoFault place) names other e = absurd (other e)

pub reason-can : (form : Form) (which : Which) → Names form which → (whiches.Plan ≡ which → ⊥) → (why : Refusal) → IsReasonOf which why → CanRefuse form why × IsReason why
reason-can form which names other why reason = (can-refuse form which why names other reason.0, reason.1)

pub text-ends : (form : Form) (held : Option Files) (name : List ℕ) (which : Which) (can : Refusal → Type 0) (refuses : Files → Refusal → Type 0) (old new : ShelfCounts) (status : Status) →
    Names form which → ((why : Refusal) → can why → CanRefuse form why × IsReason why) → TextFails held name which can refuses old new status → CanEnd form status
text-ends form held name which can refuses old new Done names cans h = absurd h
text-ends form held name which can refuses old new (Refused why) names cans h = cans why h.0
text-ends form held name which can refuses old new Usage names cans h = absurd h
text-ends form held name which can refuses old new (ReadFault file) names cans h = subst (Names form) (sym h.0) names
text-ends form held name which can refuses old new WriteFault names cans h = absurd h
text-ends form held name which can refuses old new NoMemory names cans h = tt
text-ends form held name which can refuses old new (GoodLoop time) names cans h = absurd h
text-ends form held name which can refuses old new (TooLong file) names cans h = subst (Names form) (sym h.0) names

pub source-ends : (form : Form) (held : Option Files) (source : Source) (old new : ShelfCounts) (status : Status) → Names form whiches.Design → DesignGives held source old new (Err status) →
    CanEnd form status
source-ends form held source old new status names h =
    text-ends form held source.design whiches.Design (IsReasonOf whiches.Design) (λ files why. HoldRefused files source why) old new status names
    (reason-can form whiches.Design names (λ e. cc)) h

-- a plan's text that was read isn't too long
pub plan-reason : (design : FlatDesign) (text : List ℕ) (fault : PlanFault) → length text ≤ most_of whiches.Plan → plans.Refuses design text fault → fault ≢ plan_faults.NoMemory →
    IsReason (refusals.Plan fault)
plan-reason design text fault short refuses other =
    ((λ e. let long : most_of whiches.Plan < length text = subst (plans.Refuses design text) e refuses in absurd (omega (arith, short, long))), other)

pub report-ends : (source : Source) (plan : List ℕ) (workers : ℕ) (design : FlatDesign) (bytes text : List ℕ) (fault : ReportFault) (status : Status) → length bytes ≤ most_of whiches.Plan →
    text ≡ bytes →
    (fault ≡ reported.NoMemory) ⊎ reports.IsTheMeaning Lines design text (Err fault) → status ≡ report_status fault → CanEnd (Grade source plan workers) status
report-ends source plan workers design bytes text fault status short same is e = subst (CanEnd (Grade source plan workers)) (sym e) (by fault is)
  where
    by : (f : ReportFault) → (f ≡ reported.NoMemory) ⊎ reports.IsTheMeaning Lines design text (Err f) → CanEnd (Grade source plan workers) (report_status f)
    by (reported.Plan f) (inl none) = absurd (cc)
    by (reported.Plan f) (inr m) = (lit< tt, plan-reason design text f (subst (λ t. length t ≤ most_of whiches.Plan) (sym same) short) m.means.0 m.means.1)
    by (reported.GoodLoop time) h = tt
    by reported.NoMemory h = tt

-- Designs

-- the reason of a text that was read, so isn't too long, is one of a design
module _ (text top : List ℕ) (source : Source) (short : length text ≤ most_of whiches.Design) where
  abbrev OfDesign : Refusal → Type 0
  OfDesign why = (refused_file why ≡ whiches.Design) × IsReason why

  not-long : (fault : ScanFault) → tokens.IsFault text fault → fault ≢ scans.TooLong
  not-long fault is e = let long : most_of whiches.Design < length text = subst (tokens.IsFault text) e is in absurd (omega (arith, short, long))

  design-reason : (fault : DesignFault) (why : Refusal) → refusal_of fault ≡ Some why → texts.IsFaultOf text top source.mode fault → OfDesign why
  design-reason (designs.Scan fault) why e is = let same = same_Some (refusals.Scan fault) why e in subst OfDesign same (refl, (not-long fault is.0, is.1))
  design-reason (designs.Parse fault) why e is = let same = same_Some (refusals.Parse fault) why e in subst OfDesign same (refl, is.1)
  design-reason (designs.Elab fault) why e is =
      let same = same_Some (refusals.Elab fault) why e in
      subst OfDesign same (refl, λ none. none-some is.refusal (subst (λ f. elab_faults.refusal_of f ≡ Some is.refusal) none is.told))
  design-reason designs.NoMemory why e is = absurd is

-- what a text without a design gives
module _ (held : Option Files) (source : Source) (old new : ShelfCounts) (bytes text top : List ℕ) (short : length bytes ≤ most_of whiches.Design)
    (file : IfTold held (λ files. IsFile files source.design whiches.Design bytes)) (same_text : text ≡ bytes) (same_top : top ≡ source.top) where
  means-here : (meaning : Result FlatDesign DesignFault) → texts.IsTheMeaning text top source.mode meaning → texts.IsTheMeaning bytes source.top source.mode meaning
  means-here meaning is = subst (λ t. texts.IsTheMeaning t source.top source.mode meaning) same_text (subst (λ w. texts.IsTheMeaning text w source.mode meaning) same_top is)

  faulty : (fault : DesignFault) → (fault ≡ designs.NoMemory) ⊎ texts.IsTheMeaning text top source.mode (Err fault) → DesignGives held source old new (Err (design_status fault))
  faulty fault (inl e) = subst (λ f. DesignGives held source old new (Err (design_status f))) (sym e) tt
  faulty fault (inr is) = by held file (refusal_of fault) refl
    where
      its-reason : (why : Refusal) → refusal_of fault ≡ Some why → (refused_file why ≡ whiches.Design) × IsReason why
      its-reason why e = design-reason text top source (subst (λ t. length t ≤ most_of whiches.Design) (sym same_text) short) fault why e is.means

      by : (told : Option Files) → IfTold told (λ files. IsFile files source.design whiches.Design bytes) → (reason : Option Refusal) → refusal_of fault ≡ reason →
          DesignGives told source old new (Err (status_if reason))
      by None f None e = tt
      by None f (Some why) e = (its-reason why e, tt)
      by (Some files) f None e = tt
      by (Some files) f (Some why) e = (its-reason why e, record { bytes = bytes; file = f; fault = fault; meaning = means-here (Err fault) is; told = e })

  pub design-faulty : (fault : DesignFault) (status : Status) → (fault ≡ designs.NoMemory) ⊎ texts.IsTheMeaning text top source.mode (Err fault) → status ≡ design_status fault →
      DesignGives held source old new (Err status)
  design-faulty fault status is told = subst (λ s. DesignGives held source old new (Err s)) (sym told) (faulty fault is)

  pub design-made : (design : FlatDesign) → texts.IsTheMeaning text top source.mode (Ok design) → IfTold held (λ files. HoldDesign files source design)
  design-made design is = by held file
    where
      by : (told : Option Files) → IfTold told (λ files. IsFile files source.design whiches.Design bytes) → IfTold told (λ files. HoldDesign files source design)
      by None f = tt
      by (Some files) f = record { bytes = bytes; file = f; meaning = means-here (Ok design) is }

-- Where a text isn't read

-- a text of the form decides where it isn't read: its turn has come, and its file isn't there or is too long, or it is refused
pub record Decides (form : Form) (name : List ℕ) (which : Which) (refuses : Files → Refusal → Type 0) (files : Files) : Type 0 where
  pub due : ComesTo form files which
  pub lacks : content_of files name ≡ None → IsTheAnswer form files (Lacks which)
  pub exceeds : IsLongFile files name which → IsTheAnswer form files (Exceeds which)
  pub refused : (why : Refusal) → refuses files why → IsTheAnswer form files (Refuses why)

-- by the counts at the call's beginning and at that of the read
module _ (form : Form) (name : List ℕ) (which : Which) (refuses : Files → Refusal → Type 0) (old mid new : ShelfCounts)
    (faults : old.faults ≤ mid.faults) (longs : old.long_answers ≤ mid.long_answers) (reads : new.reads ≡ reads_to which old.reads) where
  rose-from : (before later after : ℕ) → before ≤ later → Rose later after → Rose before after
  rose-from before later after low rose = omega (arith, low, rose)

  due-of : (held : Option Files) → IfTold held (Decides form name which refuses) → IfTold held (λ files. ComesTo form files which)
  due-of None d = tt
  due-of (Some files) d = d.due

  abbrev Failed : Option Files → Which → Type 0
  Failed held file = ReadFailed form held file old new ⊎ ((files : Files) × (held ≡ Some files) × IsTheAnswer form files (Lacks file))

  abbrev Long : Option Files → Which → Type 0
  Long held file = ToldLong held file old new ⊎ ((files : Files) × (held ≡ Some files) × IsTheAnswer form files (Exceeds file))

  pub text-not-read : (can : Refusal → Type 0) (held : Option Files) (status : Status) → IfTold held (Decides form name which refuses) → TextFails held name which can refuses mid new status →
      OutputGives form held old new (Err status)
  text-not-read can held Done d h = absurd h
  text-not-read can None (Refused why) d h = tt
  text-not-read can (Some files) (Refused why) d h = d.refused why h.1
  text-not-read can held Usage d h = absurd h
  text-not-read can held (ReadFault file) d (same, inl rose) =
      subst (Failed held) (sym same) (inl (record { faults = rose-from old.faults mid.faults new.faults faults rose; reads = reads; due = due-of held d }))
  text-not-read can None (ReadFault file) d (same, inr none) = absurd none
  text-not-read can (Some files) (ReadFault file) d (same, inr none) = subst (Failed (Some files)) (sym same) (inr (files, refl, d.lacks none))
  text-not-read can held WriteFault d h = absurd h
  text-not-read can held NoMemory d h = tt
  text-not-read can held (GoodLoop time) d h = absurd h
  text-not-read can None (TooLong file) d h =
      subst (Long None) (sym h.0) (inl (record { untold = refl; long = rose-from old.long_answers mid.long_answers new.long_answers longs h.1; reads = reads }))
  text-not-read can (Some files) (TooLong file) d h = subst (Long (Some files)) (sym h.0) (inr (files, refl, d.exceeds h.1))

-- reading a file fails as reading a text does
pub file-fails : (held : Option Files) (name : List ℕ) (which : Which) (can : Refusal → Type 0) (refuses : Files → Refusal → Type 0) (old new : ShelfCounts) (status : Status) →
    FileGives held name which old new (Err status) → TextFails held name which can refuses old new status
file-fails held name which can refuses old new Done h = absurd h
file-fails held name which can refuses old new (Refused why) h = absurd h
file-fails held name which can refuses old new Usage h = absurd h
file-fails held name which can refuses old new (ReadFault file) h = h
file-fails held name which can refuses old new WriteFault h = absurd h
file-fails held name which can refuses old new NoMemory h = tt
file-fails held name which can refuses old new (GoodLoop time) h = absurd h
file-fails held name which can refuses old new (TooLong file) h = h

-- the design of a form

module _ (form : Form) (source : Source) (next : Files → FlatDesign → Answer → Type 0) (as_form : (files : Files) (answer : Answer) → The (AfterSource source files (next files)) answer →
    IsTheAnswer form files answer) where
  source-decides : (held : Option Files) → IfTold held (Decides form source.design whiches.Design (λ files why. HoldRefused files source why))
  source-decides None = tt
  source-decides (Some files) = record {
    due = tt;
    lacks = λ none. as_form files (Lacks whiches.Design) (source-lacks source (next files) files none);
    exceeds = λ long. as_form files (Exceeds whiches.Design) (source-exceeds source (next files) files long);
    refused = λ why r. as_form files (Refuses why) (source-refused source (next files) files why r);
  }

  pub not-read : (held : Option Files) (old new : ShelfCounts) (status : Status) → new.reads ≡ raised old.reads → DesignGives held source old new (Err status) →
      OutputGives form held old new (Err status)
  not-read held old new status reads h =
      text-not-read form source.design whiches.Design (λ files why. HoldRefused files source why) old old new (omega arith) (omega arith) reads (IsReasonOf whiches.Design) held status
      (source-decides held) h

-- Where the plan of a report isn't read

-- a file alone is never refused
abbrev pub NoReason : Refusal → Type 0
NoReason why = ⊥

abbrev pub NoRefusal : Files → Refusal → Type 0
NoRefusal files why = ⊥

module _ (source : Source) (plan : List ℕ) (workers : ℕ) (design : FlatDesign) where
  plan-decides : (held : Option Files) → IfTold held (λ files. HoldDesign files source design) → IfTold held (Decides (Grade source plan workers) plan whiches.Plan NoRefusal)
  plan-decides None d = tt
  plan-decides (Some files) d = record {
    due = (design, d);
    lacks = λ none. plan-lacks source plan workers files design d none;
    exceeds = λ long. plan-exceeds source plan workers files design d long;
    refused = λ why r. absurd r;
  }

  pub plan-not-read : (held : Option Files) (old mid new : ShelfCounts) (status : Status) → old.faults ≤ mid.faults → old.long_answers ≤ mid.long_answers → mid.reads ≡ raised old.reads →
      new.reads ≡ raised mid.reads →
      IfTold held (λ files. HoldDesign files source design) → FileGives held plan whiches.Plan mid new (Err status) → OutputGives (Grade source plan workers) held old new (Err status)
  plan-not-read held old mid new status faults longs one two d h =
      text-not-read (Grade source plan workers) plan whiches.Plan NoRefusal old mid new faults longs (two ∙ ap raised one) NoReason held status (plan-decides held d)
      (file-fails held plan whiches.Plan NoReason NoRefusal mid new status h)

  -- Where both are read

  faulty-report : (held : Option Files) (old new : ShelfCounts) (bytes : List ℕ) (fault : ReportFault) → IfTold held (λ files. HoldDesign files source design) →
      IfTold held (λ files. IsFile files plan whiches.Plan bytes) →
      (fault ≡ reported.NoMemory) ⊎ reports.IsTheMeaning Lines design bytes (Err fault) → OutputGives (Grade source plan workers) held old new (Err (report_status fault))
  faulty-report held old new bytes fault d f (inl e) = subst (λ w. OutputGives (Grade source plan workers) held old new (Err (report_status w))) (sym e) tt
  faulty-report None old new bytes (reported.Plan fault) d f (inr is) = tt
  faulty-report None old new bytes (reported.GoodLoop time) d f (inr is) = tt
  faulty-report held old new bytes reported.NoMemory d f (inr is) = tt
  faulty-report (Some files) old new bytes (reported.Plan fault) d f (inr is) =
      plan-tells source plan workers files design bytes (Err (reported.Plan fault)) (Refuses (refusals.Plan fault)) d f is refl
  faulty-report (Some files) old new bytes (reported.GoodLoop time) d f (inr is) = plan-tells source plan workers files design bytes (Err (reported.GoodLoop time)) (Loops time) d f is refl

  pub report-faulty : (held : Option Files) (old new : ShelfCounts) (bytes text : List ℕ) (fault : ReportFault) (status : Status) → IfTold held (λ files. HoldDesign files source design) →
      IfTold held (λ files. IsFile files plan whiches.Plan bytes) →
      text ≡ bytes → (fault ≡ reported.NoMemory) ⊎ reports.IsTheMeaning Lines design text (Err fault) → status ≡ report_status fault → OutputGives (Grade source plan workers) held old new (Err status)
  report-faulty held old new bytes text fault status d f same is told =
      subst (λ s. OutputGives (Grade source plan workers) held old new (Err s)) (sym told)
      (faulty-report held old new bytes fault d f (subst (λ t. (fault ≡ reported.NoMemory) ⊎ reports.IsTheMeaning Lines design t (Err fault)) same is))

  made-report : (held : Option Files) (old new : ShelfCounts) (bytes report : List ℕ) → IfTold held (λ files. HoldDesign files source design) →
      IfTold held (λ files. IsFile files plan whiches.Plan bytes) →
      reports.IsTheMeaning Lines design bytes (Ok report) → reports.HoldsInEveryOrder Lines design bytes report → IfTold held (λ files. IsOutput (Grade source plan workers) files report)
  made-report None old new bytes report d f is holds = tt
  made-report (Some files) old new bytes report d f is holds = record {
    answers = plan-tells source plan workers files design bytes (Ok report) (Outputs report) d f is refl;
    every_order = record { design_text = d.bytes; design_held = d.file.held; design = design; is_design = d.meaning.means; plan_text = bytes; plan_held = f.held; holds = holds };
  }

  pub report-made : (held : Option Files) (old new : ShelfCounts) (bytes text report : List ℕ) → IfTold held (λ files. HoldDesign files source design) →
      IfTold held (λ files. IsFile files plan whiches.Plan bytes) →
      text ≡ bytes → reports.IsTheMeaning Lines design text (Ok report) → reports.HoldsInEveryOrder Lines design text report → IfTold held (λ files. IsOutput (Grade source plan workers) files report)
  report-made held old new bytes text report d f same is holds =
      made-report held old new bytes report d f (subst (λ t. reports.IsTheMeaning Lines design t (Ok report)) same is) (subst (λ t. reports.HoldsInEveryOrder Lines design t report) same holds)

pub check-made : (held : Option Files) (source : Source) (design : FlatDesign) (text : List ℕ) → IfTold held (λ files. HoldDesign files source design) → text ≡ check_text design →
    IfTold held (λ files. IsOutput (Check source) files text)
check-made None source design text d e = tt
check-made (Some files) source design text d e = record { answers = check-tells source files design text d e; every_order = tt }

pub faults-made : (held : Option Files) (source : Source) (design : FlatDesign) (text : List ℕ) → IfTold held (λ files. HoldDesign files source design) → IsTheFaultsText design text →
    IfTold held (λ files. IsOutput (Faults source) files text)
faults-made None source design text d e = tt
faults-made (Some files) source design text d e = record { answers = faults-tell source files design text d e; every_order = tt }

-- A generated design

-- its text is never refused
pub soak-memory : (number size : ℕ) → (1 ≤ size) × (size ≤ 4000) → TextsAreAccepted → (text top : List ℕ) (fault : DesignFault) (status : Status) → text ≡ soaks.design_text number size →
    top ≡ codes "top" →
    (fault ≡ designs.NoMemory) ⊎ texts.IsTheMeaning text top Usual (Err fault) → status ≡ design_status fault → status ≡ NoMemory
soak-memory number size fits accepted text top fault status same_text same_top (inl none) told = told ∙ ap design_status none
soak-memory number size fits accepted text top fault status same_text same_top (inr m) told =
    let said = accepted number size fits.0 fits.1 in
    let here = subst (λ t. texts.IsDesignOf t top Usual said.0) (sym same_text) (subst (λ w. texts.IsDesignOf (soaks.design_text number size) w Usual said.0) (sym same_top) said.1) in
    let same : Ok said.0 ≡ Err fault = m.only (Ok said.0) here in absurd (cc)

module _ (number size workers : ℕ) (fits : (1 ≤ size) × (size ≤ 4000)) (accepted : TextsAreAccepted) (design : FlatDesign)
    (is : texts.IsTheMeaning (soaks.design_text number size) (codes "top") Usual (Ok design)) where
  -- nor is the plan's
  plan-accepted : (fault : PlanFault) → plans.Refuses design (soaks.plan_text size) fault → fault ≢ plan_faults.NoMemory → ⊥
  plan-accepted fault refuses other =
      let said = accepted number size fits.0 fits.1 in
      let same : said.0 ≡ design = generated-design number size design is said.0 said.1 in
      no-reason design (soaks.plan_text size) said.2 fault (subst (λ d. plans.Spells d (soaks.plan_text size) said.2) same said.3) refuses other

  abbrev NoTotals : ReportFault → Type 0
  NoTotals fault = (fault ≡ reported.NoMemory) ⊎ reports.IsTheMeaning Totals design (soaks.plan_text size) (Err fault)

  totals-given : (text : List ℕ) (fault : ReportFault) → text ≡ soaks.plan_text size → (fault ≡ reported.NoMemory) ⊎ reports.IsTheMeaning Totals design text (Err fault) → NoTotals fault
  totals-given text fault same h = subst (λ t. (fault ≡ reported.NoMemory) ⊎ reports.IsTheMeaning Totals design t (Err fault)) same h

  soak-at : (old new : ShelfCounts) (fault : ReportFault) → NoTotals fault → OutputGives (Soak number size workers) (Some []) old new (Err (report_status fault))
  soak-at old new (reported.Plan fault) (inl e) = absurd (cc)
  soak-at old new (reported.Plan fault) (inr m) = absurd (plan-accepted fault m.means.0 m.means.1)
  soak-at old new (reported.GoodLoop time) (inl e) = absurd (cc)
  soak-at old new (reported.GoodLoop time) (inr m) = soak-tells number size workers [] design (Err (reported.GoodLoop time)) (Loops time) is m refl
  soak-at old new reported.NoMemory h = tt

  pub soak-faulty : (old new : ShelfCounts) (text : List ℕ) (fault : ReportFault) (status : Status) → text ≡ soaks.plan_text size →
      (fault ≡ reported.NoMemory) ⊎ reports.IsTheMeaning Totals design text (Err fault) → status ≡ report_status fault →
      OutputGives (Soak number size workers) (Some []) old new (Err status)
  soak-faulty old new text fault status same h told =
      subst (λ s. OutputGives (Soak number size workers) (Some []) old new (Err s)) (sym told) (soak-at old new fault (totals-given text fault same h))

  ends-at : (fault : ReportFault) → NoTotals fault → CanEnd (Soak number size workers) (report_status fault)
  ends-at (reported.Plan fault) (inl e) = absurd (cc)
  ends-at (reported.Plan fault) (inr m) = absurd (plan-accepted fault m.means.0 m.means.1)
  ends-at (reported.GoodLoop time) h = tt
  ends-at reported.NoMemory h = tt

  pub soak-ends : (text : List ℕ) (fault : ReportFault) (status : Status) → text ≡ soaks.plan_text size →
      (fault ≡ reported.NoMemory) ⊎ reports.IsTheMeaning Totals design text (Err fault) → status ≡ report_status fault → CanEnd (Soak number size workers) status
  soak-ends text fault status same h told = subst (CanEnd (Soak number size workers)) (sym told) (ends-at fault (totals-given text fault same h))

  pub soak-made : (text totals : List ℕ) → text ≡ soaks.plan_text size → reports.IsTheMeaning Totals design text (Ok totals) → reports.HoldsInEveryOrder Totals design text totals →
      IsOutput (Soak number size workers) [] totals
  soak-made text totals same m holds = record {
    answers = soak-tells number size workers [] design (Ok totals) (Outputs totals) is (subst (λ t. reports.IsTheMeaning Totals design t (Ok totals)) same m) refl;
    every_order = record { design = design; is_design = is.means; holds = subst (λ t. reports.HoldsInEveryOrder Totals design t totals) same holds };
  }

-- where the design wants memory
pub soak-wants : (number size workers : ℕ) (old new : ShelfCounts) (status : Status) → status ≡ NoMemory → OutputGives (Soak number size workers) (Some []) old new (Err status)
soak-wants number size workers old new status e = subst (λ s. OutputGives (Soak number size workers) (Some []) old new (Err s)) (sym e) tt

pub soak-wants-ends : (number size workers : ℕ) (status : Status) → status ≡ NoMemory → CanEnd (Soak number size workers) status
soak-wants-ends number size workers status e = subst (CanEnd (Soak number size workers)) (sym e) tt

-- The status at last

module _ (form : Form) (held : Option Files) (old new : ShelfCounts) (sink_old sink_new : ℕ) (files : Files) (answer : Answer) (told : held ≡ Some files) (is : IsAnswer form files answer) where
  abbrev Kept : Status → Type 0
  Kept status = Keeps form files answer old new sink_old sink_new status

  here : (P : Files → Type 0) → IfTold held P → P files
  here P h = subst (λ t. IfTold t P) told h

  as-told : (found : Answer) → IsTheAnswer form files found → Kept (status_of found)
  as-told found h = as_answered (sym (ap status_of (h.only answer is)))

  found-files : (found : Files) → held ≡ Some found → found ≡ files
  found-files found e = let same : Some found ≡ Some files = sym e ∙ told in cc

  pub keeps-status : (status : Status) → OutputGives form held old new (Err status) → Kept status
  keeps-status Done h = absurd h
  keeps-status (Refused why) h = as-told (Refuses why) (here (λ fs. IsTheAnswer form fs (Refuses why)) h)
  keeps-status Usage h = absurd h
  keeps-status (ReadFault which) (inl failed) = no_read which refl (subst (λ t. ReadFailed form t which old new) told failed)
  keeps-status (ReadFault which) (inr lacks) = as-told (Lacks which) (subst (λ fs. IsTheAnswer form fs (Lacks which)) (found-files lacks.0 lacks.1) lacks.2)
  keeps-status WriteFault h = absurd h
  keeps-status NoMemory h = no_memory refl
  keeps-status (GoodLoop time) h = as-told (Loops time) (here (λ fs. IsTheAnswer form fs (Loops time)) h)
  keeps-status (TooLong which) (inl long) = let none : None ≡ Some files = sym long.untold ∙ told in absurd (cc)
  keeps-status (TooLong which) (inr long) = as-told (Exceeds which) (subst (λ fs. IsTheAnswer form fs (Exceeds which)) (found-files long.0 long.1) long.2)

  pub output-status : (text : List ℕ) → IfTold held (λ fs. IsOutput form fs text) → status_of answer ≡ Done
  output-status text h = ap status_of ((here (λ fs. IsOutput form fs text) h).answers.only answer is)

-- The output for each number of workers

any-workers : (form : Form) (workers : ℕ) (files : Files) (answer : Answer) → IsAnswer (by_workers workers form) files answer → IsAnswer form files answer
any-workers (Grade source plan count) workers files answer is = is
any-workers (Check source) workers files answer is = is
any-workers (Faults source) workers files answer is = is
any-workers (Soak number size count) workers files answer is = is
any-workers (Dict source plan) workers files answer is = is
any-workers (Diagnose source plan response) workers files answer is = is
any-workers (Certify source plan fault) workers files answer is = is
any-workers (Audit source plan cert) workers files answer is = is
any-workers (Pick source plan) workers files answer is = is

one-output : (form : Form) (files : Files) (text : List ℕ) → IsOutput form files text → (workers : ℕ) (other : List ℕ) → IsAnswer (by_workers workers form) files (Outputs other) → other ≡ text
one-output form files text m workers other is = let same : Outputs other ≡ Outputs text = m.answers.only (Outputs other) (any-workers form workers files (Outputs other) is) in cc

-- The call at its end

module _ (asked : Option Form) (form : Form) (is_form : Some form ≡ asked) (held : Option Files) (old new : ShelfCounts) where
  pub same-form : (other : Form) → asked ≡ Some other → other ≡ form
  same-form other e = let same : Some other ≡ Some form = sym (is_form ∙ e) in cc

  as-asked : (other : Form) (files : Files) (answer : Answer) → asked ≡ Some other → IsAnswer other files answer → IsAnswer form files answer
  as-asked other files answer e is = subst (λ f. IsAnswer f files answer) (same-form other e) is

  pub as-told-for : (other : Form) (files : Files) → asked ≡ Some other → files_for other held ≡ Some files → files_for form held ≡ Some files
  as-told-for other files e told = subst (λ f. files_for f held ≡ Some files) (same-form other e) told

  pub keeps-at-err : (sink_old sink_new : ℕ) (status : Status) → OutputGives form (files_for form held) old new (Err status) → (other : Form) (files : Files) (answer : Answer) → asked ≡ Some other →
      files_for other held ≡ Some files →
      IsAnswer other files answer → Keeps other files answer old new sink_old sink_new status
  keeps-at-err sink_old sink_new status h other files answer e told is =
      subst (λ f. Keeps f files answer old new sink_old sink_new status) (sym (same-form other e))
      (keeps-status form (files_for form held) old new sink_old sink_new files answer (as-told-for other files e told) (as-asked other files answer e is) status h)

  pub keeps-at-end : (text : List ℕ) → IfTold (files_for form held) (λ files. IsOutput form files text) → (sink_held sink_after : Option (List ℕ)) (before after : ℕ) (status : Status) →
      PutGives sink_held text sink_after before after status → (other : Form) (files : Files) (answer : Answer) → asked ≡ Some other → files_for other held ≡ Some files → IsAnswer other files answer →
      Keeps other files answer old new before after status
  keeps-at-end text made sink_held sink_after before after status h other files answer e told is = by status h
    where
      done : status_of answer ≡ Done
      done = output-status form (files_for form held) old new before after files answer (as-told-for other files e told) (as-asked other files answer e is) text made

      by : (s : Status) → PutGives sink_held text sink_after before after s → Keeps other files answer old new before after s
      by Done p = as_answered (sym done)
      by (Refused why) p = absurd p
      by Usage p = absurd p
      by (ReadFault which) p = absurd p
      by WriteFault p = no_put refl done p.1
      by NoMemory p = no_memory refl
      by (GoodLoop time) p = absurd p
      by (TooLong which) p = absurd p

  -- a loop is the answer to the form
  pub loops-at-err : (status : Status) → OutputGives form (files_for form held) old new (Err status) → (time : ℕ) → status ≡ GoodLoop time → Answers asked held (Loops time)
  loops-at-err status h time e =
      subst (λ o. Answers o held (Loops time)) is_form (by (files_for form held) (subst (λ s. OutputGives form (files_for form held) old new (Err s)) e h))
    where
      by : (told : Option Files) → IfTold told (λ files. IsTheAnswer form files (Loops time)) → IfTold told (λ files. IsAnswer form files (Loops time))
      by None is = tt
      by (Some files) is = is.is

  -- What a sink gained is the one output

  abbrev pub SameBytes : Option Form → Option (List ℕ) → Option (List ℕ) → Type 0
  SameBytes found before after = IfSome found (λ (f : Form). IfTold (files_for f held) (λ files.
      IfTold before (λ had. (workers : ℕ) (other : List ℕ) → IsAnswer (by_workers workers f) files (Outputs other) → after ≡ Some (had ++ other))))

  pub same-at-end : (text : List ℕ) → IfTold (files_for form held) (λ files. IsOutput form files text) → (before after : Option (List ℕ)) (faults_before faults_after : ℕ) (status : Status) →
      PutGives before text after faults_before faults_after status → status ≡ Done → SameBytes asked before after
  same-at-end text made before after faults_before faults_after status put done =
      subst (λ o. SameBytes o before after) is_form (by (files_for form held) made before (subst (PutGives before text after faults_before faults_after) done put))
    where
      by : (found : Option Files) → IfTold found (λ files. IsOutput form files text) → (told : Option (List ℕ)) → Gains told text after →
          IfTold found (λ files. IfTold told (λ had. (workers : ℕ) (other : List ℕ) → IsAnswer (by_workers workers form) files (Outputs other) → after ≡ Some (had ++ other)))
      by None m told gained = tt
      by (Some files) m None gained = tt
      by (Some files) m (Some had) gained = λ workers other is. gained ∙ ap (λ t. Some (had ++ t)) (sym (one-output form files text m workers other is))

  -- How often files are read and the sink is put to

  pub reads-at-end : (before after : ℕ) → (before ≤ after) × (after ≤ before + files_of form) → (before ≤ after) × (after ≤ before + files_named asked)
  reads-at-end before after h = subst (λ o. (before ≤ after) × (after ≤ before + files_named o)) is_form h

  abbrev pub FewPuts : Option Form → Option (List ℕ) → Option (List ℕ) → ℕ → ℕ → Type 0
  FewPuts found told_before told_after before after =
      IfSome found (λ (f : Form). (after ≡ before) ⊎ ((text : List ℕ) × IfTold (files_for f held) (λ files. IsOutput f files text) × PutsInFew told_before text told_after before after))

  pub puts-at-err : (told_before told_after : Option (List ℕ)) (before : ℕ) → FewPuts asked told_before told_after before before
  puts-at-err told_before told_after before = subst (λ o. FewPuts o told_before told_after before before) is_form (inl refl)

  pub puts-at-end : (text : List ℕ) → IfTold (files_for form held) (λ files. IsOutput form files text) → (told_before told_after : Option (List ℕ)) (before after : ℕ) →
      PutsInFew told_before text told_after before after → FewPuts asked told_before told_after before after
  puts-at-end text made told_before told_after before after few = subst (λ o. FewPuts o told_before told_after before after) is_form (inr (text, made, few))
