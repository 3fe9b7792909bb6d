-- The forms over a design and a plan that is read for a purpose: from what each step gives to what the output's making gives.
use Rattle.std.proofs.Common.{◌≡◌, ℕ, ◌<◌, ◌≤◌, List, length, Option, Some, None, Result, Ok, Err, refl, sym, ap, subst, ◌∙◌, ◌⊎◌, inl, inr, arith}
use Rattle.std.specs.Prelude.{nat_lt}
use Rattle.std.proofs.lemmas.Bool.{ltb-true}
use Rattle.std.proofs.lemmas.Option.{cond_some}
use Rattle.vf_base.specs.Counts.{raised}
use Rattle.vf_base.specs.Shelf.{Files}
use Rattle.v_design.specs.Designs.{FlatDesign, TestPlan}
use Rattle.v_design.specs.PlainDesigns.{plan_of}
use Rattle.v_design.specs.Grades.{Sample}
use Rattle.v_design.specs.declared.plan.Plan.{Plan}
use Rattle.plan_read.specs.Spelled as plans
use Rattle.plan_read.specs.declared.fault.PlanFault.{PlanFault}
use Rattle.plan_read.specs.declared.fault.PlanFault.TheVariants as plan_faults
use Rattle.response_text.specs.Spelled as responses
use Rattle.response_text.specs.declared.fault.ResponseFault.{ResponseFault}
use Rattle.response_text.specs.declared.fault.ResponseFault.TheVariants as response_faults
use Rattle.dict_text.specs.Dictionaries.{room_of, most_room, too_large}
use Rattle.outputs_exist.specs.dict_report.declared.fault.OutputFault.{OutputFault}
use Rattle.outputs_exist.specs.dict_report.declared.fault.OutputFault.TheVariants as output_faults
use Rattle.outputs_exist.specs.dict_report.Outputs as outputs
use Rattle.outputs_exist.specs.dict_report.Orders as orders
use Rattle.outputs_exist.specs.cert_report.declared.fault.CertifyFault.{CertifyFault}
use Rattle.outputs_exist.specs.cert_report.declared.fault.CertifyFault.TheVariants as certify_faults
use Rattle.outputs_exist.specs.cert_report.Certificates as certificates
use Rattle.outputs_exist.specs.cert_report.Audits as audits
use Rattle.vf_words.specs.Words.{Source, Form, Diagnose, Certify, Audit}
use Rattle.vf_status.specs.declared.status.Which.TheVariants as whiches
use Rattle.vf_status.specs.declared.status.Refusal.{Refusal}
use Rattle.vf_status.specs.declared.status.Refusal.TheVariants as refusals
use Rattle.vf_status.specs.declared.status.Status.{Status}
use Rattle.vf_status.specs.declared.status.Status.TheVariants.{Done, Refused, Usage, ReadFault, WriteFault, NoMemory, GoodLoop, TooLong}
use Rattle.top_call.specs.declared.purpose.Purpose.{Purpose}
use Rattle.top_call.specs.declared.purpose.Purpose.TheVariants.{Dictionary, Certificate}
use Rattle.top_call.specs.Answers.{Answer, Outputs, Refuses, Lacks, Exceeds, Loops, most_of, IsFile, HoldDesign, excess, HoldPlan, HoldResponse, AfterTest, AfterOutput, AfterObserved}
use Rattle.top_call.specs.Answers.{IsCertified, AfterPlace, AfterAudited, IsTheAnswer}
use Rattle.top_call.specs.Answers.{TellsInEveryOrder, Stands}
use Rattle.top_call.specs.Outside.{IsOutput, IfTold, ShelfCounts, reads_to, IsReason, CanRefuse, CanEnd, RunsGood}
use Rattle.top_call.specs.Making.{FileGives, IsReasonOf, DesignGives, plan_status, RefusesText, IsPlanReason, PlanTextGives, HoldRefusedPlan, PlanGives, response_status, RefusesObserved}
use Rattle.top_call.specs.Making.{HoldRefusedResponse, ResponseGives, output_status, certify_status, OutputGives}
use Rattle.top_call.proofs.OneAnswer.{The, IsOver, diagnose-over, test-lacks, test-exceeds, test-refused, test-spelled, observed-lacks, observed-exceeds, observed-refused, observed-spelled}
use Rattle.top_call.proofs.OneAnswer.{the-output, certify-over, the-certificate, audit-over, cert-lacks, cert-exceeds, cert-tells}
use Rattle.top_call.proofs.Making.{plan-reason, reason-can, file-ends, text-ends, source-ends, Decides, text-not-read, NoReason, NoRefusal, file-fails, not-read}

-- a fact about any files, of those that are told
told-all : (held : Option Files) (P : Files → Type 0) → ((files : Files) → P files) → IfTold held P
told-all None P all = tt
told-all (Some files) P all = all files

-- Plans

-- what a plan's text that spells none gives
pub plan-faulty : (purpose : Purpose) (design : FlatDesign) (text : List ℕ) (fault : PlanFault) (status : Status) → plans.Refuses design text fault → status ≡ plan_status fault →
    PlanTextGives purpose design text (Err status)
plan-faulty purpose design text fault status refuses told = subst (λ s. PlanTextGives purpose design text (Err s)) (sym told) (by fault refuses)
  where
    by : (f : PlanFault) → plans.Refuses design text f → PlanTextGives purpose design text (Err (plan_status f))
    by (plan_faults.BadLine line) h = (h, λ e. cc)
    by (plan_faults.UnknownSite line) h = (h, λ e. cc)
    by (plan_faults.TooMany line) h = (h, λ e. cc)
    by plan_faults.TooLong h = (h, λ e. cc)
    by plan_faults.NoMemory h = tt

-- the room of a dictionary that is too large
large-room : (plan : TestPlan) (room : ℕ) → too_large plan ≡ Some room → most_room < room
large-room plan room e = let some = cond_some (nat_lt most_room (room_of plan)) (room_of plan) room e in subst (λ n. most_room < n) some.1 (ltb-true most_room (room_of plan) some.0)

room-reason : (purpose : Purpose) (plan : TestPlan) (room : ℕ) → excess purpose plan ≡ Some room → IsPlanReason purpose (refusals.TooLarge room)
room-reason Dictionary plan room e = (refl, large-room plan room e)
room-reason Certificate plan room e = absurd (cc)

-- it is refused for a reason that a plan's text can have
module _ (purpose : Purpose) (design : FlatDesign) (text : List ℕ) where
  text-reason : (why : Refusal) → length text ≤ most_of whiches.Plan → RefusesText purpose design text why → IsPlanReason purpose why
  text-reason (refusals.Scan fault) short h = absurd h
  text-reason (refusals.Parse fault) short h = absurd h
  text-reason (refusals.Elab fault) short h = absurd h
  text-reason (refusals.Plan fault) short h = plan-reason design text fault short h.0 h.1
  text-reason (refusals.Response fault) short h = absurd h
  text-reason (refusals.TooLarge room) short h = room-reason purpose h.0 room h.2
  text-reason (refusals.NoFault place) short h = absurd h

-- what a plan's text that was read gives
module _ (held : Option Files) (name : List ℕ) (purpose : Purpose) (design : FlatDesign) (old new : ShelfCounts) (bytes text : List ℕ) (short : length bytes ≤ most_of whiches.Plan)
    (file : IfTold held (λ files. IsFile files name whiches.Plan bytes)) (same : text ≡ bytes) where
  plan-held : (told : Option Files) → IfTold told (λ files. IsFile files name whiches.Plan bytes) → (plan : TestPlan) → plans.Spells design bytes plan → excess purpose plan ≡ None →
      IfTold told (λ files. HoldPlan files name purpose design plan)
  plan-held None f plan s roomy = tt
  plan-held (Some files) f plan s roomy = record { bytes = bytes; file = f; spelled = s; roomy = roomy }

  refused-held : (told : Option Files) → IfTold told (λ files. IsFile files name whiches.Plan bytes) → (why : Refusal) → RefusesText purpose design bytes why →
      IfTold told (λ files. HoldRefusedPlan files name purpose design why)
  refused-held None f why r = tt
  refused-held (Some files) f why r = record { bytes = bytes; file = f; refused = r }

  pub plan-given : (r : Result Plan Status) → PlanTextGives purpose design text r → PlanGives held name purpose design old new r
  plan-given (Ok plan) h = plan-held held file (plan_of plan) (subst (λ t. plans.Spells design t (plan_of plan)) same h.0) h.1
  plan-given (Err Done) h = absurd h
  plan-given (Err (Refused why)) h =
      let r : RefusesText purpose design bytes why = subst (λ t. RefusesText purpose design t why) same h in (text-reason purpose design bytes why short r, refused-held held file why r)
  plan-given (Err Usage) h = absurd h
  plan-given (Err (ReadFault which)) h = absurd h
  plan-given (Err WriteFault) h = absurd h
  plan-given (Err NoMemory) h = tt
  plan-given (Err (GoodLoop time)) h = absurd h
  plan-given (Err (TooLong which)) h = absurd h

-- Responses

-- what a response's text that was read gives
module _ (held : Option Files) (name : List ℕ) (plan : TestPlan) (old new : ShelfCounts) (bytes text : List ℕ) (short : length bytes ≤ most_of whiches.Response)
    (file : IfTold held (λ files. IsFile files name whiches.Response bytes)) (same : text ≡ bytes) where
  observed-held : (told : Option Files) → IfTold told (λ files. IsFile files name whiches.Response bytes) → (observed : List Sample) → responses.Spells plan bytes observed →
      IfTold told (λ files. HoldResponse files name plan observed)
  observed-held None f observed s = tt
  observed-held (Some files) f observed s = record { bytes = bytes; file = f; spelled = s }

  pub response-given : (observed : List Sample) → responses.Spells plan text observed → IfTold held (λ files. HoldResponse files name plan observed)
  response-given observed s = observed-held held file observed (subst (λ t. responses.Spells plan t observed) same s)

  refused-response : (told : Option Files) → IfTold told (λ files. IsFile files name whiches.Response bytes) → (why : Refusal) → RefusesObserved plan bytes why →
      IfTold told (λ files. HoldRefusedResponse files name plan why)
  refused-response None f why r = tt
  refused-response (Some files) f why r = record { bytes = bytes; file = f; refused = r }

  pub response-faulty : (fault : ResponseFault) (status : Status) → responses.Refuses plan text fault → status ≡ response_status fault → ResponseGives held name plan old new (Err status)
  response-faulty fault status refuses told = subst (λ s. ResponseGives held name plan old new (Err s)) (sym told) (by fault (subst (λ t. responses.Refuses plan t fault) same refuses))
    where
      by : (f : ResponseFault) → responses.Refuses plan bytes f → ResponseGives held name plan old new (Err (response_status f))
      by (response_faults.BadLine line) h = ((refl, ((λ e. cc), (λ e. cc))), refused-response held file (refusals.Response (response_faults.BadLine line)) (h, λ e. cc))
      by response_faults.TooLong h = absurd (omega (arith, short, h))
      by response_faults.NoMemory h = tt

-- Forms

module _ (form : Form) (source : Source) (plan : List ℕ) (purpose : Purpose) (next : Files → FlatDesign → TestPlan → Answer → Type 0) (over : IsOver form source plan purpose next) where
  -- how they end
  pub design-ends : (held : Option Files) (old new : ShelfCounts) (status : Status) → DesignGives held source old new (Err status) → CanEnd form status
  design-ends held old new status h = source-ends form held source old new status over.names_design h

  plan-can : (why : Refusal) → IsPlanReason purpose why → CanRefuse form why × IsReason why
  plan-can (refusals.Scan fault) h = absurd h
  plan-can (refusals.Parse fault) h = absurd h
  plan-can (refusals.Elab fault) h = absurd h
  plan-can (refusals.Plan fault) h = (over.names_plan, h)
  plan-can (refusals.Response fault) h = absurd h
  plan-can (refusals.TooLarge room) h = (over.makes h.0, h.1)
  plan-can (refusals.NoFault place) h = absurd h

  pub test-ends : (held : Option Files) (design : FlatDesign) (old new : ShelfCounts) (status : Status) → PlanGives held plan purpose design old new (Err status) → CanEnd form status
  test-ends held design old new status h =
      text-ends form held plan whiches.Plan (IsPlanReason purpose) (λ files why. HoldRefusedPlan files plan purpose design why) old new status over.names_plan plan-can h

  pub output-ends : RunsGood form → (fault : OutputFault) (status : Status) → status ≡ output_status fault → CanEnd form status
  output-ends runs fault status told = subst (CanEnd form) (sym told) (by fault)
    where
      by : (f : OutputFault) → CanEnd form (output_status f)
      by (output_faults.GoodLoop time) = runs
      by output_faults.NoMemory = tt

  -- where the design isn't read
  pub design-not-read : (held : Option Files) (old new : ShelfCounts) (status : Status) → new.reads ≡ raised old.reads → DesignGives held source old new (Err status) →
      OutputGives form held old new (Err status)
  design-not-read held old new status reads h = not-read form source (λ files. AfterTest purpose files plan (next files)) over.as_form held old new status reads h

  module _ (design : FlatDesign) where
    -- where the plan isn't read
    test-decides : (held : Option Files) → IfTold held (λ files. HoldDesign files source design) →
        IfTold held (Decides form plan whiches.Plan (λ files why. HoldRefusedPlan files plan purpose design why))
    test-decides None d = tt
    test-decides (Some files) d = record {
      due = over.due files design d;
      lacks = λ none. over.as_form files (Lacks whiches.Plan) (test-lacks source plan purpose files (next files) design d none);
      exceeds = λ long. over.as_form files (Exceeds whiches.Plan) (test-exceeds source plan purpose files (next files) design d long);
      refused = λ why r. over.as_form files (Refuses why) (test-refused source plan purpose files (next files) design why d r);
    }

    pub test-not-read : (held : Option Files) (old mid new : ShelfCounts) (status : Status) → old.faults ≤ mid.faults → old.long_answers ≤ mid.long_answers → mid.reads ≡ raised old.reads →
        new.reads ≡ raised mid.reads →
        IfTold held (λ files. HoldDesign files source design) → PlanGives held plan purpose design mid new (Err status) → OutputGives form held old new (Err status)
    test-not-read held old mid new status faults longs one two d h =
        text-not-read form plan whiches.Plan (λ files why. HoldRefusedPlan files plan purpose design why) old mid new faults longs (two ∙ ap raised one) (IsPlanReason purpose) held status
        (test-decides held d) h

    -- where both are read
    pub is-answer : (held : Option Files) (test : TestPlan) (answer : Answer) → IfTold held (λ files. HoldDesign files source design) →
        IfTold held (λ files. HoldPlan files plan purpose design test) → IfTold held (λ files. The (next files design test) answer) → IfTold held (λ files. IsTheAnswer form files answer)
    is-answer None test answer d p t = tt
    is-answer (Some files) test answer d p t = over.as_form files answer (test-spelled source plan purpose files (next files) design test answer d p t)

    is-output : (held : Option Files) (text : List ℕ) → IfTold held (λ files. IsTheAnswer form files (Outputs text)) → IfTold held (λ files. Stands form files text) →
        IfTold held (λ files. IsOutput form files text)
    is-output None text is stands = tt
    is-output (Some files) text is stands = record { answers = is; every_order = stands }

    pub output-made : (held : Option Files) (test : TestPlan) (text : List ℕ) → IfTold held (λ files. HoldDesign files source design) →
        IfTold held (λ files. HoldPlan files plan purpose design test) →
        IfTold held (λ files. The (next files design test) (Outputs text)) → IfTold held (λ files. Stands form files text) → IfTold held (λ files. IsOutput form files text)
    output-made held test text d p t stands = is-output held text (is-answer held test (Outputs text) d p t) stands

    pub output-faulty : (held : Option Files) (old new : ShelfCounts) (test : TestPlan) (fault : OutputFault) (status : Status) →
        IfTold held (λ files. HoldDesign files source design) → IfTold held (λ files. HoldPlan files plan purpose design test) →
        ((time : ℕ) → fault ≡ output_faults.GoodLoop time → IfTold held (λ files. The (next files design test) (Loops time))) → status ≡ output_status fault →
        OutputGives form held old new (Err status)
    output-faulty held old new test fault status d p loops told = subst (λ s. OutputGives form held old new (Err s)) (sym told) (by fault loops)
      where
        by : (f : OutputFault) → ((time : ℕ) → f ≡ output_faults.GoodLoop time → IfTold held (λ files. The (next files design test) (Loops time))) →
            OutputGives form held old new (Err (output_status f))
        by (output_faults.GoodLoop time) loops = is-answer held test (Loops time) d p (loops time refl)
        by output_faults.NoMemory loops = tt

-- a loop of the good machine, as the answer of an output
loop-told : (output : outputs.Output) (design : FlatDesign) (test : TestPlan) (fault : OutputFault) (time : ℕ) →
    (fault ≡ output_faults.NoMemory) ⊎ outputs.IsTheMeaning output design test (Err fault) →
    fault ≡ output_faults.GoodLoop time → The (AfterOutput output design test) (Loops time)
loop-told output design test fault time (inl none) e = absurd (cc)
loop-told output design test fault time (inr m) e =
    the-output output design test (Err (output_faults.GoodLoop time)) (Loops time) (subst (λ f. outputs.IsTheMeaning output design test (Err f)) e m) refl

-- `dict` and `pick`
module _ (form : Form) (output : outputs.Output) (source : Source) (plan : List ℕ) (over : IsOver form source plan Dictionary (λ files. AfterOutput output))
    (as_stands : (files : Files) (text : List ℕ) → TellsInEveryOrder output source plan files text → Stands form files text) (design : FlatDesign) (held : Option Files) where
  stands-told : (told : Option Files) (test : TestPlan) (text : List ℕ) → IfTold told (λ files. HoldDesign files source design) → IfTold told (λ files. HoldPlan files plan Dictionary design test) →
      orders.HoldsInEveryOrder output design test text → IfTold told (λ files. Stands form files text)
  stands-told None test text d p holds = tt
  stands-told (Some files) test text d p holds = as_stands files text (record { design = design; design_held = d; test = test; plan_held = p; holds = holds })

  pub told-made : (test : TestPlan) (text : List ℕ) → IfTold held (λ files. HoldDesign files source design) → IfTold held (λ files. HoldPlan files plan Dictionary design test) →
      outputs.IsTheMeaning output design test (Ok text) → orders.HoldsInEveryOrder output design test text → IfTold held (λ files. IsOutput form files text)
  told-made test text d p is holds =
      output-made form source plan Dictionary (λ files. AfterOutput output) over design held test text d p
      (told-all held (λ files. The (AfterOutput output design test) (Outputs text)) (λ files. the-output output design test (Ok text) (Outputs text) is refl)) (stands-told held test text d p holds)

  pub told-faulty : (old new : ShelfCounts) (test : TestPlan) (fault : OutputFault) (status : Status) → IfTold held (λ files. HoldDesign files source design) →
      IfTold held (λ files. HoldPlan files plan Dictionary design test) →
      (fault ≡ output_faults.NoMemory) ⊎ outputs.IsTheMeaning output design test (Err fault) → status ≡ output_status fault → OutputGives form held old new (Err status)
  told-faulty old new test fault status d p is told =
      output-faulty form source plan Dictionary (λ files. AfterOutput output) over design held old new test fault status d p
      (λ time e. told-all held (λ files. The (AfterOutput output design test) (Loops time)) (λ files. loop-told output design test fault time is e)) told

-- `diagnose`
module _ (source : Source) (plan response : List ℕ) (design : FlatDesign) (test : TestPlan) (held : Option Files)
    (d : IfTold held (λ files. HoldDesign files source design)) (p : IfTold held (λ files. HoldPlan files plan Dictionary design test)) where
  abbrev form : Form
  form = Diagnose source plan response

  abbrev next : Files → FlatDesign → TestPlan → Answer → Type 0
  next files = AfterObserved files response

  -- what is decided by the response is the answer
  by-response : (files : Files) (answer : Answer) → HoldDesign files source design → HoldPlan files plan Dictionary design test → The (AfterObserved files response design test) answer →
      IsTheAnswer form files answer
  by-response files answer own its t = (diagnose-over source plan response).as_form files answer (test-spelled source plan Dictionary files (AfterObserved files response) design test answer own its t)

  observed-decides : (told : Option Files) → IfTold told (λ files. HoldDesign files source design) → IfTold told (λ files. HoldPlan files plan Dictionary design test) →
      IfTold told (Decides form response whiches.Response (λ files why. HoldRefusedResponse files response test why))
  observed-decides None own its = tt
  observed-decides (Some files) own its = record {
    due = (design, test, own, its);
    lacks = λ none. by-response files (Lacks whiches.Response) own its (observed-lacks files response design test none);
    exceeds = λ long. by-response files (Exceeds whiches.Response) own its (observed-exceeds files response design test long);
    refused = λ why r. by-response files (Refuses why) own its (observed-refused files response design test why r);
  }

  pub observed-not-read : (old mid new : ShelfCounts) (status : Status) → old.faults ≤ mid.faults → old.long_answers ≤ mid.long_answers → new.reads ≡ reads_to whiches.Response old.reads →
      ResponseGives held response test mid new (Err status) → OutputGives form held old new (Err status)
  observed-not-read old mid new status faults longs reads h =
      text-not-read form response whiches.Response (λ files why. HoldRefusedResponse files response test why) old mid new faults longs reads (IsReasonOf whiches.Response) held status
      (observed-decides held d p) h

  pub observed-ends : (old new : ShelfCounts) (status : Status) → ResponseGives held response test old new (Err status) → CanEnd form status
  observed-ends old new status h =
      text-ends form held response whiches.Response (IsReasonOf whiches.Response) (λ files why. HoldRefusedResponse files response test why) old new status tt
      (reason-can form whiches.Response tt (λ e. cc)) h

  module _ (observed : List Sample) where
    observed-told : (told : Option Files) (answer : Answer) → IfTold told (λ files. HoldResponse files response test observed) → The (AfterOutput (outputs.Diagnosis observed) design test) answer →
        IfTold told (λ files. The (AfterObserved files response design test) answer)
    observed-told None answer r t = tt
    observed-told (Some files) answer r t = observed-spelled files response design test observed answer r t

    stands-diagnosed : (told : Option Files) (text : List ℕ) → IfTold told (λ files. HoldDesign files source design) → IfTold told (λ files. HoldPlan files plan Dictionary design test) →
        IfTold told (λ files. HoldResponse files response test observed) → orders.HoldsInEveryOrder (outputs.Diagnosis observed) design test text → IfTold told (λ files. Stands form files text)
    stands-diagnosed None text own its r holds = tt
    stands-diagnosed (Some files) text own its r holds =
        record { design = design; design_held = own; test = test; plan_held = its; observed = observed; response_held = r; holds = holds }

    pub diagnosis-made : (text : List ℕ) → IfTold held (λ files. HoldResponse files response test observed) → outputs.IsTheMeaning (outputs.Diagnosis observed) design test (Ok text) →
        orders.HoldsInEveryOrder (outputs.Diagnosis observed) design test text → IfTold held (λ files. IsOutput form files text)
    diagnosis-made text r is holds =
        output-made form source plan Dictionary next (diagnose-over source plan response) design held test text d p
        (observed-told held (Outputs text) r (the-output (outputs.Diagnosis observed) design test (Ok text) (Outputs text) is refl)) (stands-diagnosed held text d p r holds)

    pub diagnosis-faulty : (old new : ShelfCounts) (fault : OutputFault) (status : Status) → IfTold held (λ files. HoldResponse files response test observed) →
        (fault ≡ output_faults.NoMemory) ⊎ outputs.IsTheMeaning (outputs.Diagnosis observed) design test (Err fault) → status ≡ output_status fault → OutputGives form held old new (Err status)
    diagnosis-faulty old new fault status r is told =
        output-faulty form source plan Dictionary next (diagnose-over source plan response) design held old new test fault status d p
        (λ time e. observed-told held (Loops time) r (loop-told (outputs.Diagnosis observed) design test fault time is e)) told

-- `certify`
module _ (source : Source) (plan : List ℕ) (place : ℕ) (design : FlatDesign) (test : TestPlan) (held : Option Files)
    (d : IfTold held (λ files. HoldDesign files source design)) (p : IfTold held (λ files. HoldPlan files plan Certificate design test)) where
  abbrev certify_form : Form
  certify_form = Certify source plan place

  certify-answer : (meaning : Result (List ℕ) CertifyFault) (answer : Answer) → certificates.IsTheMeaning design test place meaning → IsCertified meaning answer →
      IfTold held (λ files. IsTheAnswer certify_form files answer)
  certify-answer meaning answer is told =
      is-answer certify_form source plan Certificate (λ files. AfterPlace place) (certify-over source plan place) design held test answer d p
      (told-all held (λ files. The (AfterPlace place design test) answer) (λ files. the-certificate place design test meaning answer is told))

  stands-certified : (told : Option Files) (text : List ℕ) → IfTold told (λ files. HoldDesign files source design) → IfTold told (λ files. HoldPlan files plan Certificate design test) →
      certificates.CertificateHolds design test place text → IfTold told (λ files. Stands certify_form files text)
  stands-certified None text own its holds = tt
  stands-certified (Some files) text own its holds = record { design = design; design_held = own; test = test; plan_held = its; holds = holds }

  pub certify-made : (text : List ℕ) → certificates.IsTheMeaning design test place (Ok text) → certificates.CertificateHolds design test place text →
      IfTold held (λ files. IsOutput certify_form files text)
  certify-made text is holds =
      output-made certify_form source plan Certificate (λ files. AfterPlace place) (certify-over source plan place) design held test text d p
      (told-all held (λ files. The (AfterPlace place design test) (Outputs text)) (λ files. the-certificate place design test (Ok text) (Outputs text) is refl))
      (stands-certified held text d p holds)

  pub certify-faulty : (old new : ShelfCounts) (fault : CertifyFault) (status : Status) → (fault ≡ certify_faults.NoMemory) ⊎ certificates.IsTheMeaning design test place (Err fault) →
      status ≡ certify_status fault → OutputGives certify_form held old new (Err status)
  certify-faulty old new fault status is told = subst (λ s. OutputGives certify_form held old new (Err s)) (sym told) (by fault is)
    where
      by : (f : CertifyFault) → (f ≡ certify_faults.NoMemory) ⊎ certificates.IsTheMeaning design test place (Err f) → OutputGives certify_form held old new (Err (certify_status f))
      by (certify_faults.NoFault number) (inl none) = absurd (cc)
      by (certify_faults.NoFault number) (inr m) = certify-answer (Err (certify_faults.NoFault number)) (Refuses (refusals.NoFault number)) m refl
      by (certify_faults.GoodLoop time) (inl none) = absurd (cc)
      by (certify_faults.GoodLoop time) (inr m) = certify-answer (Err (certify_faults.GoodLoop time)) (Loops time) m refl
      by certify_faults.NoMemory h = tt

  pub certify-ends : (fault : CertifyFault) (status : Status) → (fault ≡ certify_faults.NoMemory) ⊎ certificates.IsTheMeaning design test place (Err fault) → status ≡ certify_status fault →
      CanEnd certify_form status
  certify-ends fault status is told = subst (CanEnd certify_form) (sym told) (by fault is)
    where
      by : (f : CertifyFault) → (f ≡ certify_faults.NoMemory) ⊎ certificates.IsTheMeaning design test place (Err f) → CanEnd certify_form (certify_status f)
      by (certify_faults.NoFault number) (inl none) = absurd (cc)
      by (certify_faults.NoFault number) (inr m) = (m.means.0, tt)
      by (certify_faults.GoodLoop time) h = tt
      by certify_faults.NoMemory h = tt

-- `audit`
module _ (source : Source) (plan cert : List ℕ) (design : FlatDesign) (test : TestPlan) (held : Option Files)
    (d : IfTold held (λ files. HoldDesign files source design)) (p : IfTold held (λ files. HoldPlan files plan Certificate design test)) where
  abbrev audit_form : Form
  audit_form = Audit source plan cert

  -- what is decided by the certificate is the answer
  by-cert : (files : Files) (answer : Answer) → HoldDesign files source design → HoldPlan files plan Certificate design test → The (AfterAudited files cert design test) answer →
      IsTheAnswer audit_form files answer
  by-cert files answer own its t = (audit-over source plan cert).as_form files answer (test-spelled source plan Certificate files (AfterAudited files cert) design test answer own its t)

  cert-decides : (told : Option Files) → IfTold told (λ files. HoldDesign files source design) → IfTold told (λ files. HoldPlan files plan Certificate design test) →
      IfTold told (Decides audit_form cert whiches.Cert NoRefusal)
  cert-decides None own its = tt
  cert-decides (Some files) own its = record {
    due = (design, test, own, its);
    lacks = λ none. by-cert files (Lacks whiches.Cert) own its (cert-lacks files cert design test none);
    exceeds = λ long. by-cert files (Exceeds whiches.Cert) own its (cert-exceeds files cert design test long);
    refused = λ why r. absurd r;
  }

  pub cert-not-read : (old mid new : ShelfCounts) (status : Status) → old.faults ≤ mid.faults → old.long_answers ≤ mid.long_answers → new.reads ≡ reads_to whiches.Cert old.reads →
      FileGives held cert whiches.Cert mid new (Err status) → OutputGives audit_form held old new (Err status)
  cert-not-read old mid new status faults longs reads h =
      text-not-read audit_form cert whiches.Cert NoRefusal old mid new faults longs reads NoReason held status (cert-decides held d p)
      (file-fails held cert whiches.Cert NoReason NoRefusal mid new status h)

  pub cert-ends : (old new : ShelfCounts) (status : Status) → FileGives held cert whiches.Cert old new (Err status) → CanEnd audit_form status
  cert-ends old new status h = file-ends audit_form held cert whiches.Cert old new status tt h

  audit-told : (told : Option Files) (bytes text : List ℕ) → IfTold told (λ files. IsFile files cert whiches.Cert bytes) → text ≡ audits.audit_text design test bytes →
      IfTold told (λ files. The (AfterAudited files cert design test) (Outputs text))
  audit-told None bytes text f e = tt
  audit-told (Some files) bytes text f e = cert-tells files cert design test bytes text f e

  stands-audited : (told : Option Files) (bytes text : List ℕ) → IfTold told (λ files. HoldDesign files source design) → IfTold told (λ files. HoldPlan files plan Certificate design test) →
      IfTold told (λ files. IsFile files cert whiches.Cert bytes) → audits.AuditHolds design test bytes text → IfTold told (λ files. Stands audit_form files text)
  stands-audited None bytes text own its f holds = tt
  stands-audited (Some files) bytes text own its f holds = record { design = design; design_held = own; test = test; plan_held = its; bytes = bytes; cert_held = f; holds = holds }

  pub audit-made : (bytes given text : List ℕ) → IfTold held (λ files. IsFile files cert whiches.Cert bytes) → given ≡ bytes → text ≡ audits.audit_text design test given →
      audits.AuditHolds design test given text → IfTold held (λ files. IsOutput audit_form files text)
  audit-made bytes given text f same told holds =
      output-made audit_form source plan Certificate (λ files. AfterAudited files cert) (audit-over source plan cert) design held test text d p
      (audit-told held bytes text f (subst (λ t. text ≡ audits.audit_text design test t) same told))
      (stands-audited held bytes text d p f (subst (λ t. audits.AuditHolds design test t text) same holds))
