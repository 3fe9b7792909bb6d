use Rattle.std.proofs.Common.{◌≡◌, ◌≤◌, ◌∙◌, ◌⊎◌, ap, subst, Ok, Err, arith}
use Rattle.vf_base.specs.Counts.{raised}
use Rattle.v_design.specs.PlainDesigns.{design_of, plan_of}
use Rattle.kept_samples.specs.Kept.{samples_kept}
use Rattle.outputs_exist.specs.dict_report.declared.fault.OutputFault.TheVariants as output_faults
use Rattle.outputs_exist.specs.dict_report.Outputs as outputs
use Rattle.outputs_exist.specs.dict_report.Orders as orders
use Rattle.vf_words.specs.Forms.{plain_source}
use Rattle.vf_words.specs.Words.{Diagnose}
use Rattle.top_call.specs.Outside.{IfTold, counts_of}
use Rattle.top_call.specs.declared.purpose.Purpose.TheVariants.{Dictionary}
use Rattle.top_call.specs.Answers.{HoldPlan, HoldResponse, AfterObserved}
use Rattle.top_call.specs.Making.{PlanGives, ResponseGives}
use Rattle.top_call.proofs.OneAnswer.{diagnose-over}
use Rattle.top_call.proofs.Making.{err-gives, err-ends}
use Rattle.top_call.proofs.OverTest.{design-not-read, design-ends, test-not-read, test-ends, output-ends, observed-not-read, observed-ends, diagnosis-made, diagnosis-faulty}
use Rattle.top_call.proofs.diagnosis.diagnosis_output.Goals as goal

pub returns-in_err-design-clause-gives : goal.returns-in_err-design-clause-gives
returns-in_err-design-clause-gives g c =
    let held = g.S.Shelf.held c.args.shelf.now in let source = plain_source c.args.source in let plan = c.args.plan.now in let response = c.args.response.now in
    let status = c.in_err-design.field-0.0 in
    let old = counts_of g.S.Shelf c.args.shelf.now in
    let new = counts_of g.S.Shelf c.read_source.new.shelf in
    err-gives (Diagnose source plan response) held old new c.from_residual.result status c.from_residual.ensures.1
    (design-not-read (Diagnose source plan response) source plan Dictionary (λ files. AfterObserved files response)
    (diagnose-over source plan response) held old new status c.in_err-design.ensures.reads c.in_err-design.ensures.gives)

pub returns-in_err-design-clause-ends : goal.returns-in_err-design-clause-ends
returns-in_err-design-clause-ends g c =
    let held = g.S.Shelf.held c.args.shelf.now in let source = plain_source c.args.source in let plan = c.args.plan.now in let response = c.args.response.now in
    let status = c.in_err-design.field-0.0 in
    let old = counts_of g.S.Shelf c.args.shelf.now in
    let new = counts_of g.S.Shelf c.read_source.new.shelf in
    err-ends (Diagnose source plan response) c.from_residual.result status c.from_residual.ensures.1
    (design-ends (Diagnose source plan response) source plan Dictionary (λ files. AfterObserved files response) (diagnose-over source plan response) held old new status c.in_err-design.ensures.gives)

pub returns-in_err-test-clause-gives : goal.returns-in_err-test-clause-gives
returns-in_err-test-clause-gives g c =
    let held = g.S.Shelf.held c.args.shelf.now in let source = plain_source c.args.source in let plan = c.args.plan.now in let response = c.args.response.now in
    let status = c.in_err-test.field-0.0 in let d = c.in_ok-design.ensures in
    let old = counts_of g.S.Shelf c.args.shelf.now in
    let mid = counts_of g.S.Shelf c.read_source.new.shelf in
    let new = counts_of g.S.Shelf c.read_test_plan.new.shelf in
    let design = design_of c.in_ok-design.design in
    err-gives (Diagnose source plan response) held old new c.from_residual-in_err-test.result status c.from_residual-in_err-test.ensures.1
    (test-not-read (Diagnose source plan response) source plan Dictionary (λ files. AfterObserved files response)
    (diagnose-over source plan response) design held old mid new status d.faults d.long d.reads c.in_err-test.ensures.reads d.gives
    (subst (λ h. PlanGives h plan Dictionary design mid new (Err status)) d.kept c.in_err-test.ensures.gives))

pub returns-in_err-test-clause-ends : goal.returns-in_err-test-clause-ends
returns-in_err-test-clause-ends g c =
    let held = g.S.Shelf.held c.read_source.new.shelf in let source = plain_source c.args.source in let plan = c.args.plan.now in let response = c.args.response.now in
    let status = c.in_err-test.field-0.0 in
    let mid = counts_of g.S.Shelf c.read_source.new.shelf in
    let new = counts_of g.S.Shelf c.read_test_plan.new.shelf in
    err-ends (Diagnose source plan response) c.from_residual-in_err-test.result status c.from_residual-in_err-test.ensures.1
    (test-ends (Diagnose source plan response) source plan Dictionary (λ files. AfterObserved files response) (diagnose-over source plan response) held
    (design_of c.in_ok-design.design) mid new status c.in_err-test.ensures.gives)

pub returns-in_err-observed-clause-gives : goal.returns-in_err-observed-clause-gives
returns-in_err-observed-clause-gives g c =
    let held = g.S.Shelf.held c.args.shelf.now in let source = plain_source c.args.source in let plan = c.args.plan.now in let response = c.args.response.now in
    let status = c.in_err-observed.field-0.0 in
    let d = c.in_ok-design.ensures in let p = c.in_ok-test.ensures in
    let old = counts_of g.S.Shelf c.args.shelf.now in
    let first = counts_of g.S.Shelf c.read_source.new.shelf in
    let mid = counts_of g.S.Shelf c.read_test_plan.new.shelf in
    let new = counts_of g.S.Shelf c.read_observed.new.shelf in
    let design = design_of c.in_ok-design.design in let test = plan_of c.in_ok-test.test in
    let its = subst (λ h. IfTold h (λ files. HoldPlan files plan Dictionary design test)) d.kept p.gives in
    let faults : old.faults ≤ mid.faults = omega (arith, d.faults, p.faults) in
    let longs : old.long_answers ≤ mid.long_answers = omega (arith, d.long, p.long) in
    err-gives (Diagnose source plan response) held old new c.from_residual-in_err-observed.result status c.from_residual-in_err-observed.ensures.1
    (observed-not-read source plan response design test held d.gives its old mid new status faults longs (c.in_err-observed.ensures.reads ∙ ap raised (p.reads ∙ ap raised d.reads))
    (subst (λ h. ResponseGives h response test mid new (Err status)) (p.kept ∙ d.kept) c.in_err-observed.ensures.gives))

pub returns-in_err-observed-clause-ends : goal.returns-in_err-observed-clause-ends
returns-in_err-observed-clause-ends g c =
    let held = g.S.Shelf.held c.args.shelf.now in let source = plain_source c.args.source in let plan = c.args.plan.now in let response = c.args.response.now in
    let status = c.in_err-observed.field-0.0 in
    let d = c.in_ok-design.ensures in let p = c.in_ok-test.ensures in
    let mid = counts_of g.S.Shelf c.read_test_plan.new.shelf in
    let new = counts_of g.S.Shelf c.read_observed.new.shelf in
    let design = design_of c.in_ok-design.design in let test = plan_of c.in_ok-test.test in
    let its = subst (λ h. IfTold h (λ files. HoldPlan files plan Dictionary design test)) d.kept p.gives in
    err-ends (Diagnose source plan response) c.from_residual-in_err-observed.result status c.from_residual-in_err-observed.ensures.1
    (observed-ends source plan response design test held d.gives its mid new status (subst (λ h. ResponseGives h response test mid new (Err status)) (p.kept ∙ d.kept) c.in_err-observed.ensures.gives))

pub returns-in-Ok-clause-gives : goal.returns-in-Ok-clause-gives
returns-in-Ok-clause-gives g c =
    let held = g.S.Shelf.held c.args.shelf.now in let source = plain_source c.args.source in let plan = c.args.plan.now in let response = c.args.response.now in
    let d = c.in_ok-design.ensures in let p = c.in_ok-test.ensures in
    let design = design_of c.in_ok-design.design in let test = plan_of c.in_ok-test.test in let observed = samples_kept c.in_ok-observed.observed.items in
    let its = subst (λ h. IfTold h (λ files. HoldPlan files plan Dictionary design test)) d.kept p.gives in
    let seen = subst (λ h. IfTold h (λ files. HoldResponse files response test observed)) (p.kept ∙ d.kept) c.in_ok-observed.ensures.gives in
    let same = ap samples_kept c.as_slice.ensures.value in
    diagnosis-made source plan response design test held d.gives its observed c.in-Ok.text.items seen
    (subst (λ o. outputs.IsTheMeaning (outputs.Diagnosis o) design test (Ok c.in-Ok.text.items)) same c.in-Ok.ensures.told)
    (subst (λ o. orders.HoldsInEveryOrder (outputs.Diagnosis o) design test c.in-Ok.text.items) same c.in-Ok.ensures.every_order)

pub returns-clause-gives : goal.returns-clause-gives
returns-clause-gives g c =
    let held = g.S.Shelf.held c.args.shelf.now in let source = plain_source c.args.source in let plan = c.args.plan.now in let response = c.args.response.now in
    let d = c.in_ok-design.ensures in let p = c.in_ok-test.ensures in
    let old = counts_of g.S.Shelf c.args.shelf.now in
    let new = counts_of g.S.Shelf c.read_observed.new.shelf in
    let design = design_of c.in_ok-design.design in let test = plan_of c.in_ok-test.test in let observed = samples_kept c.in_ok-observed.observed.items in
    let its = subst (λ h. IfTold h (λ files. HoldPlan files plan Dictionary design test)) d.kept p.gives in
    let seen = subst (λ h. IfTold h (λ files. HoldResponse files response test observed)) (p.kept ∙ d.kept) c.in_ok-observed.ensures.gives in
    let same = ap samples_kept c.as_slice.ensures.value in
    diagnosis-faulty source plan response design test held d.gives its observed old new c.in-Err.fault c.output_status.result seen
    (subst (λ o. (c.in-Err.fault ≡ output_faults.NoMemory) ⊎ outputs.IsTheMeaning (outputs.Diagnosis o) design test (Err c.in-Err.fault)) same c.in-Err.ensures.told) c.output_status.ensures

pub returns-clause-ends : goal.returns-clause-ends
returns-clause-ends g c =
    let source = plain_source c.args.source in let plan = c.args.plan.now in let response = c.args.response.now in
    output-ends (Diagnose source plan response) source plan Dictionary (λ files. AfterObserved files response) (diagnose-over source plan response)
    tt c.in-Err.fault c.output_status.result c.output_status.ensures
