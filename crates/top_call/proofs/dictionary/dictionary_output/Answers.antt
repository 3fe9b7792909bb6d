use Rattle.std.proofs.Common.{subst, Err}
use Rattle.v_design.specs.PlainDesigns.{design_of, plan_of}
use Rattle.outputs_exist.specs.dict_report.Outputs as outputs
use Rattle.vf_words.specs.Forms.{plain_source}
use Rattle.vf_words.specs.Words.{Dict}
use Rattle.top_call.specs.Outside.{IfTold, counts_of}
use Rattle.top_call.specs.declared.purpose.Purpose.TheVariants.{Dictionary}
use Rattle.top_call.specs.Answers.{HoldPlan, AfterOutput}
use Rattle.top_call.specs.Making.{PlanGives}
use Rattle.top_call.proofs.OneAnswer.{dict-over}
use Rattle.top_call.proofs.Making.{err-gives, err-ends}
use Rattle.top_call.proofs.OverTest.{design-not-read, design-ends, test-not-read, test-ends, output-ends, told-made, told-faulty}
use Rattle.top_call.proofs.dictionary.dictionary_output.Goals as goal

pub returns-in_err-design-clause-gives : goal.returns-in_err-design-clause-gives
returns-in_err-design-clause-gives g c =
    let held = g.S.Shelf.held c.args.shelf.now in let source = plain_source c.args.source in let plan = c.args.plan.now in let status = c.in_err-design.field-0.0 in
    let old = counts_of g.S.Shelf c.args.shelf.now in
    let new = counts_of g.S.Shelf c.read_source.new.shelf in
    err-gives (Dict source plan) held old new c.from_residual.result status c.from_residual.ensures.1
    (design-not-read (Dict source plan) source plan Dictionary (λ files. AfterOutput outputs.DictText) (dict-over source plan) held old new status
    c.in_err-design.ensures.reads c.in_err-design.ensures.gives)

pub returns-in_err-design-clause-ends : goal.returns-in_err-design-clause-ends
returns-in_err-design-clause-ends g c =
    let held = g.S.Shelf.held c.args.shelf.now in let source = plain_source c.args.source in let plan = c.args.plan.now in let status = c.in_err-design.field-0.0 in
    let old = counts_of g.S.Shelf c.args.shelf.now in
    let new = counts_of g.S.Shelf c.read_source.new.shelf in
    err-ends (Dict source plan) c.from_residual.result status c.from_residual.ensures.1
    (design-ends (Dict source plan) source plan Dictionary (λ files. AfterOutput outputs.DictText) (dict-over source plan) held old new status c.in_err-design.ensures.gives)

pub returns-in_err-test-clause-gives : goal.returns-in_err-test-clause-gives
returns-in_err-test-clause-gives g c =
    let held = g.S.Shelf.held c.args.shelf.now in let source = plain_source c.args.source in let plan = c.args.plan.now in let status = c.in_err-test.field-0.0 in let d = c.in_ok-design.ensures in
    let old = counts_of g.S.Shelf c.args.shelf.now in
    let mid = counts_of g.S.Shelf c.read_source.new.shelf in
    let new = counts_of g.S.Shelf c.read_test_plan.new.shelf in
    let design = design_of c.in_ok-design.design in
    err-gives (Dict source plan) held old new c.from_residual-in_err-test.result status c.from_residual-in_err-test.ensures.1
    (test-not-read (Dict source plan) source plan Dictionary (λ files. AfterOutput outputs.DictText) (dict-over source plan) design held old mid new status
    d.faults d.long d.reads c.in_err-test.ensures.reads d.gives
    (subst (λ h. PlanGives h plan Dictionary design mid new (Err status)) d.kept c.in_err-test.ensures.gives))

pub returns-in_err-test-clause-ends : goal.returns-in_err-test-clause-ends
returns-in_err-test-clause-ends g c =
    let held = g.S.Shelf.held c.read_source.new.shelf in let source = plain_source c.args.source in let plan = c.args.plan.now in let status = c.in_err-test.field-0.0 in
    let mid = counts_of g.S.Shelf c.read_source.new.shelf in
    let new = counts_of g.S.Shelf c.read_test_plan.new.shelf in
    err-ends (Dict source plan) c.from_residual-in_err-test.result status c.from_residual-in_err-test.ensures.1
    (test-ends (Dict source plan) source plan Dictionary (λ files. AfterOutput outputs.DictText) (dict-over source plan) held (design_of c.in_ok-design.design) mid new status
    c.in_err-test.ensures.gives)

pub returns-in-Ok-clause-gives : goal.returns-in-Ok-clause-gives
returns-in-Ok-clause-gives g c =
    let held = g.S.Shelf.held c.args.shelf.now in let source = plain_source c.args.source in let plan = c.args.plan.now in
    let design = design_of c.in_ok-design.design in let test = plan_of c.in_ok-test.test in
    let its = subst (λ h. IfTold h (λ files. HoldPlan files plan Dictionary design test)) c.in_ok-design.ensures.kept c.in_ok-test.ensures.gives in
    told-made (Dict source plan) outputs.DictText source plan (dict-over source plan) (λ files text s. s) design held test c.in-Ok.text.items c.in_ok-design.ensures.gives its
    c.in-Ok.ensures.told c.in-Ok.ensures.every_order

pub returns-clause-gives : goal.returns-clause-gives
returns-clause-gives g c =
    let held = g.S.Shelf.held c.args.shelf.now in let source = plain_source c.args.source in let plan = c.args.plan.now in
    let old = counts_of g.S.Shelf c.args.shelf.now in
    let new = counts_of g.S.Shelf c.read_test_plan.new.shelf in
    let design = design_of c.in_ok-design.design in let test = plan_of c.in_ok-test.test in
    let its = subst (λ h. IfTold h (λ files. HoldPlan files plan Dictionary design test)) c.in_ok-design.ensures.kept c.in_ok-test.ensures.gives in
    told-faulty (Dict source plan) outputs.DictText source plan (dict-over source plan) (λ files text s. s) design held old new test c.in-Err.fault c.output_status.result
    c.in_ok-design.ensures.gives its c.in-Err.ensures.told c.output_status.ensures

pub returns-clause-ends : goal.returns-clause-ends
returns-clause-ends g c =
    let source = plain_source c.args.source in let plan = c.args.plan.now in
    output-ends (Dict source plan) source plan Dictionary (λ files. AfterOutput outputs.DictText) (dict-over source plan) tt c.in-Err.fault c.output_status.result c.output_status.ensures
