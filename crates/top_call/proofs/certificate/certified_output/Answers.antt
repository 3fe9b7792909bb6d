use Rattle.std.proofs.Common.{subst, Err}
use Rattle.v_design.specs.PlainDesigns.{design_of, plan_of}
use Rattle.vf_words.specs.Forms.{plain_source}
use Rattle.vf_words.specs.Words.{Certify}
use Rattle.top_call.specs.Outside.{IfTold, counts_of}
use Rattle.top_call.specs.declared.purpose.Purpose.TheVariants.{Certificate}
use Rattle.top_call.specs.Answers.{HoldPlan, AfterPlace}
use Rattle.top_call.specs.Making.{PlanGives}
use Rattle.top_call.proofs.OneAnswer.{certify-over}
use Rattle.top_call.proofs.Making.{err-gives, err-ends}
use Rattle.top_call.proofs.OverTest.{design-not-read, design-ends, test-not-read, test-ends, certify-made, certify-faulty, certify-ends}
use Rattle.top_call.proofs.certificate.certified_output.Goals as goal

pub returns-in_err-design-clause-gives : goal.returns-in_err-design-clause-gives
returns-in_err-design-clause-gives g c =
    let held = g.S.Shelf.held c.args.shelf.now in let source = plain_source c.args.source in let plan = c.args.plan.now in let place = c.args.place in let status = c.in_err-design.field-0.0 in
    let old = counts_of g.S.Shelf c.args.shelf.now in
    let new = counts_of g.S.Shelf c.read_source.new.shelf in
    err-gives (Certify source plan place) held old new c.from_residual.result status c.from_residual.ensures.1
    (design-not-read (Certify source plan place) source plan Certificate (λ files. AfterPlace place) (certify-over source plan place) held old new status
    c.in_err-design.ensures.reads c.in_err-design.ensures.gives)

pub returns-in_err-design-clause-ends : goal.returns-in_err-design-clause-ends
returns-in_err-design-clause-ends g c =
    let held = g.S.Shelf.held c.args.shelf.now in let source = plain_source c.args.source in let plan = c.args.plan.now in let place = c.args.place in let status = c.in_err-design.field-0.0 in
    let old = counts_of g.S.Shelf c.args.shelf.now in
    let new = counts_of g.S.Shelf c.read_source.new.shelf in
    err-ends (Certify source plan place) c.from_residual.result status c.from_residual.ensures.1
    (design-ends (Certify source plan place) source plan Certificate (λ files. AfterPlace place) (certify-over source plan place) held old new status c.in_err-design.ensures.gives)

pub returns-in_err-test-clause-gives : goal.returns-in_err-test-clause-gives
returns-in_err-test-clause-gives g c =
    let held = g.S.Shelf.held c.args.shelf.now in let source = plain_source c.args.source in let plan = c.args.plan.now in let place = c.args.place in let status = c.in_err-test.field-0.0 in
    let d = c.in_ok-design.ensures in
    let old = counts_of g.S.Shelf c.args.shelf.now in
    let mid = counts_of g.S.Shelf c.read_source.new.shelf in
    let new = counts_of g.S.Shelf c.read_test_plan.new.shelf in
    let design = design_of c.in_ok-design.design in
    err-gives (Certify source plan place) held old new c.from_residual-in_err-test.result status c.from_residual-in_err-test.ensures.1
    (test-not-read (Certify source plan place) source plan Certificate (λ files. AfterPlace place) (certify-over source plan place) design held old mid new status d.faults d.long d.reads
    c.in_err-test.ensures.reads d.gives
    (subst (λ h. PlanGives h plan Certificate design mid new (Err status)) d.kept c.in_err-test.ensures.gives))

pub returns-in_err-test-clause-ends : goal.returns-in_err-test-clause-ends
returns-in_err-test-clause-ends g c =
    let held = g.S.Shelf.held c.read_source.new.shelf in let source = plain_source c.args.source in let plan = c.args.plan.now in let place = c.args.place in
    let status = c.in_err-test.field-0.0 in
    let mid = counts_of g.S.Shelf c.read_source.new.shelf in
    let new = counts_of g.S.Shelf c.read_test_plan.new.shelf in
    err-ends (Certify source plan place) c.from_residual-in_err-test.result status c.from_residual-in_err-test.ensures.1
    (test-ends (Certify source plan place) source plan Certificate (λ files. AfterPlace place) (certify-over source plan place) held (design_of c.in_ok-design.design) mid new status
    c.in_err-test.ensures.gives)

pub returns-in-Ok-clause-gives : goal.returns-in-Ok-clause-gives
returns-in-Ok-clause-gives g c =
    let held = g.S.Shelf.held c.args.shelf.now in let source = plain_source c.args.source in let plan = c.args.plan.now in
    let design = design_of c.in_ok-design.design in let test = plan_of c.in_ok-test.test in
    let its = subst (λ h. IfTold h (λ files. HoldPlan files plan Certificate design test)) c.in_ok-design.ensures.kept c.in_ok-test.ensures.gives in
    certify-made source plan c.args.place design test held c.in_ok-design.ensures.gives its c.in-Ok.text.items c.in-Ok.ensures.told c.in-Ok.ensures.every_order

pub returns-clause-gives : goal.returns-clause-gives
returns-clause-gives g c =
    let held = g.S.Shelf.held c.args.shelf.now in let source = plain_source c.args.source in let plan = c.args.plan.now in
    let old = counts_of g.S.Shelf c.args.shelf.now in
    let new = counts_of g.S.Shelf c.read_test_plan.new.shelf in
    let design = design_of c.in_ok-design.design in let test = plan_of c.in_ok-test.test in
    let its = subst (λ h. IfTold h (λ files. HoldPlan files plan Certificate design test)) c.in_ok-design.ensures.kept c.in_ok-test.ensures.gives in
    certify-faulty source plan c.args.place design test held c.in_ok-design.ensures.gives its old new c.in-Err.fault c.certify_status.result c.in-Err.ensures.told c.certify_status.ensures

pub returns-clause-ends : goal.returns-clause-ends
returns-clause-ends g c =
    let held = g.S.Shelf.held c.args.shelf.now in let source = plain_source c.args.source in let plan = c.args.plan.now in
    let design = design_of c.in_ok-design.design in let test = plan_of c.in_ok-test.test in
    let its = subst (λ h. IfTold h (λ files. HoldPlan files plan Certificate design test)) c.in_ok-design.ensures.kept c.in_ok-test.ensures.gives in
    certify-ends source plan c.args.place design test held c.in_ok-design.ensures.gives its c.in-Err.fault c.certify_status.result c.in-Err.ensures.told c.certify_status.ensures
