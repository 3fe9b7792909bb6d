use Rattle.std.proofs.Common.{◌≤◌, ◌∙◌, ap, subst, Err, arith}
use Rattle.vf_base.specs.Counts.{raised}
use Rattle.v_design.specs.PlainDesigns.{design_of, plan_of}
use Rattle.vf_words.specs.Forms.{plain_source}
use Rattle.vf_words.specs.Words.{Audit}
use Rattle.vf_status.specs.declared.status.Which.TheVariants as whiches
use Rattle.top_call.specs.Outside.{IfTold, counts_of}
use Rattle.top_call.specs.declared.purpose.Purpose.TheVariants.{Certificate}
use Rattle.top_call.specs.Answers.{IsFile, HoldPlan, AfterAudited}
use Rattle.top_call.specs.Making.{FileGives, PlanGives}
use Rattle.top_call.proofs.OneAnswer.{audit-over}
use Rattle.top_call.proofs.Making.{err-gives, err-ends}
use Rattle.top_call.proofs.OverTest.{design-not-read, design-ends, test-not-read, test-ends, cert-not-read, cert-ends, audit-made}
use Rattle.top_call.proofs.audit.audited_output.Goals as goal

pub returns-in_err-design-clause-gives : goal.returns-in_err-design-clause-gives
returns-in_err-design-clause-gives g c =
    let held = g.S.Shelf.held c.args.shelf.now in let source = plain_source c.args.source in let plan = c.args.plan.now in let cert = c.args.cert.now in
    let status = c.in_err-design.field-0.0 in
    let old = counts_of g.S.Shelf c.args.shelf.now in
    let new = counts_of g.S.Shelf c.read_source.new.shelf in
    err-gives (Audit source plan cert) held old new c.from_residual.result status c.from_residual.ensures.1
    (design-not-read (Audit source plan cert) source plan Certificate (λ files. AfterAudited files cert) (audit-over source plan cert) held old new status
    c.in_err-design.ensures.reads c.in_err-design.ensures.gives)

pub returns-in_err-design-clause-ends : goal.returns-in_err-design-clause-ends
returns-in_err-design-clause-ends g c =
    let held = g.S.Shelf.held c.args.shelf.now in let source = plain_source c.args.source in let plan = c.args.plan.now in let cert = c.args.cert.now in
    let status = c.in_err-design.field-0.0 in
    let old = counts_of g.S.Shelf c.args.shelf.now in
    let new = counts_of g.S.Shelf c.read_source.new.shelf in
    err-ends (Audit source plan cert) c.from_residual.result status c.from_residual.ensures.1
    (design-ends (Audit source plan cert) source plan Certificate (λ files. AfterAudited files cert) (audit-over source plan cert) held old new status c.in_err-design.ensures.gives)

pub returns-in_err-test-clause-gives : goal.returns-in_err-test-clause-gives
returns-in_err-test-clause-gives g c =
    let held = g.S.Shelf.held c.args.shelf.now in let source = plain_source c.args.source in let plan = c.args.plan.now in let cert = c.args.cert.now in
    let status = c.in_err-test.field-0.0 in let d = c.in_ok-design.ensures in
    let old = counts_of g.S.Shelf c.args.shelf.now in
    let mid = counts_of g.S.Shelf c.read_source.new.shelf in
    let new = counts_of g.S.Shelf c.read_test_plan.new.shelf in
    let design = design_of c.in_ok-design.design in
    err-gives (Audit source plan cert) held old new c.from_residual-in_err-test.result status c.from_residual-in_err-test.ensures.1
    (test-not-read (Audit source plan cert) source plan Certificate (λ files. AfterAudited files cert) (audit-over source plan cert) design held old mid new status
    d.faults d.long d.reads c.in_err-test.ensures.reads d.gives
    (subst (λ h. PlanGives h plan Certificate design mid new (Err status)) d.kept c.in_err-test.ensures.gives))

pub returns-in_err-test-clause-ends : goal.returns-in_err-test-clause-ends
returns-in_err-test-clause-ends g c =
    let held = g.S.Shelf.held c.read_source.new.shelf in let source = plain_source c.args.source in let plan = c.args.plan.now in let cert = c.args.cert.now in
    let status = c.in_err-test.field-0.0 in
    let mid = counts_of g.S.Shelf c.read_source.new.shelf in
    let new = counts_of g.S.Shelf c.read_test_plan.new.shelf in
    err-ends (Audit source plan cert) c.from_residual-in_err-test.result status c.from_residual-in_err-test.ensures.1
    (test-ends (Audit source plan cert) source plan Certificate (λ files. AfterAudited files cert) (audit-over source plan cert) held (design_of c.in_ok-design.design) mid new status
    c.in_err-test.ensures.gives)

pub returns-in_err-text-clause-gives : goal.returns-in_err-text-clause-gives
returns-in_err-text-clause-gives g c =
    let held = g.S.Shelf.held c.args.shelf.now in let source = plain_source c.args.source in let plan = c.args.plan.now in let cert = c.args.cert.now in
    let status = c.in_err-text.field-0.0 in
    let d = c.in_ok-design.ensures in let p = c.in_ok-test.ensures in
    let old = counts_of g.S.Shelf c.args.shelf.now in
    let mid = counts_of g.S.Shelf c.read_test_plan.new.shelf in
    let new = counts_of g.S.Shelf c.read_file.new.shelf in
    let design = design_of c.in_ok-design.design in let test = plan_of c.in_ok-test.test in
    let its = subst (λ h. IfTold h (λ files. HoldPlan files plan Certificate design test)) d.kept p.gives in
    let faults : old.faults ≤ mid.faults = omega (arith, d.faults, p.faults) in
    let longs : old.long_answers ≤ mid.long_answers = omega (arith, d.long, p.long) in
    err-gives (Audit source plan cert) held old new c.from_residual-in_err-text.result status c.from_residual-in_err-text.ensures.1
    (cert-not-read source plan cert design test held d.gives its old mid new status faults longs (c.in_err-text.ensures.reads ∙ ap raised (p.reads ∙ ap raised d.reads))
    (subst (λ h. FileGives h cert whiches.Cert mid new (Err status)) (p.kept ∙ d.kept) c.in_err-text.ensures.gives))

pub returns-in_err-text-clause-ends : goal.returns-in_err-text-clause-ends
returns-in_err-text-clause-ends g c =
    let held = g.S.Shelf.held c.args.shelf.now in let source = plain_source c.args.source in let plan = c.args.plan.now in let cert = c.args.cert.now in
    let status = c.in_err-text.field-0.0 in
    let d = c.in_ok-design.ensures in let p = c.in_ok-test.ensures in
    let mid = counts_of g.S.Shelf c.read_test_plan.new.shelf in
    let new = counts_of g.S.Shelf c.read_file.new.shelf in
    let design = design_of c.in_ok-design.design in let test = plan_of c.in_ok-test.test in
    let its = subst (λ h. IfTold h (λ files. HoldPlan files plan Certificate design test)) d.kept p.gives in
    err-ends (Audit source plan cert) c.from_residual-in_err-text.result status c.from_residual-in_err-text.ensures.1
    (cert-ends source plan cert design test held d.gives its mid new status (subst (λ h. FileGives h cert whiches.Cert mid new (Err status)) (p.kept ∙ d.kept) c.in_err-text.ensures.gives))

pub returns-in-Ok-clause-gives : goal.returns-in-Ok-clause-gives
returns-in-Ok-clause-gives g c =
    let held = g.S.Shelf.held c.args.shelf.now in let source = plain_source c.args.source in let plan = c.args.plan.now in let cert = c.args.cert.now in
    let d = c.in_ok-design.ensures in let p = c.in_ok-test.ensures in let bytes = c.in_ok-text.text.items in
    let design = design_of c.in_ok-design.design in let test = plan_of c.in_ok-test.test in
    let its = subst (λ h. IfTold h (λ files. HoldPlan files plan Certificate design test)) d.kept p.gives in
    let file = subst (λ h. IfTold h (λ files. IsFile files cert whiches.Cert bytes)) (p.kept ∙ d.kept) c.in_ok-text.ensures.gives.1 in
    audit-made source plan cert design test held d.gives its bytes c.as_slice.result.now c.in-Ok.found.items file c.as_slice.ensures.value c.in-Ok.ensures.told c.in-Ok.ensures.every_order
