use Rattle.std.proofs.Common.{subst, Err, lit<}
use Rattle.v_design.specs.PlainDesigns.{design_of}
use Rattle.vf_words.specs.Forms.{plain_source}
use Rattle.vf_words.specs.Words.{Grade}
use Rattle.vf_status.specs.declared.status.Which.TheVariants as whiches
use Rattle.top_call.specs.Outside.{IfTold, counts_of}
use Rattle.top_call.specs.Answers.{IsFile}
use Rattle.top_call.specs.Making.{FileGives}
use Rattle.top_call.proofs.OneAnswer.{over_design, grade-form}
use Rattle.top_call.proofs.Making.{err-gives, err-ends, source-ends, file-ends, report-ends, not-read, plan-not-read, report-faulty, report-made}
use Rattle.top_call.proofs.grade.grade_output.Goals as goal

pub returns-in_err-design-clause-gives : goal.returns-in_err-design-clause-gives
returns-in_err-design-clause-gives g c =
    let held = g.S.Shelf.held c.args.shelf.now in let source = plain_source c.args.source in let plan = c.args.plan.now in let workers = c.args.workers in let status = c.in_err-design.field-0.0 in
    let old = counts_of g.S.Shelf c.args.shelf.now in
    let new = counts_of g.S.Shelf c.read_source.new.shelf in
    err-gives (Grade source plan workers) held old new c.from_residual.result status c.from_residual.ensures.1
    (not-read (Grade source plan workers) source (λ files. over_design source plan workers files)
    (λ files answer t. grade-form source plan workers files answer t) held old new status c.in_err-design.ensures.reads c.in_err-design.ensures.gives)

pub returns-in_err-design-clause-ends : goal.returns-in_err-design-clause-ends
returns-in_err-design-clause-ends g c =
    let held = g.S.Shelf.held c.args.shelf.now in let source = plain_source c.args.source in let plan = c.args.plan.now in let workers = c.args.workers in let status = c.in_err-design.field-0.0 in
    let old = counts_of g.S.Shelf c.args.shelf.now in
    let new = counts_of g.S.Shelf c.read_source.new.shelf in
    err-ends (Grade source plan workers) c.from_residual.result status c.from_residual.ensures.1
    (source-ends (Grade source plan workers) held source old new status (lit< tt) c.in_err-design.ensures.gives)

pub returns-in_err-text-clause-gives : goal.returns-in_err-text-clause-gives
returns-in_err-text-clause-gives g c =
    let held = g.S.Shelf.held c.args.shelf.now in let source = plain_source c.args.source in let plan = c.args.plan.now in let workers = c.args.workers in let status = c.in_err-text.field-0.0 in
    let d = c.in_ok-design.ensures in
    let old = counts_of g.S.Shelf c.args.shelf.now in
    let mid = counts_of g.S.Shelf c.read_source.new.shelf in
    let new = counts_of g.S.Shelf c.read_file.new.shelf in
    err-gives (Grade source plan workers) held old new c.from_residual-in_err-text.result status c.from_residual-in_err-text.ensures.1
    (plan-not-read source plan workers (design_of c.in_ok-design.design) held old mid new status d.faults d.long d.reads c.in_err-text.ensures.reads d.gives
    (subst (λ h. FileGives h plan whiches.Plan mid new (Err status)) d.kept c.in_err-text.ensures.gives))

pub returns-in_err-text-clause-ends : goal.returns-in_err-text-clause-ends
returns-in_err-text-clause-ends g c =
    let held = g.S.Shelf.held c.read_source.new.shelf in let source = plain_source c.args.source in let plan = c.args.plan.now in let workers = c.args.workers in
    let status = c.in_err-text.field-0.0 in
    let mid = counts_of g.S.Shelf c.read_source.new.shelf in
    let new = counts_of g.S.Shelf c.read_file.new.shelf in
    err-ends (Grade source plan workers) c.from_residual-in_err-text.result status c.from_residual-in_err-text.ensures.1
    (file-ends (Grade source plan workers) held plan whiches.Plan mid new status (lit< tt) c.in_err-text.ensures.gives)

pub returns-in-Ok-clause-gives : goal.returns-in-Ok-clause-gives
returns-in-Ok-clause-gives g c =
    let held = g.S.Shelf.held c.args.shelf.now in let source = plain_source c.args.source in let plan = c.args.plan.now in let bytes = c.in_ok-text.text.items in
    let old = counts_of g.S.Shelf c.args.shelf.now in
    let file = subst (λ h. IfTold h (λ files. IsFile files plan whiches.Plan bytes)) c.in_ok-design.ensures.kept c.in_ok-text.ensures.gives.1 in
    report-made source plan c.args.workers (design_of c.in_ok-design.design) held old old bytes c.as_slice.result.now c.in-Ok.report.items c.in_ok-design.ensures.gives file c.as_slice.ensures.value
    c.in-Ok.ensures.told c.in-Ok.ensures.every_order

pub returns-clause-gives : goal.returns-clause-gives
returns-clause-gives g c =
    let held = g.S.Shelf.held c.args.shelf.now in let source = plain_source c.args.source in let plan = c.args.plan.now in let bytes = c.in_ok-text.text.items in
    let old = counts_of g.S.Shelf c.args.shelf.now in
    let new = counts_of g.S.Shelf c.read_file.new.shelf in
    let file = subst (λ h. IfTold h (λ files. IsFile files plan whiches.Plan bytes)) c.in_ok-design.ensures.kept c.in_ok-text.ensures.gives.1 in
    report-faulty source plan c.args.workers (design_of c.in_ok-design.design) held old new bytes c.as_slice.result.now c.in-Err.fault c.report_status.result c.in_ok-design.ensures.gives file
    c.as_slice.ensures.value c.in-Err.ensures.told c.report_status.ensures

pub returns-clause-ends : goal.returns-clause-ends
returns-clause-ends g c =
    report-ends (plain_source c.args.source) c.args.plan.now c.args.workers (design_of c.in_ok-design.design) c.in_ok-text.text.items c.as_slice.result.now c.in-Err.fault c.report_status.result
    c.in_ok-text.ensures.gives.0 c.as_slice.ensures.value c.in-Err.ensures.told c.report_status.ensures
