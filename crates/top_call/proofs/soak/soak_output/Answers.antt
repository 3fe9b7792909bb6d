use Rattle.std.proofs.Common.{[], Some, ◌∙◌}
use Rattle.v_design.specs.PlainDesigns.{design_of}
use Rattle.vf_words.specs.Words.{Soak}
use Rattle.top_call.proofs.Making.{err-gives, err-ends, soak-wants, soak-wants-ends, soak-ends, soak-faulty, soak-made}
use Rattle.top_call.proofs.soak.soak_output.Goals as goal

pub returns-in_err-design-clause-gives : goal.returns-in_err-design-clause-gives
returns-in_err-design-clause-gives g c = λ old new.
    let number = c.args.number in let size = c.args.size in let workers = c.args.workers in let status = c.in_err-design.field-0.0 in
    err-gives (Soak number size workers) (Some []) old new c.from_residual.result status c.from_residual.ensures.1 (soak-wants number size workers old new status c.in_err-design.ensures.memory)

pub returns-in_err-design-clause-ends : goal.returns-in_err-design-clause-ends
returns-in_err-design-clause-ends g c =
    let number = c.args.number in let size = c.args.size in let workers = c.args.workers in let status = c.in_err-design.field-0.0 in
    err-ends (Soak number size workers) c.from_residual.result status c.from_residual.ensures.1 (soak-wants-ends number size workers status c.in_err-design.ensures.memory)

pub returns-in-Ok-plan_report-clause-gives : goal.returns-in-Ok-plan_report-clause-gives
returns-in-Ok-plan_report-clause-gives g c = λ old new.
    soak-made c.args.number c.args.size c.args.workers c.requires.size c.texts_accepted.ensures (design_of c.in_ok-design.design) c.in_ok-design.ensures.design
    c.as_slice.result.now c.in-Ok-plan_report.totals.items (c.as_slice.ensures.value ∙ c.in-Ok.ensures) c.in-Ok-plan_report.ensures.told c.in-Ok-plan_report.ensures.every_order

pub returns-clause-gives : goal.returns-clause-gives
returns-clause-gives g c = λ old new.
    soak-faulty c.args.number c.args.size c.args.workers c.requires.size c.texts_accepted.ensures (design_of c.in_ok-design.design) c.in_ok-design.ensures.design
    old new c.as_slice.result.now c.in-Err.fault c.report_status.result (c.as_slice.ensures.value ∙ c.in-Ok.ensures) c.in-Err.ensures.told c.report_status.ensures

pub returns-clause-ends : goal.returns-clause-ends
returns-clause-ends g c =
    soak-ends c.args.number c.args.size c.args.workers c.requires.size c.texts_accepted.ensures (design_of c.in_ok-design.design) c.in_ok-design.ensures.design
    c.as_slice.result.now c.in-Err.fault c.report_status.result (c.as_slice.ensures.value ∙ c.in-Ok.ensures) c.in-Err.ensures.told c.report_status.ensures
