use Rattle.std.proofs.Common.{sym, subst, ◌∙◌, ap}
use Rattle.v_design.specs.PlainDesigns.{design_of, plan_of}
use Rattle.v_design.specs.Findings.{grades_of}
use Rattle.shard_workers.specs.Results.{IsGraded, StandsInEveryOrder}
use Rattle.plan_report.specs.Reports.{wanted_text}
use Rattle.plan_report.proofs.Steps.{Answers, plan-told, loop-told, report-told, every-order}
use Rattle.plan_report.proofs.report.plan_report.Goals as goal

pub returns-in-Err-clause-told : goal.returns-in-Err-clause-told
returns-in-Err-clause-told g c = subst (Answers c.args.extent (design_of c.args.design.now) c.args.text.now) (sym c.plan_fault.ensures)
    (plan-told c.args.extent (design_of c.args.design.now) c.args.text.now c.in-Err.fault c.in-Err.ensures.refused)

pub returns-in-Ok-GoodLoop-clause-told : goal.returns-in-Ok-GoodLoop-clause-told
returns-in-Ok-GoodLoop-clause-told g c = loop-told c.args.extent (design_of c.args.design.now) c.args.text.now (plan_of c.in-Ok.plan) c.in-Ok-GoodLoop.time c.in-Ok.ensures.spelled
    (subst (IsGraded (design_of c.args.design.now) (plan_of c.in-Ok.plan)) c.in-Ok-GoodLoop.field-0-is c.in-Ok-GoodLoop.ensures.grades)

pub returns-in-Ok-write_wanted-clause-told : goal.returns-in-Ok-write_wanted-clause-told
returns-in-Ok-write_wanted-clause-told g c =
    let design = design_of c.args.design.now in let plan = plan_of c.in-Ok.plan in let h = subst (IsGraded design plan) c.in-Ok-Findings.field-0-is c.in-Ok-Findings.ensures.grades in
    report-told c.args.extent design c.args.text.now plan (grades_of c.in-Ok-Findings.findings.items) c.in-Ok-write_wanted.report.items c.in-Ok.ensures.spelled h.0 h.2
    (c.in-Ok-write_wanted.ensures ∙ ap (λ fs. wanted_text c.args.extent design plan.faults (grades_of fs)) c.as_slice.ensures.value)

pub returns-in-Ok-write_wanted-clause-every_order : goal.returns-in-Ok-write_wanted-clause-every_order
returns-in-Ok-write_wanted-clause-every_order g c =
    let design = design_of c.args.design.now in let plan = plan_of c.in-Ok.plan in let h = subst (StandsInEveryOrder design plan) c.in-Ok-Findings.field-0-is c.in-Ok-Findings.ensures.every_order in
    every-order c.args.extent design c.args.text.now plan (grades_of c.in-Ok-Findings.findings.items) c.in-Ok-write_wanted.report.items c.in-Ok.ensures.spelled
    (c.in-Ok-write_wanted.ensures ∙ ap (λ fs. wanted_text c.args.extent design plan.faults (grades_of fs)) c.as_slice.ensures.value) h.0 h.1
