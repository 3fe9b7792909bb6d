use Rattle.std.proofs.Common.{◌+◌, refl, sym, ◌∙◌, ap}
use Rattle.std.proofs.lemmas.List.{length-map}
use Rattle.v_design.specs.PlainDesigns.{plan_of, design_of}
use Rattle.v_design.specs.RulesHold.{rules_hold, plan_rules_hold}
use Rattle.text_lines.specs.Plain.{plain_texts}
use Rattle.plan_read.proofs.Reading.{err-same}
use Rattle.plan_read.proofs.PlanOf.{plan-fits}
use Rattle.plan_read.proofs.Whole.{spelled-from, endless-from, refused-from}
use Rattle.plan_read.proofs.read.read_plan.Goals as goal

pub returns-in-None-clause-refused : goal.returns-in-None-clause-refused
returns-in-None-clause-refused c =
    endless-from _ _ _ (plain_texts c.as_slice.result.now) c.in_ok-draft.draft _ (ap design_of c.in_ok-names.ensures)
    (ap plain_texts c.as_slice.ensures.value ∙ c.in_ok-lines.ensures.lines) c.if-text-gt-MAX_PLAN_BYTES.false c.in_ok-draft.ensures.read c.in-None.is
    (ap (λ n. n + 1) (c.len.ensures ∙ (sym c.as_slice.ensures.len ∙ sym (length-map c.as_slice.result.now (λ word. word.now)))))

pub returns-clause-spelled : goal.returns-clause-spelled
returns-clause-spelled c =
    let p = c.in_ok-plan-in-Some.ensures in
    spelled-from _ _ _ (plain_texts c.as_slice.result.now) c.in_ok-draft.draft c.in-Some.end (plan_of c.in_ok-plan-in-Some.plan) (ap design_of c.in_ok-names.ensures)
    (ap plain_texts c.as_slice.ensures.value ∙ c.in_ok-lines.ensures.lines) c.if-text-gt-MAX_PLAN_BYTES.false c.in_ok-draft.ensures.read c.in-Some.is
    p.end p.watched p.faults p.ascending p.strobes

pub returns-clause-kept : goal.returns-clause-kept
returns-clause-kept c = plan_rules_hold (plan_of c.in_ok-plan-in-Some.plan) c.in_ok-plan-in-Some.plan.rules

pub returns-clause-fits : goal.returns-clause-fits
returns-clause-fits c = plan-fits (design_of c.args.design.now) c.args.text.now (plan_of c.in_ok-plan-in-Some.plan) (rules_hold (design_of c.args.design.now) c.args.design.now.rules)
    (returns-clause-spelled c)
