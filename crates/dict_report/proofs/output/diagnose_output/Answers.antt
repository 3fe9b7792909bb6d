-- The text is that of the diagnosis.
use Rattle.v_design.specs.PlainDesigns.{design_of, plan_of}
use Rattle.v_design.specs.RulesHold.{rules_hold, plan_rules_hold}
use Rattle.kept_samples.specs.Kept.{samples_kept}
use Rattle.dict_report.specs.Outputs.{Diagnosis}
use Rattle.dict_report.proofs.Meanings.{diagnosis, text-told}
use Rattle.dict_report.proofs.output.diagnose_output.Goals as goal

pub returns-in-Ok-clause-told : goal.returns-in-Ok-clause-told
returns-in-Ok-clause-told g c =
    let response = samples_kept c.args.observed.now in
    text-told (Diagnosis response) (design_of c.args.design.now) (plan_of c.args.plan.now) c.in-Ok.text.items
    (diagnosis (design_of c.args.design.now) (plan_of c.args.plan.now) c.in_ok-dictionary.dictionary response c.in-Ok.text.items
    c.in_ok-dictionary.ensures.0 c.in_ok-dictionary.ensures.1 c.in-Ok.ensures)

pub returns-in-Ok-clause-every_order : goal.returns-in-Ok-clause-every_order
returns-in-Ok-clause-every_order g c =
    let response = samples_kept c.args.observed.now in
    c.outputs_hold.ensures (Diagnosis response) (design_of c.args.design.now) (plan_of c.args.plan.now) c.in-Ok.text.items
    (rules_hold (design_of c.args.design.now) c.args.design.now.rules) (plan_rules_hold (plan_of c.args.plan.now) c.args.plan.now.rules)
    (diagnosis (design_of c.args.design.now) (plan_of c.args.plan.now) c.in_ok-dictionary.dictionary response c.in-Ok.text.items
    c.in_ok-dictionary.ensures.0 c.in_ok-dictionary.ensures.1 c.in-Ok.ensures)
