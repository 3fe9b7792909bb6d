-- The text is that of the picked strobes.
use Rattle.v_design.specs.PlainDesigns.{design_of, plan_of}
use Rattle.v_design.specs.RulesHold.{rules_hold, plan_rules_hold}
use Rattle.dict_report.specs.Outputs.{PickText}
use Rattle.dict_report.proofs.Meanings.{picked, text-told}
use Rattle.dict_report.proofs.output.pick_output.Goals as goal

pub returns-in-Ok-clause-told : goal.returns-in-Ok-clause-told
returns-in-Ok-clause-told g c =
    text-told PickText (design_of c.args.design.now) (plan_of c.args.plan.now) c.in-Ok.text.items
    (picked (design_of c.args.design.now) (plan_of c.args.plan.now) c.in-Ok.text.items c.in_ok-dictionary.ensures.1 c.in-Ok.ensures)

pub returns-in-Ok-clause-every_order : goal.returns-in-Ok-clause-every_order
returns-in-Ok-clause-every_order g c =
    c.outputs_hold.ensures PickText (design_of c.args.design.now) (plan_of c.args.plan.now) c.in-Ok.text.items
    (rules_hold (design_of c.args.design.now) c.args.design.now.rules) (plan_rules_hold (plan_of c.args.plan.now) c.args.plan.now.rules)
    (picked (design_of c.args.design.now) (plan_of c.args.plan.now) c.in-Ok.text.items c.in_ok-dictionary.ensures.1 c.in-Ok.ensures)
