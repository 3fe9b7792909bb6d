-- What each finding says holds of every order.
use Rattle.v_design.specs.PlainDesigns.{design_of, plan_of}
use Rattle.v_design.specs.RulesHold.{rules_hold, plan_rules_hold}
use Rattle.shard_workers.proofs.Speaking.{stands-graded}
use Rattle.shard_workers.proofs.plan.grade_plan.Goals as goal

pub returns-clause-every_order : goal.returns-clause-every_order
returns-clause-every_order g c =
    stands-graded (design_of c.args.design.now) (plan_of c.args.plan.now) c.in_ok-grades.grades c.reports.ensures c.orders_exist.ensures c.nothing_before.ensures
    (rules_hold (design_of c.args.design.now) c.args.design.now.rules) (plan_rules_hold (plan_of c.args.plan.now) c.args.plan.now.rules) c.in_ok-grades.ensures.grades
