-- The rules that the design and the plan carry.
use Rattle.std.proofs.Common.{sym, subst}
use Rattle.v_design.specs.PlainDesigns.{design_of, plan_of}
use Rattle.v_design.specs.RulesHold.{rules_hold, plan_rules_hold}
use Rattle.v_design.specs.WellFormed.{IsPlan, KeepsRules}
use Rattle.shard_findings.proofs.rules.rules_hold.Goals as goal

pub returns : goal.returns
returns g c = (
  subst KeepsRules (sym c.design-design.ensures.world) (rules_hold (design_of c.design-design.result.now) c.design-design.result.now.rules),
  subst IsPlan (sym c.plan-plan.ensures.world) (plan_rules_hold (plan_of c.plan-plan.result.now) c.plan-plan.result.now.rules),
)
