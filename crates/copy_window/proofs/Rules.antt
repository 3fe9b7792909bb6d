-- The rules that a setup's design and plan keep (nothing of the language).
use Rattle.std.proofs.Common.{◌≡◌, sym, subst}
use Rattle.v_design.specs.Designs.{FlatDesign, TestPlan}
use Rattle.v_design.specs.PlainDesigns.{design_of, plan_of}
use Rattle.v_design.specs.RulesHold.{rules_hold, plan_rules_hold}
use Rattle.v_design.specs.WellFormed.{IsPlan, IsPlanOf, KeepsRules}
use Rattle.v_design.specs.declared.plan.Design.{Design}
use Rattle.v_design.specs.declared.plan.Plan.{Plan}
use Rattle.window_strobes.specs.Watched.{objects-watched}
use Rattle.copy_window.proofs.Starting.{HasRules}

pub has-rules : (design : FlatDesign) (plan : TestPlan) (kept : Design) (own : Plan) → design ≡ design_of kept → plan ≡ plan_of own → IsPlanOf design plan → HasRules design plan
has-rules design plan kept own design_is plan_is fits = record {
  design_rules = subst KeepsRules (sym design_is) (rules_hold (design_of kept) kept.rules);
  of_plan = subst IsPlan (sym plan_is) (plan_rules_hold (plan_of own) own.rules);
  watched = objects-watched design plan.watched fits.watched;
}
