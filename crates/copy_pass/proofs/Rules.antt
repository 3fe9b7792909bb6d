-- The rules that a setup's design and plan keep (nothing of the language).
use Rattle.std.proofs.Common.{◌≡◌, sym, subst}
use Rattle.v_design.specs.Designs.{FlatDesign, TestPlan}
use Rattle.v_design.specs.PlainDesigns.{design_of, plan_of}
use Rattle.v_design.specs.RulesHold.{plan_rules_hold, rules_hold}
use Rattle.v_design.specs.WellFormed.{IsPlan, KeepsRules}
use Rattle.v_design.specs.declared.plan.Design.{Design}
use Rattle.v_design.specs.declared.plan.Plan.{Plan}

pub design-rules : (design : FlatDesign) (kept : Design) → design ≡ design_of kept → KeepsRules design
design-rules design kept is = subst KeepsRules (sym is) (rules_hold (design_of kept) kept.rules)

pub plan-rules : (plan : TestPlan) (kept : Plan) → plan ≡ plan_of kept → IsPlan plan
plan-rules plan kept is = subst IsPlan (sym is) (plan_rules_hold (plan_of kept) kept.rules)
