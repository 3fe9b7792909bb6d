-- What is known of a window by its setup (slots by IEEE 1364-2001, clause 5).
use Rattle.std.proofs.Common.{◌≡◌, ℕ, ◌+◌, ◌≤◌, sym, subst}
use Rattle.std.specs.Prelude.{Some, slice_get}
use Rattle.v_design.specs.Designs.{FlatDesign, TestPlan}
use Rattle.v_design.specs.PlainDesigns.{design_of, plan_of}
use Rattle.v_design.specs.RulesHold.{rules_hold, plan_rules_hold}
use Rattle.v_design.specs.Runs.{FirstSlot}
use Rattle.v_design.specs.WellFormed.{IsPlan, IsPlanOf, KeepsRules}
use Rattle.v_design.specs.declared.plan.Design.{Design}
use Rattle.v_design.specs.declared.plan.Plan.{Plan}
use Rattle.between_slots.specs.Updates.{LastIsFew}
use Rattle.copy_laws.specs.Windows.{WindowEnd, IsWindow, good_slots}
use Rattle.window_strobes.specs.Known.{IsKnown}
use Rattle.window_strobes.specs.Watched.{objects-watched}

pub design-rules : (design : FlatDesign) (kept : Design) → design ≡ design_of kept → KeepsRules design
design-rules design kept is = subst KeepsRules (sym is) (rules_hold (design_of kept) kept.rules)

pub plan-rules : (plan : TestPlan) (kept : Plan) → plan ≡ plan_of kept → IsPlan plan
plan-rules plan kept is = subst IsPlan (sym is) (plan_rules_hold (plan_of kept) kept.rules)

pub knows : (design : FlatDesign) (plan : TestPlan) (before through count : ℕ) (ending : WindowEnd) (kept : Design) (own : Plan) → design ≡ design_of kept → plan ≡ plan_of own →
    IsPlanOf design plan → IsWindow design plan before through ending → before + count ≡ through → LastIsFew design plan (before + count) →
    ((slot : FirstSlot) → slice_get (good_slots design plan) 0 ≡ Some slot → slot.begins.time ≡ 0) →
    ((number : ℕ) (slot : FirstSlot) → slice_get (good_slots design plan) number ≡ Some slot → slot.begins.time ≤ plan.end) → IsKnown design plan before through ending
knows design plan before through count ending kept own design_is plan_is fits window count_is few first within = record {
  rules = design-rules design kept design_is;
  of_plan = plan-rules plan own plan_is;
  watched = objects-watched design plan.watched fits.watched;
  window = window;
  few = subst (LastIsFew design plan) count_is few;
  first = first;
  within = within;
}
