-- Faults through a window (slots by IEEE 1364-2001, clause 5).
use Rattle.std.proofs.Common.{◌≡◌, ℕ, ◌<◌, ◌≤◌, Bool, true, false, List, [], ◌∷◌, length, refl, sym, ap, subst, ◌∙◌, arith}
use Rattle.std.specs.Prelude.{Option, Some, None, is_some, not, ◌||◌, slice_get}
use Rattle.std.specs.List.{AllZip, list_any}
use Rattle.vf_base.specs.Lists.{AllHold}
use Rattle.vf_base.specs.declared.limits.TheConstants.{MAX_STROBES}
use Rattle.v_design.specs.Designs.{FlatDesign, StuckAt, TestPlan}
use Rattle.v_design.specs.PlainDesigns.{design_of, plan_of}
use Rattle.v_design.specs.RulesHold.{plan_rules_hold, rules_hold}
use Rattle.v_design.specs.WellFormed.{KeepsRules}
use Rattle.v_design.specs.declared.plan.Design.{Design}
use Rattle.v_design.specs.declared.plan.Plan.{Plan}
use Rattle.beside_laws.specs.Shards.{FaultsGoOn}
use Rattle.copy_laws.specs.Windows.{IsOpen, IsRaced, IsThrough, WindowEnd, good_slots}
use Rattle.shard_slots.specs.copy_window.Passing.{CanBegin}
use Rattle.shard_slots.specs.copy_window.ShardFaults.{IsShardFault}
use Rattle.shard_slots.specs.copy_window.declared.fault.ShardFault.{ShardFault}
use Rattle.shard_slots.specs.window_strobes.Leading.{EndsSo}
use Rattle.shard_slots.specs.window_strobes.Strobes.{AreStrobesOf}
use Rattle.shard_slots.specs.window_strobes.declared.strobes.WindowStrobes.{WindowStrobes}
use Rattle.shard_slots.specs.window_faults.Within.{ComesThrough}
use Rattle.shard_slots.proofs.window_faults.Within.{ended-later}
use Rattle.shard_windows.specs.Reached.{IsTimeOf, is_open}

-- the design of a setup keeps its rules
pub keeps-rules : (design : FlatDesign) (kept : Design) → design ≡ design_of kept → KeepsRules design
keeps-rules design kept is = subst KeepsRules (sym is) (rules_hold (design_of kept) kept.rules)

-- a fault whose grading ended
module _ (law : FaultsGoOn) (design : FlatDesign) (plan : TestPlan) (rules : KeepsRules design) (before through passed behind : ℕ) (low : before ≤ through) where
  pub ended-comes : (own : ShardFault) → is_some own.end ≡ true → IsShardFault design plan before passed own → ComesThrough design plan through behind own own
  ended-comes own some stands = record { stands = ended-later law design plan rules before through passed behind own low some stands; place = record { number = refl; kind = refl }; ended = λ ended. refl }

  none-open : (first rest : Bool) → (not first || rest) ≡ false → (first ≡ true) × (rest ≡ false)
  none-open true rest none = (refl, none)
  none-open false rest none = cc

  -- where all gradings ended
  pub all-ended : (faults : List ShardFault) → list_any is_open faults ≡ false → AllHold (IsShardFault design plan before passed) faults →
      AllZip (ComesThrough design plan through behind) faults faults
  all-ended [] none all = tt
  all-ended (own ∷ faults) none all =
      let each = none-open (is_some own.end) (list_any is_open faults) none in
      (ended-comes own each.0 all.0, all-ended faults each.1 all.1)

-- one of which nothing was found may be graded through the first window
pub can-begin : (design : FlatDesign) (plan : TestPlan) (before through : ℕ) (strobes : WindowStrobes) (fault : StuckAt) (own : ShardFault) → IsShardFault design plan before strobes.passed own →
    slice_get plan.faults own.copy.fault ≡ Some fault → own.end ≡ None → AreStrobesOf design plan before through strobes → before ≡ 0 → CanBegin design plan before through strobes fault own
can-begin design plan before through strobes fault own stands listed none are at_start =
    record { at_start = at_start; listed = listed; none = none; within = stands.within; are = are }

-- How far they have come

-- a plan has few strobes
pub few-strobes : (plan : TestPlan) (kept : Plan) → plan ≡ plan_of kept → length plan.strobes ≤ MAX_STROBES
few-strobes plan kept is = subst (λ (p : TestPlan). length p.strobes ≤ MAX_STROBES) (sym is) (plan_rules_hold (plan_of kept) kept.rules).few_strobes

-- where slots come behind a window, the time to which it leads is that of its last one
pub time-behind : (design : FlatDesign) (plan : TestPlan) (through : ℕ) (ending : WindowEnd) (until : Option ℕ) (time : ℕ) → EndsSo design plan through ending until →
    ((led : ℕ) → until ≡ Some led → time ≡ led) → IsTimeOf design plan through time
time-behind design plan through IsOpen until time so is some more = so.2.time_is ∙ ap (λ t. Some t) (sym (is so.0 so.1))
time-behind design plan through IsThrough until time so is some more = (let all : length (good_slots design plan) ≡ through = so.0.all in absurd (omega (arith, all, more)))
time-behind design plan through (IsRaced pair) until time so is some more = (let all : length (good_slots design plan) ≡ through = so.0.all in absurd (omega (arith, all, more)))

-- where slots come behind a window the good first run has more
pub more-behind : (design : FlatDesign) (plan : TestPlan) (through : ℕ) (ending : WindowEnd) (until : Option ℕ) → EndsSo design plan through ending until → ending ≡ IsOpen →
    through < length (good_slots design plan)
more-behind design plan through ending until so is = (subst (λ (e : WindowEnd). EndsSo design plan through e until) is so).2.more
