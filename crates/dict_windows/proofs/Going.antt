-- Window after window (slots by IEEE 1364-2001, clause 5).
use Rattle.std.proofs.Common.{◌≡◌, ℕ, suc, ◌+◌, ◌-◌, ◌<◌, ◌≤◌, true, List, length, sym, subst, ◌∙◌, arith}
use Rattle.std.proofs.lemmas.List.Sums.{sum_by-take-le}
use Rattle.std.proofs.lemmas.Option.{slice_get_within}
use Rattle.v_design.specs.Designs.{FlatDesign, TestPlan}
use Rattle.v_design.specs.OwnSteps.{good_steps}
use Rattle.copy_laws.specs.Windows.{IsWindow, WindowEnd, good_slots}
use Rattle.good_trace.specs.Traces.{WindowKept}
use Rattle.good_windows.specs.Next.{AllStand, IsNextWindow, LoopsBehind, RunKept, steps_of_slots}
use Rattle.own_gradings.specs.Numbers.{OwnStepsOf, RisesOwn}
use Rattle.kept_shard.specs.machine.Ticks.{process_steps}
use Rattle.kept_shard.specs.Keeping.{KeepingShard}
use Rattle.dict_windows.specs.Faults.{all_steps}
use Rattle.dict_windows.specs.Windows.{HasGoneOn, IsOver, LoopsAt, RisesBeside, StandsBeside}
use Rattle.dict_windows.specs.declared.windows.Beside.{Beside}

-- a window ends where the good first run does, or before
window-within : (design : FlatDesign) (plan : TestPlan) (begins through : ℕ) (end : WindowEnd) → IsWindow design plan begins through end → through ≤ length (good_slots design plan)
window-within design plan begins through end window =
    let some : begins < through = window.some in
    let before : through ≡ suc (through - 1) = omega (arith, some) in
    let low : through - 1 < length (good_slots design plan) = slice_get_within (good_slots design plan) (through - 1) window.last (window.stands (through - 1) before) in
    omega (arith, low)

-- the good machine loops
pub loops-at : (design : FlatDesign) (plan : TestPlan) (gone now time : ℕ) → LoopsBehind design plan gone time × (now ≡ gone) → LoopsAt design plan time
loops-at design plan gone now time g = g.0.stops

module _ {N : Type 0} (design : FlatDesign) (plan : TestPlan) (gone now : ℕ) where
  -- all have gone through the next window
  pub has-gone-on : (run : RunKept) (window : WindowKept) (beside : Beside N) → run.gone ≡ now → run.usable ≡ true → IsNextWindow design plan gone window × (now ≡ window.through) →
      StandsBeside design plan window.through beside → HasGoneOn design plan gone run beside
  has-gone-on run window beside at usable g stands =
      let some : window.before < window.through = g.0.window_is.some in
      let before : window.before ≡ gone = g.0.before_is in
      let through : now ≡ window.through = g.1 in
      let within : window.through ≤ length (good_slots design plan) = window-within design plan window.before window.through window.ending g.0.window_is in
      record {
        further = omega (arith, some, before, through, at);
        within = omega (arith, within, through, at);
        usable = usable;
        stands = subst (λ n. StandsBeside design plan n beside) (sym (at ∙ g.1)) stands;
      }

  -- no slot is left
  pub is-over : (beside : Beside N) → AllStand design plan gone × (now ≡ gone) → StandsBeside design plan gone beside → IsOver design plan beside
  is-over beside g stands = record { stands = subst (λ n. StandsBeside design plan n beside) (sym g.0.all) stands; no_loop = λ time loops. g.0.no_loop time loops }

-- Steps

module _ (design : FlatDesign) (plan : TestPlan) where
  -- the good machine's of a window, and behind them the faulty machines'
  pub rises-by : (ran later before mid after : ℕ) (shards moved : List KeepingShard) → mid + steps_of_slots design plan ran ≤ before + steps_of_slots design plan later →
      RisesOwn design plan (λ tally. all_steps tally shards) (λ tally. all_steps tally moved) mid after → RisesBeside design plan ran shards before later moved after
  rises-by ran later before mid after shards moved good faulty tally = (let own = faulty tally in omega (arith, good, own))

  -- window after window
  pub rises-more : (one two three before mid after : ℕ) (shards moved further : List KeepingShard) → RisesBeside design plan one shards before two moved mid →
      RisesBeside design plan two moved mid three further after → RisesBeside design plan one shards before three further after
  rises-more one two three before mid after shards moved further r s tally = (let first = r tally in let next = s tally in omega (arith, first, next))

  -- in all
  pub rises-all : (tally : OwnStepsOf design plan) (ran later before after most : ℕ) (shards moved : List KeepingShard) → RisesBeside design plan ran shards before later moved after → ran ≡ 0 →
      all_steps tally moved ≤ most → after ≤ before + (good_steps design plan + most)
  rises-all tally ran later before after most shards moved rises none within =
      let slots : steps_of_slots design plan later ≤ good_steps design plan = sum_by-take-le process_steps (good_slots design plan) later in
      let own = rises tally in
      omega (arith, own, slots, within)
