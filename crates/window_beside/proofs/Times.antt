-- The times between which slots of the good first run lie (slots by IEEE 1364-2001, clause 5).
use Rattle.std.proofs.Common.{◌≡◌, ℕ, zero, suc, ◌+◌, ◌<◌, ◌≤◌, Bool, true, false, length, refl, sym, ap, subst, ◌∙◌, arith, inl, inr}
use Rattle.std.specs.Prelude.{Option, Some, None, slice_get}
use Rattle.std.proofs.lemmas.Bool.{cases_lt, le-leb, leb-true, lt-ltb, ltb-true}
use Rattle.std.proofs.lemmas.Option.{slice_get_cases, slice_get_within}
use Rattle.vf_base.specs.Base.{ReportedPair}
use Rattle.v_design.specs.Designs.{FlatDesign, TestPlan, good_machine}
use Rattle.v_design.specs.Runs.{FirstSlot}
use Rattle.v_design.specs.WellFormed.{KeepsRules}
use Rattle.order_laws.specs.FirstRuns.{FirstRunsGoOn}
use Rattle.copy_laws.specs.Windows.{WindowEnd, IsOpen, IsThrough, IsRaced, comes_after, comes_by, good_slots, time_at}
use Rattle.beside_laws.specs.GoodRuns.{GoodRunGoesOn}
use Rattle.beside_laws.specs.Stands.{IsAfter, IsSince}
use Rattle.own_counts.specs.Joins.{IsByToo}
use Rattle.window_strobes.specs.Leading.{EndsSo, LeadsTo}
use Rattle.window_strobes.specs.Neighbours.{time-by}
use Rattle.window_beside.specs.Known.{led_to}
use Rattle.window_beside.proofs.Finding.{slots-rise}

some-slot : (one other : FirstSlot) → Some one ≡ Some other → one ≡ other
some-slot one other e = cc

some-time : (one other : ℕ) → Some one ≡ Some other → one ≡ other
some-time one other e = cc

-- so many slots lead to the time of the last one, or to the plan's end behind all of them
record IsLast (design : FlatDesign) (plan : TestPlan) (count time : ℕ) : Type 0 where
  last : FirstSlot
  here : slice_get (good_slots design plan) count ≡ Some last
  is : time ≡ last.begins.time

module _ (law : FirstRunsGoOn) (run : GoodRunGoesOn) (design : FlatDesign) (plan : TestPlan) (rules : KeepsRules design) where
  -- no slot that stands before is later
  pub before-by : (count k : ℕ) (slot : FirstSlot) → k < suc count → slice_get (good_slots design plan) k ≡ Some slot → comes_by (time_at design plan (suc count)) slot.begins.time ≡ true
  before-by count k slot low here = go (slice_get (good_slots design plan) (suc count)) (slice_get (good_slots design plan) count) refl refl
    where
      end-by : slot.begins.time ≤ plan.end
      end-by = run.within design plan k slot rules here

      to-last : (last : FirstSlot) → slice_get (good_slots design plan) count ≡ Some last → slot.begins.time ≤ last.begins.time
      to-last last there = elim (cases_lt k count) [
        | inl less ↦ (let rise = slots-rise law design plan rules k count slot last less here there in omega (arith, rise))
        | inr same ↦
            let at : k ≡ count = omega (arith, low, same) in
            let one : slot ≡ last = some-slot slot last (sym here ∙ ap (slice_get (good_slots design plan)) at ∙ there) in
            let time : slot.begins.time ≡ last.begins.time = ap (λ (s : FirstSlot). s.begins.time) one in
            omega (arith, time)
      ]

      go : (next last : Option FirstSlot) → slice_get (good_slots design plan) (suc count) ≡ next → slice_get (good_slots design plan) count ≡ last →
          comes_by (time-by plan next last) slot.begins.time ≡ true
      go None last n l = le-leb slot.begins.time plan.end end-by
      go (Some next) None n l = le-leb slot.begins.time plan.end end-by
      go (Some next) (Some last) n l = le-leb slot.begins.time last.begins.time (to-last last l)

  pub stands-by : (gone k : ℕ) (slot : FirstSlot) → k < gone → slice_get (good_slots design plan) k ≡ Some slot → comes_by (time_at design plan gone) slot.begins.time ≡ true
  stands-by zero k slot low here = absurd (omega (arith, low))
  stands-by (suc count) k slot low here = before-by count k slot low here

  -- a time that comes after is later than each of them
  pub after-all : (gone time : ℕ) → IsAfter (time_at design plan gone) time → (k : ℕ) (slot : FirstSlot) → k < gone → slice_get (good_slots design plan) k ≡ Some slot → slot.begins.time < time
  after-all gone time after k slot low here = go (time_at design plan gone) after (stands-by gone k slot low here)
    where
      go : (now : Option ℕ) → IsAfter now time → comes_by now slot.begins.time ≡ true → slot.begins.time < time
      go None a by = cc
      go (Some now) a by = (let early : slot.begins.time ≤ now = leb-true slot.begins.time now by in omega (arith, early, a))

  -- the next one comes after
  pub next-after : (gone : ℕ) (slot : FirstSlot) → slice_get (good_slots design plan) gone ≡ Some slot → comes_after (time_at design plan gone) slot.begins.time ≡ true
  next-after zero slot here = refl
  next-after (suc count) slot here = go (slice_get (good_slots design plan) (suc count)) (slice_get (good_slots design plan) count) refl refl
    where
      go : (next last : Option FirstSlot) → slice_get (good_slots design plan) (suc count) ≡ next → slice_get (good_slots design plan) count ≡ last →
          comes_after (time-by plan next last) slot.begins.time ≡ true
      go None last n l = cc
      go (Some next) None n l = absurd (none-before l)
        where
          none-before : slice_get (good_slots design plan) count ≡ None → ⊥
          none-before e = elim (slice_get_cases (good_slots design plan) count).1 [
            | inl found ↦ (let some = found.2 in cc)
            | inr past ↦ (let there : suc count < length (good_slots design plan) = slice_get_within (good_slots design plan) (suc count) slot here in omega (arith, past.0, there))
          ]
      go (Some next) (Some last) n l = lt-ltb last.begins.time slot.begins.time (slots-rise law design plan rules count (suc count) last slot (omega arith) l here)

  -- so many slots lead to no time after the plan's end
  pub time-within : (gone : ℕ) → IsByToo (time_at design plan gone) (Some plan.end)
  time-within zero = λ time by. cc
  time-within (suc count) = go (slice_get (good_slots design plan) (suc count)) (slice_get (good_slots design plan) count) refl
    where
      go : (next last : Option FirstSlot) → slice_get (good_slots design plan) count ≡ last → IsByToo (time-by plan next last) (Some plan.end)
      go None last l = λ time by. by
      go (Some next) None l = λ time by. by
      go (Some next) (Some last) l = λ time by.
          let low : time ≤ last.begins.time = leb-true time last.begins.time by in
          let end : last.begins.time ≤ plan.end = run.within design plan count last rules l in
          le-leb time plan.end (omega (arith, low, end))

  -- The time to which slots lead

  since-by : (now : Option ℕ) (until : ℕ) → IsSince now until → IsByToo now (Some until)
  since-by None until since time by = cc
  since-by (Some now) until since time by = (let low : time ≤ now = leb-true time now by in le-leb time until (omega (arith, low, since)))

  led-from : (before through : ℕ) (ending : WindowEnd) (until : Option ℕ) → LeadsTo design plan before through ending until → IsByToo (time_at design plan before) (led_to (time_at design plan before) until)
  led-from before through ending None leads = λ time by. by
  led-from before through ending (Some until) leads = since-by (time_at design plan before) until (leads.led until refl).since

  led-behind : (before through : ℕ) (ending : WindowEnd) (until : Option ℕ) → LeadsTo design plan before through ending until →
      IsByToo (led_to (time_at design plan before) until) (time_at design plan through)
  led-behind before through ending until leads = go ending until leads.ends (λ time e. (leads.led time e).within)
    where
      to-end : (until : Option ℕ) → ((time : ℕ) → until ≡ Some time → time ≤ plan.end) → IsByToo (led_to (time_at design plan before) until) (Some plan.end)
      to-end None within = time-within before
      to-end (Some until) within = λ time by.
          let low : time ≤ until = leb-true time until by in let end : until ≤ plan.end = within until refl in le-leb time plan.end (omega (arith, low, end))

      go : (ending : WindowEnd) (until : Option ℕ) → EndsSo design plan through ending until → ((time : ℕ) → until ≡ Some time → time ≤ plan.end) →
          IsByToo (led_to (time_at design plan before) until) (time_at design plan through)
      go IsOpen until so within =
          subst (IsByToo (led_to (time_at design plan before) until)) (sym so.2.time_is)
          (subst (λ (o : Option ℕ). IsByToo (led_to (time_at design plan before) o) (Some so.0)) (sym so.1) (λ time by. by))
      go IsThrough until so within = subst (IsByToo (led_to (time_at design plan before) until)) (sym so.0.time_is) (to-end until within)
      go (IsRaced pair) until so within = subst (IsByToo (led_to (time_at design plan before) until)) (sym so.0.time_is) (to-end until within)

  pub behind : (before through : ℕ) (ending : WindowEnd) (until : Option ℕ) → LeadsTo design plan before through ending until →
      IsByToo (time_at design plan before) (led_to (time_at design plan before) until) × IsByToo (led_to (time_at design plan before) until) (time_at design plan through)
  behind before through ending until leads = (led-from before through ending until leads, led-behind before through ending until leads)

  -- the slot behind comes after the time to which so many lead
  before-next : (until gone : ℕ) (next : FirstSlot) → slice_get (good_slots design plan) gone ≡ Some next → (time : ℕ) → until ≡ time → time_at design plan gone ≡ Some time →
      until < next.begins.time
  before-next until gone next there time same at =
      let after : comes_after (Some time) next.begins.time ≡ true = subst (λ (o : Option ℕ). comes_after o next.begins.time ≡ true) at (next-after gone next there) in
      let less : time < next.begins.time = ltb-true time next.begins.time after in
      omega (arith, same, less)

  -- the slots behind them come after it
  pub after-until : (before through until : ℕ) (ending : WindowEnd) → LeadsTo design plan before through ending (Some until) → (k : ℕ) (slot : FirstSlot) → through ≤ k →
      slice_get (good_slots design plan) k ≡ Some slot → until < slot.begins.time
  after-until before through until ending leads k slot high here = go ending leads.ends
    where
      none : length (good_slots design plan) ≡ through → until < slot.begins.time
      none all = absurd (let there = slice_get_within (good_slots design plan) k slot here in omega (arith, there, all, high))

      go : (ending : WindowEnd) → EndsSo design plan through ending (Some until) → until < slot.begins.time
      go IsOpen so = goes-on so.0 (some-time until so.0 so.1) so.2.time_is so.2.more
        where
          goes-on : (time : ℕ) → until ≡ time → time_at design plan through ≡ Some time → through < length (good_slots design plan) → until < slot.begins.time
          goes-on time same at more =
              elim (slice_get_cases (good_slots design plan) through).1 [
                | inl found ↦
                    let first : until < found.0.begins.time = before-next until through found.0 found.2 time same at in
                    elim (cases_lt through k) [
                      | inl less ↦ (let rise = slots-rise law design plan rules through k found.0 slot less found.2 here in omega (arith, first, rise))
                      | inr by ↦
                          let one : found.0 ≡ slot =
                          some-slot found.0 slot (sym found.2 ∙ (let e : through ≡ k = omega (arith, by, high) in ap (slice_get (good_slots design plan)) e) ∙ here) in
                          let time_is : found.0.begins.time ≡ slot.begins.time = ap (λ (s : FirstSlot). s.begins.time) one in
                          omega (arith, first, time_is)
                    ]
                | inr past ↦ absurd (omega (arith, past.0, more))
              ]
      go IsThrough so = none so.0.all
      go (IsRaced pair) so = none so.0.all
