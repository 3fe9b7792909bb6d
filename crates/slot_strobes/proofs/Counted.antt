-- The strobes of a plan up to a time (strobes by the plan; slots by IEEE 1364-2001, clause 5).
use Rattle.std.proofs.Common.{◌≡◌, ℕ, zero, suc, ◌-◌, ◌<◌, ◌≤◌, List, length, take, drop, refl, sym, ap, subst, ◌∙◌, arith, inl, inr}
use Rattle.std.specs.Prelude.{Some, slice_get}
use Rattle.std.proofs.lemmas.Bool.{cases_lt}
use Rattle.std.proofs.lemmas.Option.{slice_get_within}
use Rattle.vf_base.specs.Lists.{AllHold}
use Rattle.v_design.specs.Designs.{FlatDesign, TestPlan}
use Rattle.v_design.specs.Runs.{FirstSlot}
use Rattle.v_design.specs.WellFormed.{IsAscending, KeepsRules}
use Rattle.copy_laws.specs.Windows.{good_slots, time_at}
use Rattle.beside_laws.specs.GoodRuns.{GoodRunGoesOn}
use Rattle.lockstep_shards.specs.window_strobes.Passed.{HasPassed}
use Rattle.lockstep_shards.proofs.Laws.{last, last-there, some-is, time-there}
use Rattle.slot_strobes.specs.Counts.{AllBetween, CountsBy}
use Rattle.slot_strobes.proofs.Lists.{at-ascending, at-take, holds-drop, holds-take}

module _ (strobes : List ℕ) (up : IsAscending strobes) (from count time : ℕ) (since : from ≤ count) (within : count ≤ length strobes)
    (by : AllBetween strobes from count (λ strobe. strobe ≤ time)) where
  -- the next one comes later
  pub counts-next : (next : ℕ) → slice_get strobes count ≡ Some next → time < next → CountsBy strobes from count time
  counts-next next here late = record {
    since = since;
    within = within;
    by = by;
    later = λ place strobe low there. elim (cases_lt count place) [
      | inl less ↦ let more : next < strobe = at-ascending strobes count place next strobe up less here there in omega (arith, late, more)
      | inr same ↦
          let is : count ≡ place = omega (arith, low, same) in
          let one : next ≡ strobe = some-is next strobe (sym here ∙ ap (slice_get strobes) is ∙ there) in
          omega (arith, late, one)
    ];
  }

  -- there is no other
  pub counts-all : length strobes ≤ count → CountsBy strobes from count time
  counts-all all = record {
    since = since;
    within = within;
    by = by;
    later = λ place strobe low there. (let less : place < length strobes = slice_get_within strobes place strobe there in absurd (omega (arith, low, less, all)));
  }

-- behind a slot, at its time, so many strobes passed
pub passed-behind : (design : FlatDesign) (plan : TestPlan) (number time from count : ℕ) → time_at design plan (suc number) ≡ Some time →
    ((place strobe : ℕ) → place < from → slice_get plan.strobes place ≡ Some strobe → strobe ≤ time) → CountsBy plan.strobes from count time → HasPassed design plan (suc number) count
passed-behind design plan number time from count time_is early counts = record {
  within = counts.within;
  none = λ never. absurd (omega (arith, never));
  early = λ other is more. subst (λ t. AllHold (λ strobe. strobe ≤ t) (take count plan.strobes)) (some-is time other (sym time_is ∙ is))
      (holds-take (λ strobe. strobe ≤ time) plan.strobes count by);
  later = λ other is more. subst (λ t. AllHold (λ strobe. t < strobe) (drop count plan.strobes)) (some-is time other (sym time_is ∙ is))
      (holds-drop (λ strobe. time < strobe) plan.strobes count counts.later);
}
  where
    by : (place strobe : ℕ) → place < count → slice_get plan.strobes place ≡ Some strobe → strobe ≤ time
    by place strobe low here = elim (cases_lt place from) [ inl less ↦ early place strobe less here | inr since ↦ counts.by place strobe since low here ]

-- where so many passed at fewer slots, those behind more slots are counted from there
pub passed-before : GoodRunGoesOn → (design : FlatDesign) (plan : TestPlan) → KeepsRules design → (earlier gone from : ℕ) → HasPassed design plan earlier from → earlier < gone →
    gone < length (good_slots design plan) → (time : ℕ) → ((one : FirstSlot) → slice_get (good_slots design plan) (gone - 1) ≡ Some one → time ≡ one.begins.time) → (count : ℕ) →
    CountsBy plan.strobes from count time → HasPassed design plan gone count
passed-before good design plan rules earlier gone from has low more time time_of count counts =
    subst (λ n. HasPassed design plan n count) (sym gone_is) (passed-behind design plan (gone - 1) time from count time_is early counts)
  where
    gone_is : gone ≡ suc (gone - 1)
    gone_is = omega (arith, low)

    further : suc (gone - 1) < length (good_slots design plan)
    further = omega (arith, gone_is, more)

    time_is : time_at design plan (suc (gone - 1)) ≡ Some time
    time_is =
        time-there good design plan rules (gone - 1) further
        ∙ ap (λ t. Some t) (sym (time_of (last good design plan rules (gone - 1) further) (last-there good design plan rules (gone - 1) further)))

    early : (place strobe : ℕ) → place < from → slice_get plan.strobes place ≡ Some strobe → strobe ≤ time
    early place strobe low_place here = go earlier refl
      where
        go : (number : ℕ) → earlier ≡ number → strobe ≤ time
        go zero e = (let none : from ≡ 0 = has.none e in absurd (omega (arith, low_place, none)))
        go (suc number) e =
            let before : suc number < length (good_slots design plan) = omega (arith, e, low, more) in
            let was : ℕ = (last good design plan rules number before).begins.time in
            let is : time_at design plan earlier ≡ Some was = ap (time_at design plan) e ∙ time-there good design plan rules number before in
            let by : strobe ≤ was = at-take (λ s. s ≤ was) plan.strobes from place strobe (has.early was is (omega (arith, e, before))) low_place here in
            let grows : was ≤ time =
            good.times design plan (suc number) (suc (gone - 1)) was time rules (omega (arith, e, low, gone_is)) (time-there good design plan rules number before) time_is in
            omega (arith, by, grows)
