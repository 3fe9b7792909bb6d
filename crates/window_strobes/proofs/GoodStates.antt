-- Where the good machine stands at the times of a window (slots by IEEE 1364-2001, clause 5).
use Rattle.std.proofs.Common.{◌≡◌, ◌≢◌, ℕ, zero, suc, ◌+◌, ◌<◌, ◌≤◌, length, Bool, true, false, refl, sym, ap, subst, ◌∙◌, arith, inl, inr}
use Rattle.std.specs.Prelude.{Option, Some, None, slice_get}
use Rattle.std.proofs.lemmas.Bool.{cases_lt}
use Rattle.std.proofs.lemmas.Option.{slice_get_cases, slice_get_within}
use Rattle.vf_base.specs.Base.{ReportedPair}
use Rattle.v_design.specs.Designs.{FlatDesign, TestPlan, good_machine}
use Rattle.v_design.specs.Runs.{FirstSlot, is_hyper}
use Rattle.v_design.specs.Grades.{SlotOutcome, Hyper, slot_outcome, race_or_fine, first_race, phases, samples}
use Rattle.between_slots.specs.Between.{state_through}
use Rattle.between_slots.specs.Updates.{LastIsFew}
use Rattle.copy_laws.specs.Windows.{WindowEnd, good_slots, time_at, state_at}
use Rattle.grade_laws.specs.Grading.{good_seen}
use Rattle.beside_laws.specs.Stands.{IsSince, RunsStand}
use Rattle.beside_laws.specs.GoodRuns.{GoodRunGoesOn}
use Rattle.window_strobes.specs.Known.{IsKnown}
use Rattle.window_strobes.specs.Slots.{BeginsBy, ComesTo}
use Rattle.window_strobes.specs.Leading.{IsLed}

some-is : {A : Type 0} (one other : A) → Some one ≡ Some other → one ≡ other
some-is one other e = cc

-- a slot with few steps isn't hyperactive
few-outcome : (hyper : Bool) (outcome : SlotOutcome) → hyper ≡ false → outcome ≢ Hyper → elim hyper as (λ _. SlotOutcome) [ true ↦ Hyper | false ↦ outcome ] ≢ Hyper
few-outcome true outcome few other e = cc
few-outcome false outcome few other e = other e

race-no-loop : (race : Option ReportedPair) → race_or_fine race ≢ Hyper
race-no-loop None e = cc
race-no-loop (Some pair) e = cc

module _ (design : FlatDesign) (plan : TestPlan) (before through : ℕ) (ending : WindowEnd) (known : IsKnown design plan before through ending) where
  -- the last slot of the window
  pub record HasLast : Type 0 where
    pub number : ℕ
    pub is : through ≡ suc number
    pub here : slice_get (good_slots design plan) number ≡ Some known.window.last
    pub no_loop : slot_outcome (good_machine design) known.window.last ≢ Hyper

  pub has-last : HasLast
  has-last = go through refl
    where
      go : (number : ℕ) → through ≡ number → HasLast
      go zero e = let some : before < through = known.window.some in absurd (omega (arith, some, e))
      go (suc number) e =
          let here = known.window.stands number e in
          record {
            number = number;
            is = e;
            here = here;
            no_loop = few-outcome (is_hyper known.window.last) (race_or_fine (first_race (good_machine design) 1 (phases (good_machine design) known.window.last)))
                (few known.window.last here) (race-no-loop (first_race (good_machine design) 1 (phases (good_machine design) known.window.last)));
          }
        where
          few : LastIsFew design plan (suc number)
          few = subst (LastIsFew design plan) e known.few

  pub through-within : through ≤ length (good_slots design plan)
  through-within =
      let last = has-last in
      let low : last.number < length (good_slots design plan) = slice_get_within (good_slots design plan) last.number known.window.last last.here in
      omega (arith, last.is, low)

  -- the last slot begins by a time up to which all slots of the window do
  pub last-begun : (time : ℕ) → BeginsBy design plan through time → known.window.last.begins.time ≤ time
  last-begun time begun = begun has-last.number known.window.last has-last.is has-last.here

  module _ (goes : GoodRunGoesOn) where
    -- a window begins no later than a time to which a later number of slots leads
    pub since-time : (number time : ℕ) → before ≤ number → time_at design plan number ≡ Some time → IsSince (time_at design plan before) time
    since-time number time low e = go (time_at design plan before) refl
      where
        go : (now : Option ℕ) → time_at design plan before ≡ now → IsSince now time
        go None f = tt
        go (Some now) f = goes.times design plan before number now time known.rules low f e

    -- behind a slot before which a time comes that isn't earlier than the slot before it
    state-between : (number time : ℕ) (last next : FirstSlot) → slice_get (good_slots design plan) number ≡ Some last → slice_get (good_slots design plan) (suc number) ≡ Some next →
        last.begins.time ≤ time → time < next.begins.time → state_at (good_machine design) plan.end time ≡ state_through design plan (suc number)
    state-between number time last next here there low high =
        goes.stands design plan number time last known.rules here (goes.fine design plan number last next known.rules here there).0 low
        (λ other e. subst (λ (s : FirstSlot). time < s.begins.time) (some-is next other (sym there ∙ e)) high)

    -- where the good machine stands at a strobe of the window
    pub state-in : (until strobe slot : ℕ) → ComesTo design plan before through strobe slot → IsLed design plan before through until → strobe ≤ until →
        state_at (good_machine design) plan.end strobe ≡ state_through design plan (before + slot)
    state-in until strobe slot comes led low = elim (cases_lt (before + slot) through) [
      | inl inner ↦ within (before + slot) refl inner
      | inr past ↦
          let fits : before + slot ≤ through = comes.fits in
          let same : through ≡ before + slot = omega (arith, fits, past) in
          led.at_end strobe (subst (λ n. BeginsBy design plan n strobe) (sym same) comes.begun) low ∙ ap (state_through design plan) same
    ]
      where
        within : (number : ℕ) → before + slot ≡ number → before + slot < through → state_at (good_machine design) plan.end strobe ≡ state_through design plan (before + slot)
        within number e inner =
            let all : through ≤ length (good_slots design plan) = through-within in
            elim (slice_get_cases (good_slots design plan) (before + slot)).1 [
              | inl next ↦ by-number number e next.0 next.2 (comes.next next.0 inner next.2)
              | inr past ↦ absurd (omega (arith, past.0, inner, all))
            ]
          where
            by-number : (number : ℕ) → before + slot ≡ number → (next : FirstSlot) → slice_get (good_slots design plan) (before + slot) ≡ Some next → strobe < next.begins.time →
                state_at (good_machine design) plan.end strobe ≡ state_through design plan (before + slot)
            by-number zero e next there after =
                let zero_time : next.begins.time ≡ 0 = known.first next (sym (ap (slice_get (good_slots design plan)) e) ∙ there) in absurd (omega (arith, after, zero_time))
            by-number (suc last) e next there after = elim (slice_get_cases (good_slots design plan) last).1 [
              | inl found ↦
                  state-between last strobe found.0 next found.2 (sym (ap (slice_get (good_slots design plan)) e) ∙ there) (comes.begun last found.0 e found.2) after
                  ∙ ap (state_through design plan) (sym e)
              | inr past ↦
                  let here : before + slot < length (good_slots design plan) = slice_get_within (good_slots design plan) (before + slot) next there in
                  absurd (omega (arith, past.0, here, e))
            ]

    -- so the strobe sees the values of that state
    pub seen-in : RunsStand → (until strobe slot : ℕ) → ComesTo design plan before through strobe slot → IsLed design plan before through until → strobe ≤ until →
        good_seen design plan strobe ≡ samples plan.watched (state_through design plan (before + slot)).values
    seen-in stand until strobe slot comes led low =
        stand.sees (good_machine design) plan.watched plan.end strobe known.rules
        ∙ ap (λ s. samples plan.watched s.values) (state-in until strobe slot comes led low)
