-- The time to which a window leads, by how it ends (slots by IEEE 1364-2001, clause 5).
use Rattle.std.proofs.Common.{◌≡◌, ◌≢◌, ℕ, zero, suc, ◌<◌, ◌≤◌, length, refl, sym, ap, subst, ◌∙◌, arith, inl, inr}
use Rattle.std.specs.Prelude.{Option, Some, None, slice_get}
use Rattle.std.proofs.lemmas.Option.{slice_get_cases, slice_get_within}
use Rattle.vf_base.specs.Base.{ReportedPair}
use Rattle.v_design.specs.Designs.{FlatDesign, TestPlan, good_machine}
use Rattle.v_design.specs.Runs.{FirstSlot}
use Rattle.v_design.specs.Grades.{SlotOutcome, Fine, Race, Hyper, slot_outcome}
use Rattle.between_slots.specs.Between.{state_through}
use Rattle.copy_laws.specs.Windows.{WindowEnd, IsOpen, IsThrough, IsRaced, good_slots, time_at, state_at}
use Rattle.grade_laws.specs.Ahead.{StopsAfter}
use Rattle.grade_laws.specs.Grading.{good_stop}
use Rattle.beside_laws.specs.Stands.{IsSince}
use Rattle.beside_laws.specs.GoodRuns.{IsOpenAt, IsAllAt, GoodRunGoesOn, WindowsEnd}
use Rattle.window_strobes.specs.Known.{IsKnown}
use Rattle.window_strobes.specs.Leading.{IsLed, LeadsTo, last_before}
use Rattle.window_strobes.proofs.GoodStates.{HasLast, has-last, last-begun, since-time}

some-is : {A : Type 0} (one other : A) → Some one ≡ Some other → one ≡ other
some-is one other e = cc

-- a window that ends the run without a loop has a fine slot last
fine-last : (outcome : SlotOutcome) (next : Option FirstSlot) → outcome ≢ Hyper →
    IsThrough ≡ elim outcome as (λ _. WindowEnd) [ Fine ↦ elim next [ None ↦ IsThrough | Some later ↦ IsOpen ] | Race pair ↦ IsRaced pair | Hyper ↦ IsThrough ] → outcome ≡ Fine
fine-last Fine next other e = refl
fine-last (Race pair) next other e = cc
fine-last Hyper next other e = absurd (other refl)

module _ (goes : GoodRunGoesOn) (ends : WindowsEnd) (design : FlatDesign) (plan : TestPlan) (before through : ℕ) where
  -- slots come after the window
  module _ (known : IsKnown design plan before through IsOpen) where
    open-at : IsOpenAt design plan through known.window.last.begins.time
    open-at = ends.is_open design plan before through known.rules known.window

    open-led : IsLed design plan before through known.window.last.begins.time
    open-led = record {
      since = (let some : before < through = known.window.some in since-time design plan before through IsOpen known goes through known.window.last.begins.time (omega (arith, some)) open-at.time_is);
      goes_on = open-at.goes_on;
      within = (let early : known.window.last.begins.time < plan.end = open-at.early in omega (arith, early));
      at_end = λ time begun low.
          let from : known.window.last.begins.time ≤ time = last-begun design plan before through IsOpen known time begun in
          let same : known.window.last.begins.time ≡ time = omega (arith, from, low) in
          subst (λ t. state_at (good_machine design) plan.end t ≡ state_through design plan through) same open-at.state_is;
    }

    leads-open : (until : ℕ) → ((number : ℕ) (one : FirstSlot) → through ≡ suc number → slice_get (good_slots design plan) number ≡ Some one → until ≡ one.begins.time) →
        LeadsTo design plan before through IsOpen (Some until)
    leads-open until at =
        let last = has-last design plan before through IsOpen known in
        let is : until ≡ known.window.last.begins.time = at last.number known.window.last last.is last.here in
        record {
          led = λ time e. subst (IsLed design plan before through) (sym is ∙ some-is until time e) open-led;
          ends = (until, refl, subst (IsOpenAt design plan through) (sym is) open-at);
        }

  -- the run is through
  module _ (known : IsKnown design plan before through IsThrough) where
    last-through : HasLast design plan before through IsThrough known
    last-through = has-last design plan before through IsThrough known

    all-through : IsAllAt design plan through × (good_stop design plan ≡ None)
    all-through = ends.is_through design plan before through known.rules known.window last-through.no_loop

    through-led : IsLed design plan before through plan.end
    through-led = record {
      since = (let some : before < through = known.window.some in since-time design plan before through IsThrough known goes through plan.end (omega (arith, some)) all-through.0.time_is);
      goes_on = subst (StopsAfter plan.end) (sym all-through.1) tt;
      within = omega arith;
      at_end = λ time begun low.
          let fine = fine-last (slot_outcome (good_machine design) known.window.last) (slice_get (good_slots design plan) through) last-through.no_loop known.window.end_is in
          goes.stands design plan last-through.number time known.window.last known.rules last-through.here fine (last-begun design plan before through IsThrough known time begun)
          (λ next e. none-left next (ap (slice_get (good_slots design plan)) last-through.is ∙ e))
          ∙ ap (state_through design plan) (sym last-through.is);
    }
      where
        none-left : {P : Type 0} (next : FirstSlot) → slice_get (good_slots design plan) through ≡ Some next → P
        none-left next e =
            let low : through < length (good_slots design plan) = slice_get_within (good_slots design plan) through next e in
            let all : length (good_slots design plan) ≡ through = all-through.0.all in
            absurd (omega (arith, low, all))

    leads-through : (until : ℕ) → until ≡ plan.end → LeadsTo design plan before through IsThrough (Some until)
    leads-through until is = record {
      led = λ time e. subst (IsLed design plan before through) (sym is ∙ some-is until time e) through-led;
      ends = (all-through.0, all-through.1, ap Some is);
    }

  -- the good machine has a race
  module _ (pair : ReportedPair) (known : IsKnown design plan before through (IsRaced pair)) where
    last-raced : HasLast design plan before through (IsRaced pair) known
    last-raced = has-last design plan before through (IsRaced pair) known

    all-raced : IsAllAt design plan through × (good_stop design plan ≡ Some (record { time = known.window.last.begins.time; outcome = Race pair })) × (pair.time ≡ known.window.last.begins.time)
    all-raced = ends.is_raced design plan before through pair known.rules known.window

    stop-raced : good_stop design plan ≡ Some (record { time = pair.time; outcome = Race pair })
    stop-raced = all-raced.1 ∙ ap (λ t. Some (record { time = t; outcome = Race pair })) (sym all-raced.2)

    -- the window begins before the race
    since-raced : (until : ℕ) → pair.time ≡ suc until → IsSince (time_at design plan before) until
    since-raced until e = go last-raced.number refl
      where
        last_time : known.window.last.begins.time ≡ suc until
        last_time = sym all-raced.2 ∙ e

        none-before : (now : Option ℕ) → before ≡ 0 → time_at design plan before ≡ now → IsSince now until
        none-before None zero_slots f = tt
        none-before (Some now) zero_slots f = (let g : time_at design plan 0 ≡ Some now = sym (ap (time_at design plan) zero_slots) ∙ f in cc)

        go : (number : ℕ) → last-raced.number ≡ number → IsSince (time_at design plan before) until
        go zero f =
            let some : before < through = known.window.some in
            let is : through ≡ suc last-raced.number = last-raced.is in
            none-before (time_at design plan before) (omega (arith, some, is, f)) refl
        go (suc number) f = elim (slice_get_cases (good_slots design plan) number).1 [
          | inl found ↦
              let here : slice_get (good_slots design plan) (suc number) ≡ Some known.window.last = sym (ap (slice_get (good_slots design plan)) f) ∙ last-raced.here in
              let later : found.0.begins.time < known.window.last.begins.time = (goes.fine design plan number found.0 known.window.last known.rules found.2 here).1 in
              let time_is : time_at design plan (suc number) ≡ Some found.0.begins.time = time-there number found.0 known.window.last found.2 here in
              earlier found.0.begins.time (omega (arith, later, last_time))
              (since-time design plan before through (IsRaced pair) known goes (suc number) found.0.begins.time
              (let some : before < through = known.window.some in let is : through ≡ suc last-raced.number = last-raced.is in omega (arith, some, is, f)) time_is)
          | inr past ↦
              let low : last-raced.number < length (good_slots design plan) =
              slice_get_within (good_slots design plan) last-raced.number known.window.last last-raced.here in
              absurd (omega (arith, past.0, low, f))
        ]
          where
            earlier : (time : ℕ) → time ≤ until → IsSince (time_at design plan before) time → IsSince (time_at design plan before) until
            earlier time low since = by (time_at design plan before) since
              where
                by : (now : Option ℕ) → IsSince now time → IsSince now until
                by None s = tt
                by (Some now) s = omega (arith, s, low)

            time-there : (number : ℕ) (last next : FirstSlot) → slice_get (good_slots design plan) number ≡ Some last → slice_get (good_slots design plan) (suc number) ≡ Some next →
                time_at design plan (suc number) ≡ Some last.begins.time
            time-there number last next here there =
                ap (λ (o : Option FirstSlot). elim o as (λ _. Option ℕ) [
                  | None ↦ Some plan.end
                  | Some later ↦ elim (slice_get (good_slots design plan) number) as (λ _. Option ℕ) [ None ↦ Some plan.end | Some slot ↦ Some slot.begins.time ]
                ]) there
                ∙ ap (λ (o : Option FirstSlot). elim o as (λ _. Option ℕ) [ None ↦ Some plan.end | Some slot ↦ Some slot.begins.time ]) here

    raced-led : (until : ℕ) → pair.time ≡ suc until → IsLed design plan before through until
    raced-led until e = record {
      since = since-raced until e;
      goes_on = subst (StopsAfter until) (sym stop-raced) (omega (arith, e));
      within = (let by : known.window.last.begins.time ≤ plan.end = known.within last-raced.number known.window.last last-raced.here in omega (arith, by, all-raced.2, e));
      at_end = λ time begun low.
          let from : known.window.last.begins.time ≤ time = last-begun design plan before through (IsRaced pair) known time begun in
          absurd (omega (arith, from, low, all-raced.2, e));
    }

    leads-raced : (until : Option ℕ) → until ≡ last_before pair.time → LeadsTo design plan before through (IsRaced pair) until
    leads-raced until is = record {
      led = λ time e. raced-led time (after pair.time time (sym is ∙ e));
      ends = (all-raced.0, stop-raced, is);
    }
      where
        after : (end time : ℕ) → last_before end ≡ Some time → end ≡ suc time
        after zero time e = cc
        after (suc end) time e = (let same : end ≡ time = some-is end time e in ap suc same)

  -- so by how the window ends
  pub opens : (ending : WindowEnd) (until : ℕ) → IsOpen ≡ ending → IsKnown design plan before through ending →
      ((number : ℕ) (one : FirstSlot) → through ≡ suc number → slice_get (good_slots design plan) number ≡ Some one → until ≡ one.begins.time) →
      LeadsTo design plan before through ending (Some until)
  opens ending until is known at =
      subst (λ (e : WindowEnd). IsKnown design plan before through e → LeadsTo design plan before through e (Some until)) is (λ own. leads-open own until at) known

  pub runs-through : (ending : WindowEnd) (until : ℕ) → IsThrough ≡ ending → IsKnown design plan before through ending → until ≡ plan.end →
      LeadsTo design plan before through ending (Some until)
  runs-through ending until is known end =
      subst (λ (e : WindowEnd). IsKnown design plan before through e → LeadsTo design plan before through e (Some until)) is (λ own. leads-through own until end) known

  pub races : (ending : WindowEnd) (pair : ReportedPair) (until : Option ℕ) → IsRaced pair ≡ ending → IsKnown design plan before through ending → until ≡ last_before pair.time →
      LeadsTo design plan before through ending until
  races ending pair until is known last =
      subst (λ (e : WindowEnd). IsKnown design plan before through e → LeadsTo design plan before through e until) is (λ own. leads-raced pair own until last) known
