-- The strobes of the rest of a window behind some of its slots (strobes by the plan; slots by IEEE 1364-2001, clause 5).
use Rattle.std.proofs.Common.{◌≡◌, ℕ, zero, suc, ◌+◌, ◌-◌, ◌<◌, ◌≤◌, List, [], ◌∷◌, ◌++◌, map, take, drop, length, refl, sym, ap, subst, ◌∙◌, arith, length-append, length-drop}
use Rattle.std.specs.Prelude.{Option, Some, None, slice_get}
use Rattle.std.proofs.Math.Seq.{take-add}
use Rattle.std.proofs.lemmas.List.{drop-drop, drop_at, length-map}
use Rattle.vf_base.specs.Lists.{AllHold}
use Rattle.v_design.specs.Designs.{FlatDesign, TestPlan}
use Rattle.v_design.specs.Grades.{Race, Sample, Stop}
use Rattle.v_design.specs.Runs.{FirstSlot}
use Rattle.v_design.specs.WellFormed.{IsAscending, IsPlan, KeepsRules}
use Rattle.kept_samples.specs.Plain.{sample_of}
use Rattle.kept_samples.specs.declared.kept.Sample.{Sample as Kept}
use Rattle.copy_laws.specs.Windows.{IsOpen, IsRaced, IsThrough, IsWindow, WindowEnd, good_slots, time_at}
use Rattle.grade_laws.specs.Ahead.{StopsAfter}
use Rattle.grade_laws.specs.Grading.{good_seen, good_stop, times}
use Rattle.beside_laws.specs.GoodRuns.{GoodRunGoesOn}
use Rattle.beside_laws.specs.Stands.{IsSince}
use Rattle.good_trace.specs.Slots.{end_of}
use Rattle.window_strobes.specs.Leading.{EndsSo, IsLed, last_before}
use Rattle.window_strobes.specs.Neighbours.{IsBetween, between, slots-within, time-between, time-by}
use Rattle.window_strobes.specs.Passed.{HasPassed}
use Rattle.window_strobes.specs.Seen.{AreSeen, AreSeenIf}
use Rattle.window_strobes.specs.Strobes.{AreStrobesOf, passed_behind}
use Rattle.window_strobes.specs.declared.strobes.WindowStrobes.{WindowStrobes}
use Rattle.window_strobes.proofs.Beginning.{ascending-drop}

some-is : {A : Type 0} (one other : A) → Some one ≡ Some other → one ≡ other
some-is one other e = cc

all-from : (P Q : ℕ → Type 0) (strobes : List ℕ) → ((strobe : ℕ) → P strobe → Q strobe) → AllHold P strobes → AllHold Q strobes
all-from P Q [] from all = tt
all-from P Q (strobe ∷ strobes) from all = (from strobe all.0, all-from P Q strobes from all.1)

all-join : (P : ℕ → Type 0) (xs ys : List ℕ) → AllHold P xs → AllHold P ys → AllHold P (xs ++ ys)
all-join P [] ys one more = more
all-join P (x ∷ xs) ys one more = (one.0, all-join P xs ys one.1 more)

all-drop : (P : Sample → Type 0) (count : ℕ) (samples : List Kept) → AllHold P (map sample_of samples) → AllHold P (map sample_of (drop count samples))
all-drop P zero samples all = all
all-drop P (suc count) [] all = tt
all-drop P (suc count) (sample ∷ samples) all = all-drop P count samples all.1

-- Samples of which the first so many come up to a time

abbrev times_of : List Kept → List ℕ
times_of samples = times (map sample_of samples)

drop-times : (samples : List Kept) (count : ℕ) (left : List ℕ) → count ≤ length samples → drop count (times_of samples ++ left) ≡ times_of (drop count samples) ++ left
drop-times samples zero left low = refl
drop-times [] (suc count) left low = absurd (omega (arith, low))
drop-times (sample ∷ samples) (suc count) left low = drop-times samples count left (omega (arith, low))

early-times : (time : ℕ) (samples : List Kept) (count : ℕ) (left : List ℕ) → count ≤ length samples → AllHold (λ (sample : Kept). sample.time ≤ time) (take count samples) →
    AllHold (λ strobe. strobe ≤ time) (take count (times_of samples ++ left))
early-times time samples zero left low all = tt
early-times time [] (suc count) left low all = absurd (omega (arith, low))
early-times time (sample ∷ samples) (suc count) left low all = (all.0, early-times time samples count left (omega (arith, low)) all.1)

later-times : (time until : ℕ) (samples : List Kept) (count : ℕ) (left : List ℕ) → time ≤ until → IsAscending (times_of samples ++ left) → count ≤ length samples →
    ((sample : Kept) → slice_get samples count ≡ Some sample → time < sample.time) → AllHold (λ strobe. until < strobe) left →
    AllHold (λ strobe. time < strobe) (drop count (times_of samples ++ left))
later-times time until [] zero left by ascend low next after = all-from (λ strobe. until < strobe) (λ strobe. time < strobe) left (λ strobe high. omega (arith, by, high)) after
later-times time until [] (suc count) left by ascend low next after = absurd (omega (arith, low))
later-times time until (sample ∷ samples) zero left by ascend low next after =
    let here : time < sample.time = next sample refl in
    (here, all-from (λ strobe. sample.time < strobe) (λ strobe. time < strobe) (times_of samples ++ left) (λ strobe high. omega (arith, here, high)) ascend.0)
later-times time until (sample ∷ samples) (suc count) left by ascend low next after = later-times time until samples count left by ascend.1 (omega (arith, low)) next after

module _ (law : GoodRunGoesOn) (design : FlatDesign) (plan : TestPlan) (rules : KeepsRules design) (at : ℕ) (b : IsBetween design plan at) where
  abbrev now : ℕ
  now = b.last.begins.time

  time-there : time_at design plan at ≡ Some now
  time-there = time-between design plan at b

  pub stops-later : StopsAfter now (good_stop design plan)
  stops-later = (law.fine design plan b.number b.last b.next rules b.here b.there).2

  pub record IsLedBy (until : Option ℕ) : Type 0 where
    pub time : ℕ
    pub is : until ≡ Some time
    pub low : now ≤ time

  race-led : (time : ℕ) (until : Option ℕ) → now < time → until ≡ last_before time → IsLedBy until
  race-led zero until low is = absurd (omega (arith, low))
  race-led (suc time) until low is = record { time = time; is = is; low = omega (arith, low) }

  -- a window that comes behind leads at least to there
  led-by : (through : ℕ) (ending : WindowEnd) (until : Option ℕ) → at ≤ through → EndsSo design plan through ending until → IsLedBy until
  led-by through IsOpen until low so = record { time = so.0; is = so.1; low = law.times design plan at through now so.0 rules low time-there so.2.time_is }
  led-by through IsThrough until low so = record { time = plan.end; is = so.2; low = law.within design plan b.number b.last rules b.here }
  led-by through (IsRaced pair) until low so =
      let after : now < pair.time = subst (λ (stop : Option Stop). StopsAfter now stop) so.1 stops-later in
      race-led pair.time until after so.2

  -- The rest of a window

  module _ (before through : ℕ) (strobes : WindowStrobes) (are : AreStrobesOf design plan before through strobes) (of_plan : IsPlan plan) (count : ℕ) (low : count ≤ length strobes.samples.items)
      (by : AllHold (λ (sample : Kept). sample.time ≤ now) (take count strobes.samples.items))
      (next : (sample : Kept) → slice_get strobes.samples.items count ≡ Some sample → now < sample.time) (since : before ≤ at) (more : at < length (good_slots design plan)) (up_to : at ≤ through) where
    led : IsLedBy strobes.until
    led = led-by through (end_of strobes.ending) strobes.until up_to are.leads.ends

    abbrev all : List ℕ
    all = drop strobes.passed plan.strobes

    abbrev left : List ℕ
    left = drop (length strobes.samples.items) all

    seen : AreSeen design plan led.time all strobes.samples.items
    seen = subst (λ (o : Option ℕ). AreSeenIf design plan o all strobes.samples.items) led.is are.seen

    rest-is : drop (strobes.passed + count) plan.strobes ≡ times_of (drop count strobes.samples.items) ++ left
    rest-is = sym (drop-drop count strobes.passed plan.strobes) ∙ ap (drop count) seen.next_are ∙ drop-times strobes.samples.items count left low

    left-is : drop (length (drop count strobes.samples.items)) (drop (strobes.passed + count) plan.strobes) ≡ left
    left-is =
        let own = drop count strobes.samples.items in
        ap (drop (length own)) rest-is
        ∙ drop_at (times_of own) left (length own) (length-map (map sample_of own) (λ (sample : Sample). sample.time) ∙ length-map own sample_of)

    rest-seen : AreSeen design plan led.time (drop (strobes.passed + count) plan.strobes) (drop count strobes.samples.items)
    rest-seen = record {
      next_are = rest-is ∙ ap (λ l. times_of (drop count strobes.samples.items) ++ l) (sym left-is);
      bits = all-drop (λ (sample : Sample). sample.bits ≡ good_seen design plan sample.time) count strobes.samples.items seen.bits;
      by_then = all-drop (λ (sample : Sample). sample.time ≤ led.time) count strobes.samples.items seen.by_then;
      after = subst (AllHold (λ strobe. led.time < strobe)) (sym left-is) seen.after;
    }

    within-all : strobes.passed + length strobes.samples.items ≤ length plan.strobes
    within-all =
        let shown = map sample_of strobes.samples.items in
        let low : strobes.passed ≤ length plan.strobes = are.has_passed.within in
        let long : length all ≡ length (times shown ++ left) = ap length seen.next_are in
        let parts : length (times shown ++ left) ≡ length (times shown) + length left = length-append (times shown) left in
        let one : length (times shown) ≡ length shown = length-map shown (λ (sample : Sample). sample.time) in
        let own : length shown ≡ length strobes.samples.items = length-map strobes.samples.items sample_of in
        omega (arith, low, long, parts, one, own, length-drop strobes.passed plan.strobes)

    -- the strobes before the window come up to there
    early-before : AllHold (λ strobe. strobe ≤ now) (take strobes.passed plan.strobes)
    early-before = go before refl (time_at design plan before) refl
      where
        never : (next last : Option FirstSlot) → time-by plan next last ≡ None → ⊥
        never None last e = cc
        never (Some later) None e = cc
        never (Some later) (Some slot) e = cc

        go : (number : ℕ) → before ≡ number → (time : Option ℕ) → time_at design plan before ≡ time → AllHold (λ strobe. strobe ≤ now) (take strobes.passed plan.strobes)
        go zero e time f = (let none : 0 ≡ strobes.passed = sym (are.has_passed.none e) in subst (λ n. AllHold (λ strobe. strobe ≤ now) (take n plan.strobes)) none tt)
        go (suc number) e None f = absurd (never (slice_get (good_slots design plan) (suc number)) (slice_get (good_slots design plan) number) (sym (ap (time_at design plan) e) ∙ f))
        go (suc number) e (Some time) f =
            let earlier : time ≤ now = law.times design plan before at time now rules since f time-there in
            all-from (λ strobe. strobe ≤ time) (λ strobe. strobe ≤ now) (take strobes.passed plan.strobes) (λ strobe low. omega (arith, low, earlier))
            (are.has_passed.early time f (omega (arith, since, more)))

    rest-passed : HasPassed design plan at (strobes.passed + count)
    rest-passed = record {
      within = omega (arith, within-all, low);
      none = λ zero. absurd (omega (arith, zero, b.at_is));
      early = λ time e further.
          subst (λ t. AllHold (λ strobe. strobe ≤ t) (take (strobes.passed + count) plan.strobes)) (some-is now time (sym time-there ∙ e))
          (subst (AllHold (λ strobe. strobe ≤ now)) (sym (take-add strobes.passed count plan.strobes))
          (all-join (λ strobe. strobe ≤ now) (take strobes.passed plan.strobes) (take count all) early-before
          (subst (λ (l : List ℕ). AllHold (λ strobe. strobe ≤ now) (take count l)) (sym seen.next_are) (early-times now strobes.samples.items count left low by))));
      later = λ time e further.
          subst (λ t. AllHold (λ strobe. t < strobe) (drop (strobes.passed + count) plan.strobes)) (some-is now time (sym time-there ∙ e))
          (subst (AllHold (λ strobe. now < strobe)) (drop-drop count strobes.passed plan.strobes)
          (subst (λ (l : List ℕ). AllHold (λ strobe. now < strobe) (drop count l)) (sym seen.next_are)
          (later-times now led.time strobes.samples.items count left led.low (subst IsAscending seen.next_are (ascending-drop strobes.passed plan.strobes of_plan.ascending)) low next seen.after)));
    }

    rest-led : (until : ℕ) → strobes.until ≡ Some until → IsLed design plan at through until
    rest-led until e =
        let same : led.time ≡ until = some-is led.time until (sym led.is ∙ e) in
        let late : now ≤ until = omega (arith, led.low, same) in
        let whole = are.leads.led until e in
        record {
          since = subst (λ (o : Option ℕ). IsSince o until) (sym time-there) late;
          goes_on = whole.goes_on;
          within = whole.within;
          at_end = whole.at_end;
        }

    -- the rest, where these are its samples
    pub rest-are : (rest : WindowStrobes) → rest.passed ≡ strobes.passed + count → rest.samples.items ≡ drop count strobes.samples.items → rest.until ≡ strobes.until →
        rest.ending ≡ strobes.ending → AreStrobesOf design plan at through rest
    rest-are rest passed samples until ending = record {
      has_passed = subst (HasPassed design plan at) (sym passed) rest-passed;
      seen =
          subst (λ (o : Option ℕ). AreSeenIf design plan o (drop rest.passed plan.strobes) rest.samples.items) (sym (until ∙ led.is))
          (subst (λ n. AreSeen design plan led.time (drop n plan.strobes) rest.samples.items) (sym passed)
          (subst (λ (l : List Kept). AreSeen design plan led.time (drop (strobes.passed + count) plan.strobes) l) (sym samples) rest-seen));
      leads = record {
        led = λ time e. rest-led time (sym until ∙ e);
        ends =
            subst (λ e. EndsSo design plan through (end_of e) rest.until) (sym ending)
            (subst (λ (o : Option ℕ). EndsSo design plan through (end_of strobes.ending) o) (sym until) are.leads.ends);
      };
    }

    pub rest-behind : (rest : WindowStrobes) → rest.passed ≡ strobes.passed + count → rest.samples.items ≡ drop count strobes.samples.items → passed_behind rest ≡ passed_behind strobes
    rest-behind rest passed samples =
        let own : length rest.samples.items ≡ length (drop count strobes.samples.items) = ap length samples in
        omega (arith, passed, own, low, length-drop count strobes.samples.items)

    pub few-passed : strobes.passed + count ≤ length plan.strobes
    few-passed = omega (arith, within-all, low)

-- what its samples tell, counted by the time of the last slot before it
module _ (law : GoodRunGoesOn) (design : FlatDesign) (plan : TestPlan) (rules : KeepsRules design) (of_plan : IsPlan plan) (before through slots : ℕ) (ending : WindowEnd)
    (window : IsWindow design plan before through ending) (some : 0 < slots) (further : before + slots < through) (strobes : WindowStrobes) (are : AreStrobesOf design plan before through strobes)
    (time : ℕ) (time_is : (one : FirstSlot) → slice_get (good_slots design plan) (before + (slots - 1)) ≡ Some one → time ≡ one.begins.time) (count : ℕ) (own : List Kept)
    (own_is : own ≡ strobes.samples.items) (low : count ≤ length own) (by : AllHold (λ (sample : Kept). sample.time ≤ time) (take count own))
    (next : (sample : Kept) → slice_get own count ≡ Some sample → time < sample.time) where
  b : IsBetween design plan (before + slots)
  b = between design plan before through slots ending window some further

  same_time : time ≡ b.last.begins.time
  same_time = (let same : before + (slots - 1) ≡ b.number = omega (arith, some, b.at_is) in time_is b.last (ap (slice_get (good_slots design plan)) same ∙ b.here))

  own-low : count ≤ length strobes.samples.items
  own-low = subst (λ (l : List Kept). count ≤ length l) own_is low

  own-by : AllHold (λ (sample : Kept). sample.time ≤ b.last.begins.time) (take count strobes.samples.items)
  own-by =
      subst (λ t. AllHold (λ (sample : Kept). sample.time ≤ t) (take count strobes.samples.items)) same_time
      (subst (λ (l : List Kept). AllHold (λ (sample : Kept). sample.time ≤ time) (take count l)) own_is by)

  own-next : (sample : Kept) → slice_get strobes.samples.items count ≡ Some sample → b.last.begins.time < sample.time
  own-next sample is = subst (λ t. t < sample.time) same_time (next sample (ap (λ (l : List Kept). slice_get l count) own_is ∙ is))

  more : before + slots < length (good_slots design plan)
  more = (let all = slots-within design plan before through ending window in omega (arith, all, further))

  pub few : strobes.passed + count ≤ length plan.strobes
  few =
      few-passed law design plan rules (before + slots) b before through strobes are of_plan count own-low own-by own-next (omega arith) more (omega (arith, further))

  pub are-rest : (rest : WindowStrobes) → rest.passed ≡ strobes.passed + count → rest.samples.items ≡ drop count own → rest.until ≡ strobes.until → rest.ending ≡ strobes.ending →
      AreStrobesOf design plan (before + slots) through rest
  are-rest rest passed samples until ends =
      rest-are law design plan rules (before + slots) b before through strobes are of_plan count own-low own-by own-next (omega arith) more (omega (arith, further)) rest passed
      (samples ∙ ap (drop count) own_is) until ends

  pub same-behind : (rest : WindowStrobes) → rest.passed ≡ strobes.passed + count → rest.samples.items ≡ drop count own → passed_behind rest ≡ passed_behind strobes
  same-behind rest passed samples =
      rest-behind law design plan rules (before + slots) b before through strobes are of_plan count own-low own-by own-next (omega arith) more (omega (arith, further)) rest passed
      (samples ∙ ap (drop count) own_is)
