-- The strobes that come up to a window's end (strobes by the plan; slots by IEEE 1364-2001, clause 5).
use Rattle.std.proofs.Common.{◌≡◌, ℕ, zero, suc, ◌+◌, ◌<◌, ◌≤◌, List, [], ◌∷◌, ◌++◌, map, take, drop, length, refl, sym, ap, subst, ◌∙◌, arith, length-append, length-drop}
use Rattle.std.specs.Prelude.{Option, Some, None, slice_get}
use Rattle.std.proofs.Math.Seq.{take-add}
use Rattle.std.proofs.lemmas.List.{take_at, drop-drop, length-map}
use Rattle.vf_base.specs.Lists.{AllHold}
use Rattle.v_design.specs.Designs.{FlatDesign, TestPlan}
use Rattle.v_design.specs.Grades.{Sample}
use Rattle.v_design.specs.Runs.{FirstSlot}
use Rattle.kept_samples.specs.Plain.{sample_of}
use Rattle.kept_samples.specs.declared.kept.Sample.{Sample as Kept}
use Rattle.copy_laws.specs.Windows.{WindowEnd, IsOpen, IsThrough, IsRaced, good_slots, time_at}
use Rattle.grade_laws.specs.Grading.{times}
use Rattle.beside_laws.specs.Stands.{IsSince}
use Rattle.good_trace.specs.Slots.{end_of}
use Rattle.window_strobes.specs.Known.{IsKnown}
use Rattle.window_strobes.specs.Passed.{HasPassed}
use Rattle.window_strobes.specs.Leading.{IsLed, EndsSo}
use Rattle.window_strobes.specs.Seen.{AreSeen, AreSeenIf}
use Rattle.window_strobes.specs.Strobes.{AreStrobesOf, passed_behind}
use Rattle.window_strobes.specs.declared.strobes.WindowStrobes.{WindowStrobes}

some-is : {A : Type 0} (one other : A) → Some one ≡ Some other → one ≡ other
some-is one other e = cc

all-join : (P : ℕ → Type 0) (xs ys : List ℕ) → AllHold P xs → AllHold P ys → AllHold P (xs ++ ys)
all-join P [] ys one more = more
all-join P (x ∷ xs) ys one more = (one.0, all-join P xs ys one.1 more)

all-by : (low high : ℕ) (strobes : List ℕ) → low ≤ high → AllHold (λ strobe. strobe ≤ low) strobes → AllHold (λ strobe. strobe ≤ high) strobes
all-by low high [] h all = tt
all-by low high (strobe ∷ strobes) h all = (let by : strobe ≤ low = all.0 in omega (arith, by, h), all-by low high strobes h all.1)

all-times : (until : ℕ) (samples : List Sample) → AllHold (λ (sample : Sample). sample.time ≤ until) samples → AllHold (λ strobe. strobe ≤ until) (times samples)
all-times until [] all = tt
all-times until (sample ∷ samples) all = (all.0, all-times until samples all.1)

module _ (design : FlatDesign) (plan : TestPlan) (before through : ℕ) (ending : WindowEnd) (known : IsKnown design plan before through ending) (strobes : WindowStrobes)
    (are : AreStrobesOf design plan before through strobes) where
  -- the samples are no more than the strobes that are next
  within-all : passed_behind strobes ≤ length plan.strobes
  within-all = go strobes.until are.seen
    where
      low : strobes.passed ≤ length plan.strobes
      low = are.has_passed.within

      none : (samples : List Kept) → samples ≡ [] → strobes.passed + length samples ≤ length plan.strobes
      none [] e = omega (arith, low)
      none (sample ∷ samples) e = cc

      go : (until : Option ℕ) → AreSeenIf design plan until (drop strobes.passed plan.strobes) strobes.samples.items → passed_behind strobes ≤ length plan.strobes
      go None e = none strobes.samples.items e
      go (Some until) s =
          let shown = map sample_of strobes.samples.items in
          let rest = drop (length strobes.samples.items) (drop strobes.passed plan.strobes) in
          let all : length (drop strobes.passed plan.strobes) ≡ length (times shown ++ rest) = ap length s.next_are in
          let long : length (times shown ++ rest) ≡ length (times shown) + length rest = length-append (times shown) rest in
          let one : length (times shown) ≡ length shown = length-map shown (λ (sample : Sample). sample.time) in
          let own : length shown ≡ length strobes.samples.items = length-map strobes.samples.items sample_of in
          omega (arith, low, all, long, one, own, length-drop strobes.passed plan.strobes)

  -- those that came before the window come up to a later time
  early-before : (until : ℕ) → IsLed design plan before through until → before < length (good_slots design plan) → AllHold (λ strobe. strobe ≤ until) (take strobes.passed plan.strobes)
  early-before until led more = go before refl (time_at design plan before) refl
    where
      at-start : before ≡ 0 → AllHold (λ strobe. strobe ≤ until) (take strobes.passed plan.strobes)
      at-start e = (let none : 0 ≡ strobes.passed = sym (are.has_passed.none e) in subst (λ n. AllHold (λ strobe. strobe ≤ until) (take n plan.strobes)) none tt)

      never : (next last : Option FirstSlot) →
          elim next as (λ _. Option ℕ) [ None ↦ Some plan.end | Some later ↦ elim last as (λ _. Option ℕ) [ None ↦ Some plan.end | Some slot ↦ Some slot.begins.time ] ] ≡ None → ⊥
      never None last e = cc
      never (Some later) None e = cc
      never (Some later) (Some slot) e = cc

      go : (number : ℕ) → before ≡ number → (now : Option ℕ) → time_at design plan before ≡ now → AllHold (λ strobe. strobe ≤ until) (take strobes.passed plan.strobes)
      go zero e now f = at-start e
      go (suc count) e None f =
          absurd (never (slice_get (good_slots design plan) (suc count)) (slice_get (good_slots design plan) count) (sym (ap (time_at design plan) e) ∙ f))
      go (suc count) e (Some now) f =
          let since : now ≤ until = subst (λ (o : Option ℕ). IsSince o until) f led.since in
          all-by now until (take strobes.passed plan.strobes) since (are.has_passed.early now f more)

  seen-at : (until : ℕ) → strobes.until ≡ Some until → AreSeen design plan until (drop strobes.passed plan.strobes) strobes.samples.items
  seen-at until e = subst (λ (o : Option ℕ). AreSeenIf design plan o (drop strobes.passed plan.strobes) strobes.samples.items) e are.seen

  early-behind : (until : ℕ) → strobes.until ≡ Some until → before < length (good_slots design plan) → AllHold (λ strobe. strobe ≤ until) (take (passed_behind strobes) plan.strobes)
  early-behind until e more =
      let s = seen-at until e in
      let shown = map sample_of strobes.samples.items in
      let count : length (times shown) ≡ length strobes.samples.items =
      length-map shown (λ (sample : Sample). sample.time) ∙ length-map strobes.samples.items sample_of in
      let first : take (length strobes.samples.items) (drop strobes.passed plan.strobes) ≡ times shown =
      ap (take (length strobes.samples.items)) s.next_are
      ∙ take_at (times shown) (drop (length strobes.samples.items) (drop strobes.passed plan.strobes)) (length strobes.samples.items) count in
      subst (λ l. AllHold (λ strobe. strobe ≤ until) l)
      (sym (take-add strobes.passed (length strobes.samples.items) plan.strobes ∙ ap (λ l. take strobes.passed plan.strobes ++ l) first))
      (all-join (λ strobe. strobe ≤ until) (take strobes.passed plan.strobes) (times shown) (early-before until (are.leads.led until e) more) (all-times until shown s.by_then))

  later-behind : (until : ℕ) → strobes.until ≡ Some until → AllHold (λ strobe. until < strobe) (drop (passed_behind strobes) plan.strobes)
  later-behind until e =
      subst (λ l. AllHold (λ strobe. until < strobe) l) (drop-drop (length strobes.samples.items) strobes.passed plan.strobes) (seen-at until e).after

  -- where slots come behind the window it leads to the time of its last slot
  time-behind : (ending : WindowEnd) → EndsSo design plan through ending strobes.until → (time : ℕ) → time_at design plan through ≡ Some time → through < length (good_slots design plan) →
      strobes.until ≡ Some time
  time-behind IsOpen so time e more = so.1 ∙ sym so.2.time_is ∙ e
  time-behind IsThrough so time e more = (let all : length (good_slots design plan) ≡ through = so.0.all in absurd (omega (arith, more, all)))
  time-behind (IsRaced pair) so time e more = (let all : length (good_slots design plan) ≡ through = so.0.all in absurd (omega (arith, more, all)))

  pub passed-behind : HasPassed design plan through (passed_behind strobes)
  passed-behind = record {
    within = within-all;
    none = λ zero_slots. (let some : before < through = known.window.some in absurd (omega (arith, some, zero_slots)));
    early = λ time e more.
        (let some : before < through = known.window.some in early-behind time (time-behind (end_of strobes.ending) are.leads.ends time e more) (omega (arith, some, more)));
    later = λ time e more. later-behind time (time-behind (end_of strobes.ending) are.leads.ends time e more);
  }
