-- The samples of a slot (strobes by the plan; slots by IEEE 1364-2001, clause 5).
use Rattle.std.proofs.Common.{◌≡◌, ℕ, suc, ◌+◌, ◌-◌, ◌<◌, ◌≤◌, List, ◌∷◌, ◌++◌, map, length, take, drop, append_assoc, refl, sym, ap, subst, ◌∙◌, arith, inl, inr, length-append, length-drop, []}
use Rattle.std.specs.Prelude.{Option, Some, slice_get}
use Rattle.std.proofs.lemmas.Bool.{cases_lt}
use Rattle.std.proofs.lemmas.List.{drop_at, length-map}
use Rattle.four_value.specs.declared.logic.Bit.{Bit}
use Rattle.vf_base.specs.Base.{watched_bit}
use Rattle.vf_base.specs.Lists.{AllHold}
use Rattle.vf_base.specs.declared.ids.WatchBit.{WatchBit}
use Rattle.v_design.specs.Designs.{FlatDesign, TestPlan, good_machine}
use Rattle.v_design.specs.Grades.{Sample, samples}
use Rattle.v_design.specs.Runs.{FirstSlot}
use Rattle.v_design.specs.States.{State}
use Rattle.v_design.specs.WellFormed.{KeepsRules}
use Rattle.kept_samples.specs.Plain.{sample_of}
use Rattle.kept_samples.specs.declared.kept.Sample.{Sample as Kept}
use Rattle.between_slots.specs.Between.{state_through}
use Rattle.copy_laws.specs.Windows.{IsOpen, good_slots, time_at}
use Rattle.grade_laws.specs.Ahead.{StopsAfter}
use Rattle.grade_laws.specs.Grading.{good_seen, good_stop, times}
use Rattle.beside_laws.specs.GoodRuns.{GoodRunGoesOn}
use Rattle.beside_laws.specs.Stands.{IsSince, RunsStand}
use Rattle.good_trace.specs.Slots.{end_of}
use Rattle.lockstep_shards.specs.window_strobes.Leading.{EndsSo, IsLed}
use Rattle.lockstep_shards.specs.window_strobes.Passed.{HasPassed}
use Rattle.lockstep_shards.specs.window_strobes.Seen.{AreSeen, AreSeenIf}
use Rattle.lockstep_shards.specs.window_strobes.Strobes.{AreStrobesOf, passed_behind}
use Rattle.lockstep_shards.specs.window_strobes.declared.strobes.WindowStrobes.{WindowStrobes}
use Rattle.lockstep_shards.proofs.Laws.{fine-there, last, last-there, next-later, open-at, some-is, stops-later, time-there}
use Rattle.slot_strobes.specs.Counts.{CountsBy, samples_of}
use Rattle.slot_strobes.proofs.Counted.{passed-behind}
use Rattle.slot_strobes.proofs.Lists.{at-drop, at-take, drop-between, holds-drop, holds-from}

-- Samples with the same bits

times-of : (bits : List Bit) (strobes : List ℕ) → times (samples_of bits strobes) ≡ strobes
times-of bits [] = refl
times-of bits (strobe ∷ strobes) = ap (λ l. strobe ∷ l) (times-of bits strobes)

times-join : (one other : List Sample) → times (one ++ other) ≡ times one ++ times other
times-join [] other = refl
times-join (sample ∷ one) other = ap (λ l. sample.time ∷ l) (times-join one other)

all-of : (P : List Bit → ℕ → Type 0) (bits : List Bit) (strobes : List ℕ) → AllHold (P bits) strobes → AllHold (λ (sample : Sample). P sample.bits sample.time) (samples_of bits strobes)
all-of P bits [] all = tt
all-of P bits (strobe ∷ strobes) all = (all.0, all-of P bits strobes all.1)

all-join : (P : Sample → Type 0) (one other : List Sample) → AllHold P one → AllHold P other → AllHold P (one ++ other)
all-join P [] other all more = more
all-join P (sample ∷ one) other all more = (all.0, all-join P one other all.1 more)

-- one more
pub push-more : (bits : List Bit) (kept : List Kept) (old : List Sample) (strobes : List ℕ) (strobe : ℕ) (sample : Kept) → map sample_of kept ≡ old ++ samples_of bits strobes →
    sample_of sample ≡ record { time = strobe; bits = bits } → map sample_of (kept ++ sample ∷ []) ≡ old ++ samples_of bits (strobes ++ strobe ∷ [])
push-more bits kept old strobes strobe sample is same =
    join kept
    ∙ ap (λ l. l ++ sample_of sample ∷ []) is
    ∙ append_assoc old (samples_of bits strobes) (sample_of sample ∷ [])
    ∙ ap (λ l. old ++ l) (ap (λ x. samples_of bits strobes ++ x ∷ []) same ∙ sym (of strobes))
  where
    join : (kept : List Kept) → map sample_of (kept ++ sample ∷ []) ≡ map sample_of kept ++ sample_of sample ∷ []
    join [] = refl
    join (first ∷ kept) = ap (λ l. sample_of first ∷ l) (join kept)

    of : (strobes : List ℕ) → samples_of bits (strobes ++ strobe ∷ []) ≡ samples_of bits strobes ++ record { time = strobe; bits = bits } ∷ []
    of [] = refl
    of (first ∷ strobes) = ap (λ l. record { time = first; bits = bits } ∷ l) (of strobes)

-- behind none
pub from-none : (old : List Kept) (rest now : List Sample) → old ≡ [] → now ≡ map sample_of old ++ rest → now ≡ rest
from-none old rest now none is = is ∙ ap (λ l. map sample_of l ++ rest) none

-- The strobes of a slot

module _ (good : GoodRunGoesOn) (runs : RunsStand) (design : FlatDesign) (plan : TestPlan) (rules : KeepsRules design) (gone : ℕ) (some : 0 < gone) (more : suc gone < length (good_slots design plan))
    (begins : ℕ) (begins_is : (one : FirstSlot) → slice_get (good_slots design plan) gone ≡ Some one → begins ≡ one.begins.time) (passed : ℕ) (has : HasPassed design plan gone passed) where
  slot : FirstSlot
  slot = last good design plan rules gone more

  slot-there : slice_get (good_slots design plan) gone ≡ Some slot
  unfolding slot
  slot-there = last-there good design plan rules gone more

  same : begins ≡ slot.begins.time
  same = begins_is slot slot-there

  abbrev number : ℕ
  number = gone - 1

  gone_is : gone ≡ suc number
  gone_is = omega (arith, some)

  pub before : suc number < length (good_slots design plan)
  before = omega (arith, gone_is, more)

  abbrev time : ℕ
  time = (last good design plan rules number before).begins.time

  time_is : time_at design plan gone ≡ Some time
  time_is = ap (time_at design plan) gone_is ∙ time-there good design plan rules number before

  next_is : slice_get (good_slots design plan) (suc number) ≡ Some slot
  next_is = ap (slice_get (good_slots design plan)) (sym gone_is) ∙ slot-there

  pub starts-later : time < begins
  starts-later = (let later = next-later good design plan rules number before slot next_is in omega (arith, later, same))

  pub starts : 0 < begins
  starts = omega (arith, starts-later)

  there : time_at design plan (suc gone) ≡ Some begins
  unfolding slot
  there = time-there good design plan rules gone more ∙ ap (λ t. Some t) (sym same)

  module _ (early count : ℕ) (first : CountsBy plan.strobes passed early (begins - 1)) (rest : CountsBy plan.strobes early count begins) where
    abbrev ones : List ℕ
    ones = take (early - passed) (drop passed plan.strobes)

    abbrev others : List ℕ
    others = take (count - early) (drop early plan.strobes)

    abbrev one-bits : List Bit
    one-bits = samples plan.watched (state_through design plan gone).values

    abbrev other-bits : List Bit
    other-bits = samples plan.watched (state_through design plan (suc gone)).values

    abbrev pub shown : List Sample
    shown = samples_of one-bits ones ++ samples_of other-bits others

    seen-before : (place strobe : ℕ) → passed ≤ place → place < early → slice_get plan.strobes place ≡ Some strobe → one-bits ≡ good_seen design plan strobe
    seen-before place strobe low high here =
        let after : time < strobe = at-drop (λ s. time < s) plan.strobes passed place strobe (has.later time time_is (omega (arith, more))) low here in
        let by : strobe ≤ begins - 1 = first.by place strobe low high here in
        sym
        (runs.sees (good_machine design) plan.watched plan.end strobe rules
        ∙ ap (λ (s : State). samples plan.watched s.values)
        (good.stands design plan number strobe (last good design plan rules number before) rules (last-there good design plan rules number before) (fine-there good design plan rules number before)
        (omega (arith, after))
        (λ other is. (let one : slot.begins.time ≡ other.begins.time = ap (λ (s : FirstSlot). s.begins.time) (some-is slot other (sym next_is ∙ is)) in
        omega (arith, by, starts, same, one)))
        ∙ ap (state_through design plan) (sym gone_is)))

    seen-then : (place strobe : ℕ) → early ≤ place → place < count → slice_get plan.strobes place ≡ Some strobe → other-bits ≡ good_seen design plan strobe
    unfolding slot
    seen-then place strobe low high here =
        let after : begins - 1 < strobe = first.later place strobe low here in
        let by : strobe ≤ begins = rest.by place strobe low high here in
        sym
        (runs.sees (good_machine design) plan.watched plan.end strobe rules
        ∙ ap (λ (s : State). samples plan.watched s.values)
        (good.stands design plan gone strobe slot rules slot-there (fine-there good design plan rules gone more) (omega (arith, after, starts, same))
        (λ other is. (let later = next-later good design plan rules gone more other is in omega (arith, by, same, later)))))

    all-seen : AllHold (λ (sample : Sample). sample.bits ≡ good_seen design plan sample.time) shown
    all-seen =
        all-join (λ (sample : Sample). sample.bits ≡ good_seen design plan sample.time) (samples_of one-bits ones) (samples_of other-bits others)
        (all-of (λ bits strobe. bits ≡ good_seen design plan strobe) one-bits ones
        (holds-from (λ strobe. one-bits ≡ good_seen design plan strobe) plan.strobes passed (early - passed)
        (λ place strobe low high here. seen-before place strobe low (omega (arith, high, first.since)) here)))
        (all-of (λ bits strobe. bits ≡ good_seen design plan strobe) other-bits others
        (holds-from (λ strobe. other-bits ≡ good_seen design plan strobe) plan.strobes early (count - early)
        (λ place strobe low high here. seen-then place strobe low (omega (arith, high, rest.since)) here)))

    all-by : AllHold (λ (sample : Sample). sample.time ≤ begins) shown
    all-by =
        all-join (λ (sample : Sample). sample.time ≤ begins) (samples_of one-bits ones) (samples_of other-bits others)
        (all-of (λ bits strobe. strobe ≤ begins) one-bits ones
        (holds-from (λ strobe. strobe ≤ begins) plan.strobes passed (early - passed)
        (λ place strobe low high here. (let by : strobe ≤ begins - 1 = first.by place strobe low (omega (arith, high, first.since)) here in omega (arith, by)))))
        (all-of (λ bits strobe. strobe ≤ begins) other-bits others
        (holds-from (λ strobe. strobe ≤ begins) plan.strobes early (count - early)
        (λ place strobe low high here. rest.by place strobe low (omega (arith, high, rest.since)) here)))

    shown-times : times shown ≡ ones ++ others
    shown-times =
        times-join (samples_of one-bits ones) (samples_of other-bits others)
        ∙ ap (λ l. l ++ times (samples_of other-bits others)) (times-of one-bits ones)
        ∙ ap (λ l. ones ++ l) (times-of other-bits others)

    parts : drop passed plan.strobes ≡ times shown ++ drop count plan.strobes
    parts =
        drop-between plan.strobes passed early first.since
        ∙ ap (λ l. ones ++ l) (drop-between plan.strobes early count rest.since)
        ∙ sym (append_assoc ones others (drop count plan.strobes))
        ∙ ap (λ l. l ++ drop count plan.strobes) (sym shown-times)

    -- these are its samples
    module _ (kept : List Kept) (kept_is : map sample_of kept ≡ shown) where
      size : length (times shown) ≡ length kept
      size = length-map shown (λ (sample : Sample). sample.time) ∙ sym (ap length kept_is) ∙ length-map kept sample_of

      behind : drop (length kept) (drop passed plan.strobes) ≡ drop count plan.strobes
      behind = ap (drop (length kept)) parts ∙ drop_at (times shown) (drop count plan.strobes) (length kept) size

      are-seen : AreSeen design plan begins (drop passed plan.strobes) kept
      are-seen = record {
        next_are = parts ∙ ap (λ l. l ++ drop count plan.strobes) (sym (ap times kept_is)) ∙ ap (λ l. times (map sample_of kept) ++ l) (sym behind);
        bits = subst (AllHold (λ (sample : Sample). sample.bits ≡ good_seen design plan sample.time)) (sym kept_is) all-seen;
        by_then = subst (AllHold (λ (sample : Sample). sample.time ≤ begins)) (sym kept_is) all-by;
        after = subst (AllHold (λ strobe. begins < strobe)) (sym behind) (holds-drop (λ strobe. begins < strobe) plan.strobes count rest.later);
      }

      led : IsLed design plan gone (suc gone) begins
      unfolding slot
      led = record {
        since = subst (λ (o : Option ℕ). IsSince o begins) (sym time_is) (let early : time < begins = starts-later in omega (arith, early));
        goes_on = subst (λ t. StopsAfter t (good_stop design plan)) (sym same) (stops-later good design plan rules gone more);
        within = (let by : slot.begins.time ≤ plan.end = good.within design plan gone slot rules slot-there in omega (arith, by, same));
        at_end = λ other begun low.
            (let since : slot.begins.time ≤ other = begun gone slot refl slot-there in
            good.stands design plan gone other slot rules slot-there (fine-there good design plan rules gone more) since
            (λ next is. (let later = next-later good design plan rules gone more next is in omega (arith, low, same, later))));
      }

      -- so a slot's strobes are those of a window that has this slot alone
      pub are-strobes : (made : WindowStrobes) → made.passed ≡ passed → made.samples.items ≡ kept → made.until ≡ Some begins → end_of made.ending ≡ IsOpen →
          AreStrobesOf design plan gone (suc gone) made
      are-strobes made passed_is samples_are until ending = record {
        has_passed = subst (HasPassed design plan gone) (sym passed_is) has;
        seen =
            subst (λ (o : Option ℕ). AreSeenIf design plan o (drop made.passed plan.strobes) made.samples.items) (sym until)
            (subst (λ n. AreSeen design plan begins (drop n plan.strobes) made.samples.items) (sym passed_is)
            (subst (AreSeen design plan begins (drop passed plan.strobes)) (sym samples_are) are-seen));
        leads = record {
          led = λ time is. subst (IsLed design plan gone (suc gone)) (some-is begins time (sym until ∙ is)) led;
          ends = subst (λ e. EndsSo design plan (suc gone) e made.until) (sym ending) (begins, until, open-at good design plan rules gone more begins there);
        };
      }

      pub passed-then : (made : WindowStrobes) → made.passed ≡ passed → made.samples.items ≡ kept → HasPassed design plan (suc gone) (passed_behind made)
      passed-then made passed_is samples_are =
          let long : length (ones ++ others) ≡ length kept = ap length (sym shown-times) ∙ size in
          let all : length (drop passed plan.strobes) ≡ length (times shown) + length (drop count plan.strobes) = ap length parts ∙ length-append (times shown) (drop count plan.strobes) in
          let is : count ≡ passed_behind made =
          (let own : length made.samples.items ≡ length kept = ap length samples_are in
          let total = length-drop passed plan.strobes in
          let left = length-drop count plan.strobes in
          omega (arith, own, passed_is, all, size, total, left, has.within, rest.within)) in
          subst (HasPassed design plan (suc gone)) is
          (passed-behind design plan gone begins early count there
          (λ place strobe low here. strobe-early place strobe low here) rest)
        where
          strobe-early : (place strobe : ℕ) → place < early → slice_get plan.strobes place ≡ Some strobe → strobe ≤ begins
          strobe-early place strobe low here = elim (cases_lt place passed) [
            | inl less ↦
                let by : strobe ≤ time = at-take (λ s. s ≤ time) plan.strobes passed place strobe (has.early time time_is (omega (arith, more))) less here in
                omega (arith, by, starts-later)
            | inr since ↦ let by : strobe ≤ begins - 1 = first.by place strobe since low here in omega (arith, by)
          ]

-- what is pushed are these samples
pub kept-are : (design : FlatDesign) (plan : TestPlan) (gone then : ℕ) → suc gone ≡ then → (passed early count : ℕ) (watched : List WatchBit) (read : List ℕ) →
    plan.watched ≡ map watched_bit watched → plan.strobes ≡ read → (one two : List Kept) →
    map sample_of one ≡ samples_of (samples (map watched_bit watched) (state_through design plan gone).values) (take (early - passed) (drop passed read)) →
    map sample_of two ≡ map sample_of one ++ samples_of (samples (map watched_bit watched) (state_through design plan then).values) (take (count - early) (drop early read)) →
    map sample_of two
    ≡ samples_of (samples plan.watched (state_through design plan gone).values) (take (early - passed) (drop passed plan.strobes))
    ++ samples_of (samples plan.watched (state_through design plan (suc gone)).values) (take (count - early) (drop early plan.strobes))
kept-are design plan gone then next passed early count watched read watched_is read_is one two first rest =
    rest
    ∙ ap (λ l. l ++ samples_of (samples (map watched_bit watched) (state_through design plan then).values) (take (count - early) (drop early read))) first
    ∙ (λ i. samples_of (samples (sym watched_is i) (state_through design plan gone).values) (take (early - passed) (drop passed (sym read_is i)))
    ++ samples_of (samples (sym watched_is i) (state_through design plan (sym next i)).values) (take (count - early) (drop early (sym read_is i))))
