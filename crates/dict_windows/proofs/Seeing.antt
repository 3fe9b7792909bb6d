-- What the strobes see of the good machine, window by window (strobes by the plan; slots by IEEE 1364-2001, clause 5).
use Rattle.std.proofs.Common.{◌≡◌, ℕ, zero, suc, ◌+◌, ◌<◌, ◌≤◌, Bool, true, List, [], ◌∷◌, ◌++◌, drop, filter, length, refl, sym, ap, subst, ◌∙◌, arith, append_assoc}
use Rattle.std.specs.Prelude.{Option, None, Some, cond, is_some}
use Rattle.std.proofs.Math.Seq.{drop-append_seam}
use Rattle.std.proofs.lemmas.Bool.{lt-ltb, le-ltb}
use Rattle.std.proofs.lemmas.List.{length-append, length-map, map-append}
use Rattle.vf_base.specs.Lists.{AllHold}
use Rattle.v_design.specs.Designs.{FlatDesign, TestPlan}
use Rattle.v_design.specs.Grades.{Sample, Samples, Stop, samples_at}
use Rattle.v_design.specs.WellFormed.{IsPlan, KeepsRules}
use Rattle.copy_laws.specs.Windows.{WindowEnd, IsOpen, IsThrough, IsRaced, good_slots}
use Rattle.grade_laws.specs.Ahead.{StopsAfter}
use Rattle.grade_laws.specs.Grading.{StopsBy, good_seen, good_stop, times}
use Rattle.beside_laws.specs.GoodRuns.{GoodRunGoesOn, IsOpenAt}
use Rattle.kept_samples.specs.Kept.{good_samples, is_before, samples_kept}
use Rattle.kept_samples.specs.Plain.{sample_of}
use Rattle.kept_samples.specs.declared.kept.Sample.{Sample as SampleKept}
use Rattle.good_trace.specs.Slots.{end_of}
use Rattle.kept_shard.specs.window_strobes.Passed.{HasPassed}
use Rattle.kept_shard.specs.window_strobes.Leading.{EndsSo, LeadsTo, last_before}
use Rattle.kept_shard.specs.window_strobes.Seen.{AreSeenIf}
use Rattle.kept_shard.specs.window_strobes.Strobes.{AreStrobesOf, passed_behind}
use Rattle.kept_shard.specs.window_strobes.declared.strobes.WindowStrobes.{WindowStrobes}
use Rattle.dict_windows.specs.Good.{IsSeenBehind, raced_by}
use Rattle.dict_windows.specs.declared.good.GoodSeen.{GoodSeen}

-- Lists

all-weaker : {A : Type 0} (P Q : A → Type 0) (xs : List A) → ((x : A) → P x → Q x) → AllHold P xs → AllHold Q xs
all-weaker P Q [] f h = tt
all-weaker P Q (x ∷ xs) f h = (f x h.0, all-weaker P Q xs f h.1)

all-both : {A : Type 0} (P Q R : A → Type 0) (xs : List A) → ((x : A) → P x → Q x → R x) → AllHold P xs → AllHold Q xs → AllHold R xs
all-both P Q R [] f h k = tt
all-both P Q R (x ∷ xs) f h k = (f x h.0 k.0, all-both P Q R xs f h.1 k.1)

all-append : {A : Type 0} (P : A → Type 0) (xs ys : List A) → AllHold P xs → AllHold P ys → AllHold P (xs ++ ys)
all-append P [] ys h k = k
all-append P (x ∷ xs) ys h k = (h.0, all-append P xs ys h.1 k)

all-behind : {A : Type 0} (P : A → Type 0) (xs ys : List A) → AllHold P (xs ++ ys) → AllHold P ys
all-behind P [] ys h = h
all-behind P (x ∷ xs) ys h = all-behind P xs ys h.1

-- Stops

stops-earlier : (low time : ℕ) (stop : Option Stop) → low ≤ time → StopsAfter time stop → StopsAfter low stop
stops-earlier low time None h a = tt
stops-earlier low time (Some stop) h a = omega (arith, h, a)

-- a strobe comes after a time, if there is one
abbrev ComesPast : Option ℕ → ℕ → Type 0
ComesPast None strobe = Unit {0}
ComesPast (Some until) strobe = until < strobe

past-none : (strobes : List ℕ) → AllHold (ComesPast None) strobes
past-none [] = tt
past-none (strobe ∷ strobes) = (tt, past-none strobes)

since-last : (time strobe : ℕ) → ComesPast (last_before time) strobe → time ≤ strobe
since-last zero strobe h = omega arith
since-last (suc time) strobe h = omega (arith, h)

-- Windows

module _ (design : FlatDesign) (plan : TestPlan) (before through : ℕ) where
  not-all : (time : ℕ) → IsOpenAt design plan through time → length (good_slots design plan) ≡ through → ⊥
  not-all time at all = let more : through < length (good_slots design plan) = at.more in omega (arith, more, all)

  -- behind the last window the strobes that are left come not before the good machine's stop
  whole-by : (ending : WindowEnd) (until : Option ℕ) (left : List ℕ) → EndsSo design plan through ending until → AllHold (λ strobe. strobe ≤ plan.end) left → AllHold (ComesPast until) left →
      length (good_slots design plan) ≡ through → AllHold (λ strobe. StopsBy strobe (good_stop design plan)) left × (raced_by ending ≡ is_some (good_stop design plan))
  whole-by IsOpen until left ends in_time past all = absurd (not-all ends.0 ends.2 all)
  whole-by IsThrough until left ends in_time past all =
      let past_end : AllHold (ComesPast (Some plan.end)) left = subst (λ (u : Option ℕ). AllHold (ComesPast u) left) ends.2 past in (
        all-both (λ strobe. strobe ≤ plan.end) (ComesPast (Some plan.end)) (λ strobe. StopsBy strobe (good_stop design plan)) left
            (λ strobe a b. let x : strobe ≤ plan.end = a in let y : plan.end < strobe = b in absurd (omega (arith, x, y))) in_time past_end,
        sym (ap is_some ends.1),
      )
  whole-by (IsRaced pair) until left ends in_time past all =
      let past_last : AllHold (ComesPast (last_before pair.time)) left = subst (λ (u : Option ℕ). AllHold (ComesPast u) left) ends.2 past in (
        subst (λ (stop : Option Stop). AllHold (λ strobe. StopsBy strobe stop) left) (sym ends.1)
            (all-weaker (ComesPast (last_before pair.time)) (λ strobe. pair.time ≤ strobe) left (λ strobe h. since-last pair.time strobe h) past_last),
        sym (ap is_some ends.1),
      )

  -- of some strobes, which are those behind earlier windows, these samples are those of a window
  record ShowsMore (strobes : List ℕ) (samples : List SampleKept) (raced : Bool) : Type 0 where
    left : List ℕ
    strobes_are : strobes ≡ times (samples_kept samples) ++ left
    bits : AllHold (λ (sample : Sample). sample.bits ≡ good_seen design plan sample.time) (samples_kept samples)
    before_stop : AllHold (λ (sample : Sample). StopsAfter sample.time (good_stop design plan)) (samples_kept samples)
    whole : length (good_slots design plan) ≡ through → AllHold (λ strobe. StopsBy strobe (good_stop design plan)) left × (raced ≡ is_some (good_stop design plan))

  shows-more : (ending : WindowEnd) (until : Option ℕ) (strobes : List ℕ) (samples : List SampleKept) → AllHold (λ strobe. strobe ≤ plan.end) strobes →
      AreSeenIf design plan until strobes samples → LeadsTo design plan before through ending until → ShowsMore strobes samples (raced_by ending)
  shows-more ending None strobes samples in_time seen leads =
      subst (λ (l : List SampleKept). ShowsMore strobes l (raced_by ending)) (sym seen)
      (record { left = strobes; strobes_are = refl; bits = tt; before_stop = tt; whole = whole-by ending None strobes leads.ends in_time (past-none strobes) })
  shows-more ending (Some until) strobes samples in_time seen leads = record {
    left = drop (length samples) strobes;
    strobes_are = seen.next_are;
    bits = seen.bits;
    before_stop =
        all-weaker (λ (sample : Sample). sample.time ≤ until) (λ (sample : Sample). StopsAfter sample.time (good_stop design plan)) (samples_kept samples)
        (λ sample h. stops-earlier sample.time until (good_stop design plan) h (leads.led until refl).goes_on) seen.by_then;
    whole =
        whole-by ending (Some until) (drop (length samples) strobes) leads.ends
        (all-behind (λ strobe. strobe ≤ plan.end) (times (samples_kept samples)) (drop (length samples) strobes) (subst (AllHold (λ strobe. strobe ≤ plan.end)) seen.next_are in_time)) seen.after;
  }

-- The samples so far

module _ (design : FlatDesign) (plan : TestPlan) where
  -- before the first window
  pub see-nothing : GoodRunGoesOn → KeepsRules design → (seen : GoodSeen) → seen.samples.items ≡ [] → IsSeenBehind design plan 0 seen
  see-nothing law rules seen none = record {
    passed = subst (HasPassed design plan 0) (sym (ap length none)) (record { within = omega arith; none = λ e. refl; early = λ time at more. tt; later = λ time at more. cc });
    left = plan.strobes;
    strobes = ap (λ (l : List SampleKept). times (samples_kept l) ++ plan.strobes) (sym none);
    bits = subst (λ (l : List SampleKept). AllHold (λ (sample : Sample). sample.bits ≡ good_seen design plan sample.time) (samples_kept l)) (sym none) tt;
    before = subst (λ (l : List SampleKept). AllHold (λ (sample : Sample). StopsAfter sample.time (good_stop design plan)) (samples_kept l)) (sym none) tt;
    whole = λ all. let some : 0 < length (good_slots design plan) = law.some design plan rules in absurd (omega (arith, some, all));
  }

  -- a window more
  pub see-more : (before through : ℕ) (seen new : GoodSeen) (strobes : WindowStrobes) → IsPlan plan → IsSeenBehind design plan before seen → AreStrobesOf design plan before through strobes →
      strobes.passed ≡ length seen.samples.items → HasPassed design plan through (passed_behind strobes) → new.samples.items ≡ seen.samples.items ++ strobes.samples.items →
      new.raced ≡ raced_by (end_of strobes.ending) → IsSeenBehind design plan through new
  see-more before through seen new strobes rules old are passed behind items raced = record {
    passed = subst (HasPassed design plan through) (ap (λ n. n + length ys) passed ∙ sym (length-append xs ys) ∙ sym (ap length items)) behind;
    left = more.left;
    strobes =
        old.strobes ∙ ap (λ l. times (samples_kept xs) ++ l) more.strobes_are ∙ sym (append_assoc (times (samples_kept xs)) (times (samples_kept ys)) more.left)
        ∙ ap (λ l. l ++ more.left) (sym times-joined) ∙ ap (λ (l : List SampleKept). times (samples_kept l) ++ more.left) (sym items);
    bits =
        all-items (λ (sample : Sample). sample.bits ≡ good_seen design plan sample.time) old.bits more.bits;
    before = all-items (λ (sample : Sample). StopsAfter sample.time (good_stop design plan)) old.before more.before_stop;
    whole = λ all. ((more.whole all).0, raced ∙ (more.whole all).1);
  }
    where
      xs : List SampleKept
      xs = seen.samples.items

      ys : List SampleKept
      ys = strobes.samples.items

      size : length (times (samples_kept xs)) ≡ length xs
      size = length-map (samples_kept xs) (λ (sample : Sample). sample.time) ∙ length-map xs sample_of

      left-is : drop strobes.passed plan.strobes ≡ old.left
      left-is = ap (λ n. drop n plan.strobes) (passed ∙ sym size) ∙ ap (drop (length (times (samples_kept xs)))) old.strobes ∙ drop-append_seam (times (samples_kept xs)) old.left

      more : ShowsMore design plan before through old.left ys (raced_by (end_of strobes.ending))
      more =
          shows-more design plan before through (end_of strobes.ending) strobes.until old.left ys
          (all-behind (λ strobe. strobe ≤ plan.end) (times (samples_kept xs)) old.left (subst (AllHold (λ strobe. strobe ≤ plan.end)) old.strobes rules.in_time))
          (subst (λ (l : List ℕ). AreSeenIf design plan strobes.until l ys) left-is are.seen) are.leads

      times-joined : times (samples_kept (xs ++ ys)) ≡ times (samples_kept xs) ++ times (samples_kept ys)
      times-joined = ap times (map-append sample_of xs ys) ∙ map-append (λ (sample : Sample). sample.time) (samples_kept xs) (samples_kept ys)

      all-items : (P : Sample → Type 0) → AllHold P (samples_kept xs) → AllHold P (samples_kept ys) → AllHold P (samples_kept new.samples.items)
      all-items P h k =
          subst (λ (l : List SampleKept). AllHold P (samples_kept l)) (sym items)
          (subst (AllHold P) (sym (map-append sample_of xs ys)) (all-append P (samples_kept xs) (samples_kept ys) h k))

-- All samples

before-stop : (stop : Option Stop) (time : ℕ) → StopsAfter time stop → is_before stop time ≡ true
before-stop None time h = refl
before-stop (Some stop) time h = lt-ltb time stop.time h

none-before : (stop : Option Stop) (last : List ℕ) → AllHold (λ strobe. StopsBy strobe stop) last → filter (is_before stop) last ≡ []
none-before stop [] h = refl
none-before None (x ∷ last) h = absurd h.0
none-before (Some stop) (x ∷ last) h =
    ap (λ b. cond b (x ∷ filter (is_before (Some stop)) last) (filter (is_before (Some stop)) last)) (le-ltb x stop.time h.0) ∙ none-before (Some stop) last h.1

-- the strobes of samples that come before a stop, where the others don't
all-before : (stop : Option Stop) (shown : List Sample) (last : List ℕ) → AllHold (λ (sample : Sample). StopsAfter sample.time stop) shown → AllHold (λ strobe. StopsBy strobe stop) last →
    filter (is_before stop) (times shown ++ last) ≡ times shown
all-before stop [] last h k = none-before stop last k
all-before stop (sample ∷ shown) last h k =
    ap (λ b. cond b (sample.time ∷ filter (is_before stop) (times shown ++ last)) (filter (is_before stop) (times shown ++ last))) (before-stop stop sample.time h.0)
    ∙ ap (λ xs. sample.time ∷ xs) (all-before stop shown last h.1 k)

shown-so : (seen : Samples) (shown : List Sample) → AllHold (λ (sample : Sample). sample.bits ≡ seen sample.time) shown → samples_at seen (times shown) ≡ shown
shown-so seen [] h = refl
shown-so seen (sample ∷ shown) h = λ i. record { time = sample.time; bits = sym h.0 i } ∷ shown-so seen shown h.1 i

-- behind all slots they are the good samples
pub seen-all : (design : FlatDesign) (plan : TestPlan) (seen : GoodSeen) → IsSeenBehind design plan (length (good_slots design plan)) seen → samples_kept seen.samples.items ≡ good_samples design plan
seen-all design plan seen h =
    sym (
    ap (λ l. samples_at (good_seen design plan) (filter (is_before (good_stop design plan)) l)) h.strobes
    ∙ ap (samples_at (good_seen design plan)) (all-before (good_stop design plan) (samples_kept seen.samples.items) h.left h.before (h.whole refl).0)
    ∙ shown-so (good_seen design plan) (samples_kept seen.samples.items) h.bits
    )
