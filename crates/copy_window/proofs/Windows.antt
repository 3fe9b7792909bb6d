-- The strobes and samples of a window (strobes by the plan; slots by IEEE 1364-2001, clause 5).
use Rattle.std.proofs.Common.{◌≡◌, ℕ, ◌+◌, ◌<◌, ◌≤◌, ◌^◌, List, [], ◌∷◌, ◌++◌, map, take, drop, length, refl, sym, ap, subst, ◌∙◌, arith}
use Rattle.std.specs.Prelude.{Option, Some, None}
use Rattle.std.proofs.lemmas.List.{append_cancel_right, drop-drop, take-append-drop}
use Rattle.vf_base.specs.Base.{WatchedBit}
use Rattle.vf_base.specs.Lists.{AllHold}
use Rattle.v_design.specs.Designs.{FlatDesign, TestPlan}
use Rattle.v_design.specs.Grades.{Sample, Stop}
use Rattle.v_design.specs.WellFormed.{IsPlan}
use Rattle.kept_samples.specs.Plain.{sample_of}
use Rattle.kept_samples.specs.declared.kept.Sample.{Sample as Kept}
use Rattle.copy_laws.specs.Windows.{time_at}
use Rattle.copy_room.specs.machine.declared.parts.Machine.{Machine as Simulated}
use Rattle.grade_laws.specs.Ahead.{StopsAfter}
use Rattle.grade_laws.specs.Grading.{good_seen, good_stop, times}
use Rattle.fault_strobes.specs.Said.{Said}
use Rattle.window_grade.specs.Grading.{CanGrade}
use Rattle.window_grade.specs.declared.beside.RunBeside.{RunBeside}
use Rattle.window_strobes.specs.Leading.{IsLed}
use Rattle.window_strobes.specs.Seen.{AreSeen, AreSeenIf}
use Rattle.window_strobes.specs.Strobes.{AreStrobesOf, strobes_left}
use Rattle.window_strobes.specs.declared.strobes.WindowStrobes.{WindowStrobes}
use Rattle.copy_window.specs.Passing.{CanGradeWindow}

-- what comes before the strobes from a number on are so many strobes
pub passed-take : (strobes passed : List ℕ) (count : ℕ) → strobes ≡ passed ++ drop count strobes → passed ≡ take count strobes
passed-take strobes passed count e = append_cancel_right passed (take count strobes) (drop count strobes) (sym e ∙ sym (take-append-drop count strobes))

stops-earlier : (low time : ℕ) (stop : Option Stop) → low ≤ time → StopsAfter time stop → StopsAfter low stop
stops-earlier low time None h a = tt
stops-earlier low time (Some stop) h a = omega (arith, h, a)

all-stop-later : (until : ℕ) (stop : Option Stop) (samples : List Sample) → AllHold (λ (sample : Sample). sample.time ≤ until) samples → StopsAfter until stop →
    AllHold (λ (sample : Sample). StopsAfter sample.time stop) samples
all-stop-later until stop [] all after = tt
all-stop-later until stop (sample ∷ samples) all after = (stops-earlier sample.time until stop all.0 after, all-stop-later until stop samples all.1 after)

module _ (design : FlatDesign) (plan : TestPlan) (before through : ℕ) (strobes : WindowStrobes) (are : AreStrobesOf design plan before through strobes) where
  pub seen-at : (until : ℕ) → strobes.until ≡ Some until → AreSeen design plan until (drop strobes.passed plan.strobes) strobes.samples.items
  seen-at until e = subst (λ (o : Option ℕ). AreSeenIf design plan o (drop strobes.passed plan.strobes) strobes.samples.items) e are.seen

  -- the strobes that are next are those of the samples, and then those that are left
  pub next-are : drop strobes.passed plan.strobes ≡ times (map sample_of strobes.samples.items) ++ strobes_left plan strobes
  next-are = go strobes.until are.seen
    where
      none : (samples : List Kept) → samples ≡ [] → drop strobes.passed plan.strobes ≡ times (map sample_of samples) ++ drop (strobes.passed + length samples) plan.strobes
      none [] e = (let same : strobes.passed ≡ strobes.passed + 0 = omega arith in ap (λ n. drop n plan.strobes) same)
      none (sample ∷ samples) e = cc

      go : (until : Option ℕ) → AreSeenIf design plan until (drop strobes.passed plan.strobes) strobes.samples.items →
          drop strobes.passed plan.strobes ≡ times (map sample_of strobes.samples.items) ++ strobes_left plan strobes
      go None e = none strobes.samples.items e
      go (Some until) s =
          s.next_are ∙ ap (λ l. times (map sample_of strobes.samples.items) ++ l) (drop-drop (length strobes.samples.items) strobes.passed plan.strobes)

  pub bits-are : AllHold (λ (sample : Sample). sample.bits ≡ good_seen design plan sample.time) (map sample_of strobes.samples.items)
  bits-are = go strobes.until are.seen
    where
      none : (samples : List Kept) → samples ≡ [] → AllHold (λ (sample : Sample). sample.bits ≡ good_seen design plan sample.time) (map sample_of samples)
      none [] e = tt
      none (sample ∷ samples) e = cc

      go : (until : Option ℕ) → AreSeenIf design plan until (drop strobes.passed plan.strobes) strobes.samples.items →
          AllHold (λ (sample : Sample). sample.bits ≡ good_seen design plan sample.time) (map sample_of strobes.samples.items)
      go None e = none strobes.samples.items e
      go (Some until) s = s.bits

  pub stop-after : AllHold (λ (sample : Sample). StopsAfter sample.time (good_stop design plan)) (map sample_of strobes.samples.items)
  stop-after = go strobes.until refl are.seen
    where
      none : (samples : List Kept) → samples ≡ [] → AllHold (λ (sample : Sample). StopsAfter sample.time (good_stop design plan)) (map sample_of samples)
      none [] e = tt
      none (sample ∷ samples) e = cc

      go : (until : Option ℕ) → strobes.until ≡ until → AreSeenIf design plan until (drop strobes.passed plan.strobes) strobes.samples.items →
          AllHold (λ (sample : Sample). StopsAfter sample.time (good_stop design plan)) (map sample_of strobes.samples.items)
      go None u e = none strobes.samples.items e
      go (Some until) u s = all-stop-later until (good_stop design plan) (map sample_of strobes.samples.items) s.by_then (are.leads.led until u).goes_on

  -- a time to which a plan's window leads is early
  pub early-enough : IsPlan plan → (until : ℕ) → IsLed design plan before through until → until ≤ 2 ^ 63
  early-enough rules until led =
      let end : plan.end ≤ 1000000000000 = rules.end in
      let within : until ≤ plan.end = led.within in
      omega (arith, end, within)

  -- the strobes that are left come after it
  pub left-after : (until : ℕ) → strobes.until ≡ Some until → AllHold (λ strobe. until < strobe) (strobes_left plan strobes)
  left-after until e = subst (λ l. AllHold (λ strobe. until < strobe) l) (drop-drop (length strobes.samples.items) strobes.passed plan.strobes) (seen-at until e).after

-- a grading may go to the time to which the window leads
abbrev pub can-grade : (watched : List WatchedBit) (strobes : WindowStrobes) (beside : RunBeside) (m : Simulated) (said : Said) (until : ℕ) (of : CanGradeWindow watched strobes beside m said) →
    strobes.until ≡ Some until → CanGrade watched strobes.samples.items until beside m said
can-grade watched strobes beside m said until of e = record {
  design = of.design;
  plan = of.plan;
  fault = of.fault;
  now = time_at of.design of.plan of.before;
  later = strobes_left of.plan strobes;
  watched_are = of.watched_are;
  at = of.at;
  known = of.known until e;
  since = (of.are.leads.led until e).since;
  by_then = (seen-at of.design of.plan of.before of.through strobes of.are until e).by_then;
  after = left-after of.design of.plan of.before of.through strobes of.are until e;
  goes_on = (of.are.leads.led until e).goes_on;
  within = (of.are.leads.led until e).within;
  early = early-enough of.design of.plan of.before of.through strobes of.are of.at.rules until (of.are.leads.led until e);
}
