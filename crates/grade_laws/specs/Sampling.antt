-- The good machine's run on its way from strobe to strobe: what is kept of it (strobes and slots by IEEE 1364-2001, clause 5).
use Rattle.std.proofs.Common.{◌≡◌, ℕ, ◌<◌, ◌≤◌, List, [], ◌∷◌, ◌++◌, refl, sym, ap, subst, ◌∙◌, arith, append_assoc, append-nil}
use Rattle.std.specs.Prelude.{Option, Some, None, map}
use Rattle.four_value.specs.declared.logic.Bit.{Bit}
use Rattle.four_value.specs.Values.{LogicValue}
use Rattle.vf_base.specs.Lists.{AllHold}
use Rattle.v_design.specs.Designs.{FlatDesign, TestPlan, good_machine}
use Rattle.v_design.specs.Grades.{samples, Stop, Sample}
use Rattle.v_design.specs.WellFormed.{IsAscending, IsPlan}
use Rattle.grade_laws.specs.Ahead.{StopsAfter, Shows}
use Rattle.grade_laws.specs.Strobes.{ascending-later, all-since}
use Rattle.grade_laws.specs.Grading.{good_seen, good_stop, StopsBy, StopsWithin, times, IsGoodRun}

-- the good machine went on to a time without a stop, these samples of it were kept, and these strobes are next
pub record IsSampling (design : FlatDesign) (plan : TestPlan) (now : ℕ) (shown : List Sample) (next : List ℕ) : Type 0 where
  pub strobes : plan.strobes ≡ times shown ++ next
  pub ascending : IsAscending plan.strobes
  pub in_time : AllHold (λ strobe. strobe ≤ plan.end) next
  pub bits : AllHold (λ (sample : Sample). sample.bits ≡ good_seen design plan sample.time) shown
  pub before : AllHold (λ (sample : Sample). StopsAfter sample.time (good_stop design plan)) shown
  pub since : AllHold (λ strobe. now ≤ strobe) next
  pub within : now ≤ plan.end

-- Lists

since-start : (strobes : List ℕ) → AllHold (λ strobe. 0 ≤ strobe) strobes
since-start [] = tt
since-start (strobe ∷ strobes) = (omega arith, since-start strobes)

times-more : (shown : List Sample) (sample : Sample) (next : List ℕ) → times shown ++ sample.time ∷ next ≡ times (shown ++ sample ∷ []) ++ next
times-more [] sample next = refl
times-more (x ∷ shown) sample next = ap (λ more. x.time ∷ more) (times-more shown sample next)

hold-more : (P : Sample → Type 0) (shown : List Sample) (sample : Sample) → AllHold P shown → P sample → AllHold P (shown ++ sample ∷ [])
hold-more P [] sample h p = (p, tt)
hold-more P (x ∷ shown) sample h p = (h.0, hold-more P shown sample h.1 p)

-- The strobes

-- before the first strobe
pub sampling-start : (design : FlatDesign) (plan : TestPlan) → IsPlan plan → IsSampling design plan 0 [] plan.strobes
sampling-start design plan rules = record {
  strobes = refl;
  ascending = rules.ascending;
  in_time = rules.in_time;
  bits = tt;
  before = tt;
  since = since-start plan.strobes;
  within = omega arith;
}

module _ (design : FlatDesign) (plan : TestPlan) (now : ℕ) (shown : List Sample) (strobe : ℕ) (next : List ℕ) (s : IsSampling design plan now shown (strobe ∷ next)) where
  others-later : AllHold (λ later. strobe < later) next
  others-later = ascending-later (times shown) strobe next (subst IsAscending s.strobes s.ascending)

  -- the machine went on to the strobe
  pub sampling-more : (later : ℕ) (values : List LogicValue) (bits : List Bit) → later ≤ strobe → Shows (good_machine design) plan.end strobe values → bits ≡ samples plan.watched values →
      IsSampling design plan later (shown ++ record { time = strobe; bits = bits } ∷ []) next
  sampling-more later values bits h shows is = record {
    strobes = s.strobes ∙ times-more shown (record { time = strobe; bits = bits }) next;
    ascending = s.ascending;
    in_time = s.in_time.1;
    bits = hold-more (λ (sample : Sample). sample.bits ≡ good_seen design plan sample.time) shown (record { time = strobe; bits = bits }) s.bits (is ∙ ap (samples plan.watched) (sym shows.sees));
    before = hold-more (λ (sample : Sample). StopsAfter sample.time (good_stop design plan)) shown (record { time = strobe; bits = bits }) s.before shows.stops;
    since = all-since later strobe next h others-later;
    within = (let t : strobe ≤ plan.end = s.in_time.0 in omega (arith, h, t));
  }

  -- the machine stopped at the strobe's time or before it
  pub sampling-stopped : (stop : Stop) → good_stop design plan ≡ Some stop → stop.time ≤ strobe → IsGoodRun design plan shown (Some stop)
  sampling-stopped stop e h = record {
    stop_is = e;
    within = (let t : strobe ≤ plan.end = s.in_time.0 in omega (arith, h, t));
    last = strobe ∷ next;
    strobes = s.strobes;
    before = subst (λ (o : Option Stop). AllHold (λ (sample : Sample). StopsAfter sample.time o) shown) e s.before;
    after = (h, all-since stop.time strobe next h others-later);
    bits = s.bits;
  }

-- after the last strobe, the machine went on to the plan's end or stopped
pub sampling-ends : (design : FlatDesign) (plan : TestPlan) (now : ℕ) (shown : List Sample) (stop : Option Stop) → IsSampling design plan now shown [] → good_stop design plan ≡ stop →
    StopsWithin plan.end stop → IsGoodRun design plan shown stop
sampling-ends design plan now shown stop s e within = record {
  stop_is = e;
  within = within;
  last = [];
  strobes = s.strobes;
  before = subst (λ (o : Option Stop). AllHold (λ (sample : Sample). StopsAfter sample.time o) shown) e s.before;
  after = tt;
  bits = s.bits;
}
