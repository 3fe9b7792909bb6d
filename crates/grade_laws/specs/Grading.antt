-- A grading on its way: what the strobes that were compared say, and how the rest decides the grade (strobes and slots by IEEE 1364-2001, clause 5).
use Rattle.std.proofs.Common.{◌≡◌, ℕ, ◌<◌, ◌≤◌, List, [], ◌∷◌, ◌++◌, Bool, true, false, refl, sym, ap, subst, ◌∙◌, arith, append_assoc, append-nil}
use Rattle.std.specs.Prelude.{Option, Some, None, map, find}
use Rattle.four_value.specs.declared.logic.Bit.{Bit}
use Rattle.four_value.specs.Values.{LogicValue}
use Rattle.vf_base.specs.Lists.{AllHold}
use Rattle.v_design.specs.Designs.{FlatDesign, Machine, StuckAt, TestPlan, good_machine, faulty_machine}
use Rattle.v_design.specs.Runs.{first_run}
use Rattle.v_design.specs.Grades.{Samples, samples, is_hard, is_possible, some_sample, first_strobe, Detected, verdict, verdict_by, first_samples, FaultGrade, Judged, Stop, first_stop, by_then}
use Rattle.v_design.specs.Grades.{good_ending, faulty_ending, graded, grade, Sample}
use Rattle.v_design.specs.WellFormed.{IsAscending, IsPlan}
use Rattle.strobe_detect.specs.Firsts.{first_time}
use Rattle.strobe_detect.specs.Graders.{GraderState, IsShown, shown_at, shown-next, shown-verdict}
use Rattle.grade_laws.specs.Ahead.{StopsAfter, Shows}
use Rattle.grade_laws.specs.Strobes.{ascending-later, all-since}
use Rattle.grade_laws.specs.Decisions.{NotBefore, find-early, none-before, graded-hard, graded-faulty, graded-good}

-- The good machine

-- what the strobes see of the good machine, and of the faulty one
abbrev pub good_seen : FlatDesign → TestPlan → Samples
good_seen design plan = first_samples (good_machine design) plan.watched (first_run (good_machine design) plan.end)

abbrev pub faulty_seen : FlatDesign → TestPlan → StuckAt → Samples
faulty_seen design plan fault = first_samples (faulty_machine design fault) plan.watched (first_run (faulty_machine design fault) plan.end)

-- the first stops of both machines up to the plan's end
abbrev pub good_stop : FlatDesign → TestPlan → Option Stop
good_stop design plan = first_stop (good_machine design) (first_run (good_machine design) plan.end)

abbrev pub faulty_stop : FlatDesign → TestPlan → StuckAt → Option Stop
faulty_stop design plan fault = first_stop (faulty_machine design fault) (first_run (faulty_machine design fault) plan.end)

-- a stop at a time or before it
abbrev pub StopsBy : ℕ → Option Stop → Type 0
StopsBy time None = ⊥
StopsBy time (Some stop) = stop.time ≤ time

-- no stop, or one at a time or before it
abbrev pub StopsWithin : ℕ → Option Stop → Type 0
StopsWithin time None = Unit {0}
StopsWithin time (Some stop) = stop.time ≤ time

-- the times of some samples
abbrev pub times : List Sample → List ℕ
times shown = map (λ (sample : Sample). sample.time) shown

-- the good machine's first run to the plan's end stops so, if it does, and these are its samples at the strobes before that
pub record IsGoodRun (design : FlatDesign) (plan : TestPlan) (shown : List Sample) (stop : Option Stop) : Type 0 where
  pub stop_is : good_stop design plan ≡ stop
  pub within : StopsWithin plan.end stop
  pub last : List ℕ
  pub strobes : plan.strobes ≡ times shown ++ last
  pub before : AllHold (λ (sample : Sample). StopsAfter sample.time stop) shown
  pub after : AllHold (λ strobe. StopsBy strobe stop) last
  pub bits : AllHold (λ (sample : Sample). sample.bits ≡ good_seen design plan sample.time) shown

-- A faulty machine beside the good one

-- the faulty machine went on to a time without a stop, and so did both machines at the strobes that were passed; the next samples are the good machine's before its stop
pub record IsBeside (design : FlatDesign) (plan : TestPlan) (fault : StuckAt) (now : ℕ) (passed : List ℕ) (next : List Sample) : Type 0 where
  pub last : List ℕ
  pub strobes : plan.strobes ≡ passed ++ (times next ++ last)
  pub ascending : IsAscending plan.strobes
  pub in_time : AllHold (λ (sample : Sample). sample.time ≤ plan.end) next
  pub before : AllHold (λ (sample : Sample). StopsAfter sample.time (good_stop design plan)) next
  pub after : AllHold (λ strobe. StopsBy strobe (good_stop design plan)) last
  pub bits : AllHold (λ (sample : Sample). sample.bits ≡ good_seen design plan sample.time) next
  -- the strobes that were passed
  pub good_later : AllHold (λ strobe. StopsAfter strobe (good_stop design plan)) passed
  pub faulty_later : AllHold (λ strobe. StopsAfter strobe (faulty_stop design plan fault)) passed
  -- the time to which the faulty machine went
  pub since : AllHold (λ (sample : Sample). now ≤ sample.time) next
  pub within : now ≤ plan.end
  pub earlier : 0 < now → StopsAfter now (good_stop design plan)

-- A grading on its way

-- the strobes that were passed were compared, and none had a hard detection
pub record IsGrading (design : FlatDesign) (plan : TestPlan) (fault : StuckAt) (now : ℕ) (next : List Sample) (grader : GraderState) : Type 0 where
  pub compared : List ℕ
  pub beside : IsBeside design plan fault now compared next
  -- the grader
  pub watched : grader.watched ≡ plan.watched
  pub shown : IsShown (good_seen design plan) (faulty_seen design plan fault) compared grader
  pub none_hard : grader.hard ≡ None

-- Lists

front-holds : (P : ℕ → Type 0) (shown : List Sample) (last : List ℕ) → AllHold P (times shown ++ last) → AllHold (λ (sample : Sample). P sample.time) shown
front-holds P [] last h = tt
front-holds P (sample ∷ shown) last h = (h.0, front-holds P shown last h.1)

since-start : (shown : List Sample) → AllHold (λ (sample : Sample). 0 ≤ sample.time) shown
since-start [] = tt
since-start (sample ∷ shown) = (omega arith, since-start shown)

front-since : (low : ℕ) (next : List Sample) (last : List ℕ) → AllHold (λ strobe. low ≤ strobe) (times next ++ last) → AllHold (λ (sample : Sample). low ≤ sample.time) next
front-since low next last h = front-holds (λ strobe. low ≤ strobe) next last h

stops-earlier : (low time : ℕ) (stop : Option Stop) → low ≤ time → StopsAfter time stop → StopsAfter low stop
stops-earlier low time None h a = tt
stops-earlier low time (Some stop) h a = omega (arith, h, a)

none-last : (stop : Option Stop) (last : List ℕ) → stop ≡ None → AllHold (λ strobe. StopsBy strobe stop) last → last ≡ []
none-last stop [] e a = refl
none-last stop (x ∷ last) e a = absurd (subst (StopsBy x) e a.0)

last-since : (low : ℕ) (stop : Option Stop) (last : List ℕ) → StopsAfter low stop → AllHold (λ strobe. StopsBy strobe stop) last → AllHold (λ strobe. low ≤ strobe) last
last-since low stop [] h a = tt
last-since low None (x ∷ last) h a = absurd a.0
last-since low (Some stop) (x ∷ last) h a = (let y : stop.time ≤ x = a.0 in omega (arith, h, y), last-since low (Some stop) last h a.1)

last-by : (stop : Option Stop) (found : Stop) (last : List ℕ) → stop ≡ Some found → AllHold (λ strobe. StopsBy strobe stop) last → AllHold (λ strobe. found.time ≤ strobe) last
last-by stop found last e a = subst (λ (o : Option Stop). AllHold (λ strobe. StopsBy strobe o) last) e a

strobe-more : (P : ℕ → Type 0) (passed : List ℕ) (strobe : ℕ) → AllHold P passed → P strobe → AllHold P (passed ++ strobe ∷ [])
strobe-more P [] strobe h p = (p, tt)
strobe-more P (x ∷ passed) strobe h p = (h.0, strobe-more P passed strobe h.1 p)

-- From strobe to strobe

-- before the first strobe, where the faulty machine didn't go on yet
pub beside-start : (design : FlatDesign) (plan : TestPlan) (fault : StuckAt) (shown : List Sample) (stop : Option Stop) → IsPlan plan → IsGoodRun design plan shown stop →
    IsBeside design plan fault 0 [] shown
beside-start design plan fault shown stop rules good = record {
  last = good.last;
  strobes = good.strobes;
  ascending = rules.ascending;
  in_time = front-holds (λ strobe. strobe ≤ plan.end) shown good.last (subst (AllHold (λ strobe. strobe ≤ plan.end)) good.strobes rules.in_time);
  before = subst (λ (s : Option Stop). AllHold (λ (sample : Sample). StopsAfter sample.time s) shown) (sym good.stop_is) good.before;
  after = subst (λ (s : Option Stop). AllHold (λ strobe. StopsBy strobe s) good.last) (sym good.stop_is) good.after;
  bits = good.bits;
  good_later = tt;
  faulty_later = tt;
  since = since-start shown;
  within = omega arith;
  earlier = λ h. absurd (omega (arith, h));
}

module _ (design : FlatDesign) (plan : TestPlan) (fault : StuckAt) (now : ℕ) (passed : List ℕ) (sample : Sample) (next : List Sample) (b : IsBeside design plan fault now passed (sample ∷ next)) where
  others-later : AllHold (λ strobe. sample.time < strobe) (times next ++ b.last)
  others-later = ascending-later passed sample.time (times next ++ b.last) (subst IsAscending b.strobes b.ascending)

  -- a stop of the faulty machine at the next strobe's time or before it comes before one of the good machine, and no strobe that wasn't passed is before it
  pub stop-first : (stop : Stop) → stop.time ≤ sample.time → StopsAfter stop.time (good_stop design plan)
  stop-first stop h = stops-earlier stop.time sample.time (good_stop design plan) h b.before.0

  pub rest-since : (stop : Stop) → stop.time ≤ sample.time → AllHold (λ strobe. stop.time ≤ strobe) (times (sample ∷ next) ++ b.last)
  rest-since stop h = (h, all-since stop.time sample.time (times next ++ b.last) h others-later)

  -- the faulty machine went on to the next strobe
  pub strobes-more : plan.strobes ≡ (passed ++ sample.time ∷ []) ++ (times next ++ b.last)
  strobes-more = b.strobes ∙ sym (append_assoc passed (sample.time ∷ []) (times next ++ b.last))

  pub beside-more : (values : List LogicValue) → Shows (faulty_machine design fault) plan.end sample.time values → (later : ℕ) → later ≤ sample.time →
      IsBeside design plan fault later (passed ++ sample.time ∷ []) next
  beside-more values shows later h = record {
    last = b.last;
    strobes = strobes-more;
    ascending = b.ascending;
    in_time = b.in_time.1;
    before = b.before.1;
    after = b.after;
    bits = b.bits.1;
    good_later = strobe-more (λ strobe. StopsAfter strobe (good_stop design plan)) passed sample.time b.good_later b.before.0;
    faulty_later = strobe-more (λ strobe. StopsAfter strobe (faulty_stop design plan fault)) passed sample.time b.faulty_later shows.stops;
    since = front-since later next b.last (all-since later sample.time (times next ++ b.last) h others-later);
    within = (let t : sample.time ≤ plan.end = b.in_time.0 in omega (arith, h, t));
    earlier = λ some. stops-earlier later sample.time (good_stop design plan) h b.before.0;
  }

-- after the last sample
module _ (design : FlatDesign) (plan : TestPlan) (fault : StuckAt) (now : ℕ) (passed : List ℕ) (b : IsBeside design plan fault now passed []) where
  -- where the good machine never stops all strobes were passed
  pub all-passed : good_stop design plan ≡ None → plan.strobes ≡ passed
  all-passed none = b.strobes ∙ ap (λ last. passed ++ last) (none-last (good_stop design plan) b.last none b.after) ∙ append-nil passed

  -- the other strobes aren't before a stop of the faulty machine that comes before one of the good machine, nor before a stop of the good machine
  pub late-since : (stop : Stop) → StopsAfter stop.time (good_stop design plan) → AllHold (λ strobe. stop.time ≤ strobe) b.last
  late-since stop after = last-since stop.time (good_stop design plan) b.last after b.after

  pub good-since : (stop : Stop) → good_stop design plan ≡ Some stop → AllHold (λ strobe. stop.time ≤ strobe) b.last
  good-since stop e = last-by (good_stop design plan) stop b.last e b.after

-- The start

-- before the first strobe
pub grading-start : (design : FlatDesign) (plan : TestPlan) (fault : StuckAt) (shown : List Sample) (stop : Option Stop) (grader : GraderState) → IsPlan plan → IsGoodRun design plan shown stop →
    grader ≡ record { watched = plan.watched; hard = None; possible = None } → IsGrading design plan fault 0 shown grader
grading-start design plan fault shown stop grader rules good is = record {
  compared = [];
  beside = beside-start design plan fault shown stop rules good;
  watched = ap (λ (g : GraderState). g.watched) is;
  shown = record { hard_is = ap (λ (g : GraderState). g.hard) is; possible_is = ap (λ (g : GraderState). g.possible) is };
  none_hard = ap (λ (g : GraderState). g.hard) is;
}

-- The words of a grade

abbrev hard_test : FlatDesign → TestPlan → StuckAt → ℕ → Bool
hard_test design plan fault = λ strobe. some_sample is_hard (good_seen design plan strobe) (faulty_seen design plan fault strobe)

abbrev hard_in : FlatDesign → TestPlan → StuckAt → List ℕ → Option ℕ
hard_in design plan fault strobes = first_strobe is_hard (good_seen design plan) (faulty_seen design plan fault) strobes

abbrev possible_in : FlatDesign → TestPlan → StuckAt → List ℕ → Option ℕ
possible_in design plan fault strobes = first_strobe is_possible (good_seen design plan) (faulty_seen design plan fault) strobes

-- nothing hard was found so far
none-so-far : (design : FlatDesign) (plan : TestPlan) (fault : StuckAt) (now : ℕ) (next : List Sample) (grader : GraderState) (g : IsGrading design plan fault now next grader) →
    hard_in design plan fault g.compared ≡ None
none-so-far design plan fault now next grader g = sym g.shown.hard_is ∙ g.none_hard

-- no hard strobe is before a time, where the strobes that weren't compared are at that time or later
none-by : (design : FlatDesign) (plan : TestPlan) (fault : StuckAt) (now : ℕ) (next : List Sample) (grader : GraderState) (g : IsGrading design plan fault now next grader) (time : ℕ) →
    AllHold (λ strobe. time ≤ strobe) (times next ++ g.beside.last) →
    by_then time (hard_in design plan fault plan.strobes) ≡ true
none-by design plan fault now next grader g time since =
    ap (λ strobes. by_then time (hard_in design plan fault strobes)) g.beside.strobes
    ∙ none-before (hard_test design plan fault) time g.compared (times next ++ g.beside.last) (none-so-far design plan fault now next grader g) since

-- a stop of the faulty machine decides
by-faulty : (design : FlatDesign) (plan : TestPlan) (fault : StuckAt) (stop : Stop) → faulty_stop design plan fault ≡ Some stop → StopsAfter stop.time (good_stop design plan) →
    by_then stop.time (hard_in design plan fault plan.strobes) ≡ true →
    grade design plan fault ≡ faulty_ending stop.time stop.outcome
by-faulty design plan fault stop e after none =
    let hard = hard_in design plan fault plan.strobes in
    let otherwise = verdict (good_seen design plan) (faulty_seen design plan fault) plan.strobes in
    ap (λ (found : Option Stop). graded (good_stop design plan) found hard otherwise) e ∙ graded-faulty (good_stop design plan) stop hard otherwise after none

-- At a strobe

module _ (design : FlatDesign) (plan : TestPlan) (fault : StuckAt) (now : ℕ) (sample : Sample) (next : List Sample) (grader : GraderState)
    (g : IsGrading design plan fault now (sample ∷ next) grader) where
  -- the faulty machine stops at the strobe's time or before it
  pub grading-stopped : (stop : Stop) → faulty_stop design plan fault ≡ Some stop → stop.time ≤ sample.time → grade design plan fault ≡ faulty_ending stop.time stop.outcome
  grading-stopped stop e h =
      by-faulty design plan fault stop e (stop-first design plan fault now g.compared sample next g.beside stop h)
      (none-by design plan fault now (sample ∷ next) grader g stop.time (rest-since design plan fault now g.compared sample next g.beside stop h))

  -- the samples of both machines are compared
  module _ (values : List LogicValue) (shows : Shows (faulty_machine design fault) plan.end sample.time values) (new : GraderState)
      (is : new ≡ shown_at sample.time sample.bits (samples grader.watched values) grader) where
    shown-here : IsShown (good_seen design plan) (faulty_seen design plan fault) (g.compared ++ sample.time ∷ []) new
    shown-here =
        shown-next (good_seen design plan) (faulty_seen design plan fault) g.compared sample.time sample.bits (samples grader.watched values) grader new is g.shown g.beside.bits.0
        (λ i. samples (g.watched i) (sym shows.sees i))

    -- nothing hard: the grading goes on
    pub grading-more : (later : ℕ) → later ≤ sample.time → new.hard ≡ None → IsGrading design plan fault later next new
    grading-more later h none = record {
      compared = g.compared ++ sample.time ∷ [];
      beside = beside-more design plan fault now g.compared sample next g.beside values shows later h;
      watched = ap (λ (x : GraderState). x.watched) is ∙ g.watched;
      shown = shown-here;
      none_hard = none;
    }

    hard-time : (found : ℕ) → new.hard ≡ Some found → new.hard ≡ Some sample.time
    hard-time found e = this ∙ go (some_sample is_hard sample.bits (samples grader.watched values)) (sym this ∙ e)
      where
        this : new.hard ≡ first_time None (some_sample is_hard sample.bits (samples grader.watched values)) sample.time
        this = ap (λ (x : GraderState). x.hard) is ∙ ap (λ hard. first_time hard (some_sample is_hard sample.bits (samples grader.watched values)) sample.time) g.none_hard

        go : (b : Bool) → first_time None b sample.time ≡ Some found → first_time None b sample.time ≡ Some sample.time
        go true f = refl
        go false f = cc

    -- a hard strobe: it decides
    pub grading-hard : (found : ℕ) → new.hard ≡ Some found → grade design plan fault ≡ Some (Judged (Detected sample.time))
    grading-hard found e =
        (λ i. graded (good_stop design plan) (faulty_stop design plan fault) (first i) (verdict_by (first i) (possible_in design plan fault plan.strobes)))
        ∙ graded-hard (good_stop design plan) (faulty_stop design plan fault) sample.time (possible_in design plan fault plan.strobes) g.beside.before.0 shows.stops
      where
        first : hard_in design plan fault plan.strobes ≡ Some sample.time
        first =
            ap (hard_in design plan fault) (strobes-more design plan fault now g.compared sample next g.beside)
            ∙ find-early (hard_test design plan fault) (g.compared ++ sample.time ∷ []) (times next ++ g.beside.last) sample.time (sym shown-here.hard_is ∙ hard-time found e)

-- After the last strobe

module _ (design : FlatDesign) (plan : TestPlan) (fault : StuckAt) (now : ℕ) (grader : GraderState) (g : IsGrading design plan fault now [] grader) where
  -- neither machine stops: the verdict decides
  pub grading-ends : good_stop design plan ≡ None → faulty_stop design plan fault ≡ None → grade design plan fault ≡ Some (Judged (verdict_by grader.hard grader.possible))
  grading-ends none never =
      (λ i. graded (none i) (never i) (hard_in design plan fault plan.strobes) (verdict (good_seen design plan) (faulty_seen design plan fault) plan.strobes))
      ∙ ap (λ strobes. Some (Judged (verdict (good_seen design plan) (faulty_seen design plan fault) strobes))) (all-passed design plan fault now g.compared g.beside none)
      ∙ ap (λ given. Some (Judged given)) (sym (shown-verdict (good_seen design plan) (faulty_seen design plan fault) g.compared grader g.shown))

  -- the faulty machine stops before the good one
  pub grading-late : (stop : Stop) → faulty_stop design plan fault ≡ Some stop → StopsAfter stop.time (good_stop design plan) → grade design plan fault ≡ faulty_ending stop.time stop.outcome
  grading-late stop e after =
      by-faulty design plan fault stop e after (none-by design plan fault now [] grader g stop.time (late-since design plan fault now g.compared g.beside stop after))

  -- the good machine stops, and the faulty one doesn't before it
  pub grading-good : (stop : Stop) → good_stop design plan ≡ Some stop → NotBefore stop.time (faulty_stop design plan fault) → grade design plan fault ≡ good_ending stop.outcome
  grading-good stop e before =
      ap (λ (found : Option Stop). graded found (faulty_stop design plan fault) (hard_in design plan fault plan.strobes)
      (verdict (good_seen design plan) (faulty_seen design plan fault) plan.strobes)) e
      ∙ graded-good stop (faulty_stop design plan fault) (hard_in design plan fault plan.strobes) (verdict (good_seen design plan) (faulty_seen design plan fault) plan.strobes) before
      (none-by design plan fault now [] grader g stop.time (good-since design plan fault now g.compared g.beside stop e))
