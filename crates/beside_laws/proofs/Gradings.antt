-- The grading of a fault on its way, and the time at which it ends (strobes and slots by IEEE 1364-2001, clause 5).
use Rattle.std.proofs.Common.{◌≡◌, ℕ, ◌<◌, ◌≤◌, List, [], ◌∷◌, ◌++◌, Bool, true, false, refl, sym, ap, subst, ◌∙◌, arith, append_assoc, append-nil, inl, inr}
use Rattle.std.specs.Prelude.{Option, Some, None, find, cond, nat_le}
use Rattle.std.proofs.lemmas.Bool.{cases_lt, leb-true}
use Rattle.four_value.specs.declared.logic.Bit.{Bit}
use Rattle.vf_base.specs.Lists.{AllHold}
use Rattle.v_design.specs.Designs.{FlatDesign, Machine, StuckAt, TestPlan, good_machine, faulty_machine}
use Rattle.v_design.specs.States.{State, TurnKind, PostponedTurn, UpdatesTurn, TimeTurn, start, turn_of, time_turn, least_of, found_or}
use Rattle.v_design.specs.Runs.{FirstSlot, first_run, only_if, next_slot, next_slot_at, slot_end, is_hyper}
use Rattle.v_design.specs.Grades.{SlotOutcome, Fine, Race, Hyper, slot_outcome, is_hard, is_possible, some_sample}
use Rattle.v_design.specs.Grades.{first_strobe, Verdict, Detected, verdict, verdict_by, FaultGrade, Judged, Stop, first_stop}
use Rattle.v_design.specs.Grades.{stop_time, by_then, good_ending, faulty_ending, graded}
use Rattle.v_design.specs.WellFormed.{IsAscending, IsPlan, KeepsRules}
use Rattle.order_laws.specs.FirstRuns.{Follow, FirstRunsGoOn}
use Rattle.strobe_detect.specs.Firsts.{first_time}
use Rattle.strobe_detect.specs.Graders.{GraderState, IsShown, shown_at, shown-none, shown-next, shown-verdict}
use Rattle.copy_laws.specs.Windows.{HasEnded}
use Rattle.grade_laws.specs.Ahead.{StopsAfter}
use Rattle.grade_laws.specs.Strobes.{ascending-later}
use Rattle.grade_laws.specs.Decisions.{NotBefore, find-early, find-later, none-before, graded-hard, graded-faulty, graded-good}
use Rattle.grade_laws.specs.Grading.{good_seen, faulty_seen, good_stop, faulty_stop, StopsWithin}
use Rattle.beside_laws.specs.Stands.{IsAfter}
use Rattle.beside_laws.specs.Gradings.{GradingGoesOn, HasNotEnded, GradingsGoOn, EndsAt, GradingsEnd}
use Rattle.beside_laws.proofs.Runs.{stop_by}

-- Times that may be missing

-- a time comes by another, and comes after another or not at all
abbrev ComesBy : ℕ → Option ℕ → Type 0
ComesBy time None = ⊥
ComesBy time (Some other) = other ≤ time

abbrev ComesLater : ℕ → Option ℕ → Type 0
ComesLater time None = Unit {0}
ComesLater time (Some other) = time < other

-- it comes by another or not at all
abbrev IsWithin : ℕ → Option ℕ → Type 0
IsWithin time None = Unit {0}
IsWithin time (Some other) = other ≤ time

by-left : (time : ℕ) (a b : Option ℕ) → ComesBy time a → ComesBy time (least_of a b)
by-left time None b h = absurd h
by-left time (Some x) None h = h
by-left time (Some x) (Some y) h = omega (arith, h)

by-right : (time : ℕ) (a b : Option ℕ) → ComesBy time b → ComesBy time (least_of a b)
by-right time None b h = h
by-right time (Some x) None h = absurd h
by-right time (Some x) (Some y) h = omega (arith, h)

by-found : (end time : ℕ) (a : Option ℕ) → ComesBy time a → found_or end a ≤ time
by-found end time None h = absurd h
by-found end time (Some x) h = h

later-both : (time : ℕ) (a b : Option ℕ) → ComesLater time a → ComesLater time b → ComesLater time (least_of a b)
later-both time None b h k = k
later-both time (Some x) None h k = h
later-both time (Some x) (Some y) h k = omega (arith, h, k)

later-found : (end time : ℕ) (a : Option ℕ) → time < end → ComesLater time a → time < found_or end a
later-found end time None early h = early
later-found end time (Some x) early h = h

within-both : (time : ℕ) (a b : Option ℕ) → IsWithin time a → IsWithin time b → IsWithin time (least_of a b)
within-both time None b h k = k
within-both time (Some x) None h k = h
within-both time (Some x) (Some y) h k = omega (arith, h, k)

within-found : (end : ℕ) (a : Option ℕ) → IsWithin end a → found_or end a ≤ end
within-found end None h = omega arith
within-found end (Some x) h = h

-- Strobes

find-by : (test : ℕ → Bool) (time : ℕ) (strobes : List ℕ) → AllHold (λ strobe. strobe ≤ time) strobes → IsWithin time (find test strobes)
find-by test time [] h = tt
find-by test time (x ∷ strobes) h = go (test x) (find-by test time strobes h.1)
  where
    go : (b : Bool) → IsWithin time (find test strobes) → IsWithin time (cond b (Some x) (find test strobes))
    go true rest = h.0
    go false rest = rest

find-after : (test : ℕ → Bool) (time : ℕ) (strobes : List ℕ) → AllHold (λ strobe. time < strobe) strobes → ComesLater time (find test strobes)
find-after test time [] h = tt
find-after test time (x ∷ strobes) h = go (test x) (find-after test time strobes h.1)
  where
    go : (b : Bool) → ComesLater time (find test strobes) → ComesLater time (cond b (Some x) (find test strobes))
    go true rest = h.0
    go false rest = rest

-- Stops

stop-later : (time : ℕ) (stop : Option Stop) → StopsAfter time stop → ComesLater time (stop_time stop)
stop-later time None h = tt
stop-later time (Some stop) h = h

stop-within : (time : ℕ) (stop : Option Stop) → StopsWithin time stop → IsWithin time (stop_time stop)
stop-within time None h = tt
stop-within time (Some stop) h = h

stops-after : (time : ℕ) (stop : Option Stop) → (ComesBy time (stop_time stop) → ⊥) → StopsAfter time stop
stops-after time None never = tt
stops-after time (Some stop) never = elim (cases_lt time stop.time) [
  | inl later ↦ later
  | inr early ↦ absurd (never early)
]

-- The words of a grade

abbrev hard_test : FlatDesign → TestPlan → StuckAt → ℕ → Bool
hard_test design plan fault = λ strobe. some_sample is_hard (good_seen design plan strobe) (faulty_seen design plan fault strobe)

abbrev hard_in : FlatDesign → TestPlan → StuckAt → List ℕ → Option ℕ
hard_in design plan fault strobes = first_strobe is_hard (good_seen design plan) (faulty_seen design plan fault) strobes

abbrev possible_in : FlatDesign → TestPlan → StuckAt → List ℕ → Option ℕ
possible_in design plan fault strobes = first_strobe is_possible (good_seen design plan) (faulty_seen design plan fault) strobes

abbrev otherwise : FlatDesign → TestPlan → StuckAt → Verdict
otherwise design plan fault = verdict (good_seen design plan) (faulty_seen design plan fault) plan.strobes

-- When a grading ended

ended-good : (design : FlatDesign) (plan : TestPlan) (fault : StuckAt) (time : ℕ) → ComesBy time (stop_time (good_stop design plan)) → HasEnded design plan fault time
ended-good design plan fault time h =
    let good = stop_time (good_stop design plan) in
    let others = least_of (stop_time (faulty_stop design plan fault)) (hard_in design plan fault plan.strobes) in
    by-found plan.end time (least_of good others) (by-left time good others h)

ended-faulty : (design : FlatDesign) (plan : TestPlan) (fault : StuckAt) (time : ℕ) → ComesBy time (stop_time (faulty_stop design plan fault)) → HasEnded design plan fault time
ended-faulty design plan fault time h =
    let good = stop_time (good_stop design plan) in
    let faulty = stop_time (faulty_stop design plan fault) in
    let hard = hard_in design plan fault plan.strobes in
    by-found plan.end time (least_of good (least_of faulty hard)) (by-right time good (least_of faulty hard) (by-left time faulty hard h))

ended-hard : (design : FlatDesign) (plan : TestPlan) (fault : StuckAt) (time : ℕ) → ComesBy time (hard_in design plan fault plan.strobes) → HasEnded design plan fault time
ended-hard design plan fault time h =
    let good = stop_time (good_stop design plan) in
    let faulty = stop_time (faulty_stop design plan fault) in
    let hard = hard_in design plan fault plan.strobes in
    by-found plan.end time (least_of good (least_of faulty hard)) (by-right time good (least_of faulty hard) (by-right time faulty hard h))

ended-later : (design : FlatDesign) (plan : TestPlan) (fault : StuckAt) (time : ℕ) → time < plan.end → StopsAfter time (good_stop design plan) → StopsAfter time (faulty_stop design plan fault) →
    ComesLater time (hard_in design plan fault plan.strobes) → HasNotEnded design plan fault time
ended-later design plan fault time early good faulty hard ended =
    let a = stop_time (good_stop design plan) in
    let b = stop_time (faulty_stop design plan fault) in
    let c = hard_in design plan fault plan.strobes in
    let late : time < found_or plan.end (least_of a (least_of b c)) =
    later-found plan.end time (least_of a (least_of b c)) early
    (later-both time a (least_of b c) (stop-later time (good_stop design plan) good) (later-both time b c (stop-later time (faulty_stop design plan fault) faulty) hard)) in
    absurd (omega (arith, late, ended))

-- A grading on its way

module _ (design : FlatDesign) (plan : TestPlan) (fault : StuckAt) (now : Option ℕ) (passed next : List ℕ) (grader : GraderState) (g : GradingGoesOn design plan fault now passed next grader) where
  -- nothing hard was found so far, so what is found is found among the next strobes
  none-so-far : hard_in design plan fault passed ≡ None
  none-so-far = sym g.shown.hard_is ∙ g.none_hard

  hard-next : hard_in design plan fault plan.strobes ≡ hard_in design plan fault next
  hard-next = ap (hard_in design plan fault) g.strobes ∙ find-later (hard_test design plan fault) passed next none-so-far

  -- no hard strobe is before a time, where the next strobes are at that time or later
  none-by : (time : ℕ) → AllHold (λ strobe. time ≤ strobe) next → by_then time (hard_in design plan fault plan.strobes) ≡ true
  none-by time since =
      ap (λ strobes. by_then time (hard_in design plan fault strobes)) g.strobes ∙ none-before (hard_test design plan fault) time passed next none-so-far since

  grading-passes : (time : ℕ) → AllHold (λ strobe. time < strobe) next → StopsAfter time (good_stop design plan) → StopsAfter time (faulty_stop design plan fault) →
      GradingGoesOn design plan fault (Some time) passed next grader
  grading-passes time later good faulty =
      record { strobes = g.strobes; later = later; good = good; faulty = faulty; watched = g.watched; shown = g.shown; none_hard = g.none_hard }

  ends-faulty : (stop : Stop) (found : FaultGrade) → faulty_stop design plan fault ≡ Some stop → AllHold (λ strobe. stop.time ≤ strobe) next → StopsAfter stop.time (good_stop design plan) →
      faulty_ending stop.time stop.outcome ≡ Some found → EndsAt design plan fault stop.time found
  ends-faulty stop found e since after is = record {
    grade_is =
        ap (λ (o : Option Stop). graded (good_stop design plan) o (hard_in design plan fault plan.strobes) (otherwise design plan fault)) e
        ∙ graded-faulty (good_stop design plan) stop (hard_in design plan fault plan.strobes) (otherwise design plan fault) after (none-by stop.time since)
        ∙ is;
    ended = ended-faulty design plan fault stop.time (subst (λ (o : Option Stop). ComesBy stop.time (stop_time o)) (sym e) (omega arith));
  }

  ends-good : (stop : Stop) (found : FaultGrade) → good_stop design plan ≡ Some stop → AllHold (λ strobe. stop.time ≤ strobe) next → NotBefore stop.time (faulty_stop design plan fault) →
      good_ending stop.outcome ≡ Some found → EndsAt design plan fault stop.time found
  ends-good stop found e since before is = record {
    grade_is =
        ap (λ (o : Option Stop). graded o (faulty_stop design plan fault) (hard_in design plan fault plan.strobes) (otherwise design plan fault)) e
        ∙ graded-good stop (faulty_stop design plan fault) (hard_in design plan fault plan.strobes) (otherwise design plan fault) before (none-by stop.time since)
        ∙ is;
    ended = ended-good design plan fault stop.time (subst (λ (o : Option Stop). ComesBy stop.time (stop_time o)) (sym e) (omega arith));
  }

-- so far it hasn't ended
pub not-ended : (design : FlatDesign) (plan : TestPlan) (fault : StuckAt) (time : ℕ) (passed next : List ℕ) (grader : GraderState) → GradingGoesOn design plan fault (Some time) passed next grader →
    time < plan.end → HasNotEnded design plan fault time
not-ended design plan fault time passed next grader g early =
    ended-later design plan fault time early g.good g.faulty
    (subst (ComesLater time) (sym (hard-next design plan fault (Some time) passed next grader g)) (find-after (hard_test design plan fault) time next g.later))

-- where it hasn't ended it goes on
goes-again : (design : FlatDesign) (plan : TestPlan) (fault : StuckAt) (time : ℕ) (passed next : List ℕ) (grader : GraderState) → HasNotEnded design plan fault time →
    plan.strobes ≡ passed ++ next → AllHold (λ strobe. strobe ≤ time) passed → AllHold (λ strobe. time < strobe) next → grader.watched ≡ plan.watched →
    IsShown (good_seen design plan) (faulty_seen design plan fault) passed grader → GradingGoesOn design plan fault (Some time) passed next grader
goes-again design plan fault time passed next grader not strobes by later watched shown = record {
  strobes = strobes;
  later = later;
  good = stops-after time (good_stop design plan) (λ h. not (ended-good design plan fault time h));
  faulty = stops-after time (faulty_stop design plan fault) (λ h. not (ended-faulty design plan fault time h));
  watched = watched;
  shown = shown;
  none_hard = shown.hard_is ∙ none (hard_in design plan fault passed) refl (find-by (hard_test design plan fault) time passed by);
}
  where
    none : (found : Option ℕ) → hard_in design plan fault passed ≡ found → IsWithin time found → found ≡ None
    none None e h = refl
    none (Some hard) e h =
        let here : hard_in design plan fault plan.strobes ≡ Some hard =
        ap (hard_in design plan fault) strobes ∙ find-early (hard_test design plan fault) passed next hard e in
        absurd (not (ended-hard design plan fault time (subst (ComesBy time) (sym here) h)))

-- At a strobe

module _ (design : FlatDesign) (plan : TestPlan) (fault : StuckAt) (now : Option ℕ) (passed next : List ℕ) (strobe : ℕ) (grader new : GraderState) (good faulty : List Bit)
    (g : GradingGoesOn design plan fault now passed (strobe ∷ next) grader) (good_later : StopsAfter strobe (good_stop design plan)) (faulty_later : StopsAfter strobe (faulty_stop design plan fault))
    (good_is : good ≡ good_seen design plan strobe) (faulty_is : faulty ≡ faulty_seen design plan fault strobe) (is : new ≡ shown_at strobe good faulty grader) where
  shown-here : IsShown (good_seen design plan) (faulty_seen design plan fault) (passed ++ strobe ∷ []) new
  shown-here = shown-next (good_seen design plan) (faulty_seen design plan fault) passed strobe good faulty grader new is g.shown good_is faulty_is

  strobes-more : plan.strobes ≡ (passed ++ strobe ∷ []) ++ next
  strobes-more = g.strobes ∙ sym (append_assoc passed (strobe ∷ []) next)

  grading-strobe : IsPlan plan → new.hard ≡ None → GradingGoesOn design plan fault (Some strobe) (passed ++ strobe ∷ []) next new
  grading-strobe rules none = record {
    strobes = strobes-more;
    later = ascending-later passed strobe next (subst IsAscending g.strobes rules.ascending);
    good = good_later;
    faulty = faulty_later;
    watched = ap (λ (x : GraderState). x.watched) is ∙ g.watched;
    shown = shown-here;
    none_hard = none;
  }

  hard-time : (found : ℕ) → new.hard ≡ Some found → new.hard ≡ Some strobe
  hard-time found e = this ∙ go (some_sample is_hard good faulty) (sym this ∙ e)
    where
      this : new.hard ≡ first_time None (some_sample is_hard good faulty) strobe
      this = ap (λ (x : GraderState). x.hard) is ∙ ap (λ hard. first_time hard (some_sample is_hard good faulty) strobe) g.none_hard

      go : (b : Bool) → first_time None b strobe ≡ Some found → first_time None b strobe ≡ Some strobe
      go true f = refl
      go false f = cc

  ends-hard : (found : ℕ) → new.hard ≡ Some found → EndsAt design plan fault strobe (Judged (Detected strobe))
  ends-hard found e = record {
    grade_is =
        (λ i. graded (good_stop design plan) (faulty_stop design plan fault) (first i) (verdict_by (first i) (possible_in design plan fault plan.strobes)))
        ∙ graded-hard (good_stop design plan) (faulty_stop design plan fault) strobe (possible_in design plan fault plan.strobes) good_later faulty_later;
    ended = ended-hard design plan fault strobe (subst (ComesBy strobe) (sym first) (omega arith));
  }
    where
      first : hard_in design plan fault plan.strobes ≡ Some strobe
      first =
          ap (hard_in design plan fault) strobes-more
          ∙ find-early (hard_test design plan fault) (passed ++ strobe ∷ []) next strobe (sym shown-here.hard_is ∙ hard-time found e)

-- At the end

-- all slots of a first run begin by its end
next-within : (machine : Machine) (end : ℕ) (slot : FirstSlot) (next : State) → next_slot machine end slot ≡ Some next → next.time ≤ end
next-within machine end slot next e = by-hyper (is_hyper slot) e
  where
    some-is : (one other : State) → Some one ≡ Some other → one ≡ other
    some-is one other f = cc

    by-time : (later : ℕ) (b : Bool) → nat_le later end ≡ b → only_if b (time_turn later (slot_end machine slot)) ≡ Some next → next.time ≤ end
    by-time later true le f =
        let early : later ≤ end = leb-true later end le in
        subst (λ (s : State). s.time ≤ end) (some-is (time_turn later (slot_end machine slot)) next f) early
    by-time later false le f = cc

    by-turn : (turn : Option TurnKind) → next_slot_at end (slot_end machine slot) turn ≡ Some next → next.time ≤ end
    by-turn None f = cc
    by-turn (Some PostponedTurn) f = cc
    by-turn (Some UpdatesTurn) f = cc
    by-turn (Some (TimeTurn later)) f = by-time later (nat_le later end) refl f

    by-hyper : (b : Bool) → elim b as (λ _. Option State) [ true ↦ None | false ↦ next_slot_at end (slot_end machine slot) (turn_of (slot_end machine slot)) ] ≡ Some next → next.time ≤ end
    by-hyper true f = cc
    by-hyper false f = by-turn (turn_of (slot_end machine slot)) f

pub all-within : (machine : Machine) (end : ℕ) (next : Option State) (slots : List FirstSlot) → Follow machine end next slots → ((begins : State) → next ≡ Some begins → begins.time ≤ end) →
    AllHold (λ (slot : FirstSlot). slot.begins.time ≤ end) slots
all-within machine end next [] f h = tt
all-within machine end None (slot ∷ slots) f h = absurd f
all-within machine end (Some begins) (slot ∷ slots) f h = (
  subst (λ (x : FirstSlot). x.begins.time ≤ end) (sym f.0) (h begins refl),
  all-within machine end (next_slot machine end slot) slots f.1 (next-within machine end slot),
)

pub run-within : FirstRunsGoOn → (machine : Machine) (end : ℕ) → KeepsRules machine.design → AllHold (λ (slot : FirstSlot). slot.begins.time ≤ end) (first_run machine end)
run-within law machine end rules =
    all-within machine end (Some (start machine)) (first_run machine end) (law.follow machine end rules)
    (λ begins e. let same : start machine ≡ begins = cc in subst (λ (s : State). s.time ≤ end) same (omega arith))

pub stops-within : (machine : Machine) (end : ℕ) (slots : List FirstSlot) → AllHold (λ (slot : FirstSlot). slot.begins.time ≤ end) slots → StopsWithin end (first_stop machine slots)
stops-within machine end [] h = tt
stops-within machine end (slot ∷ slots) h = go (slot_outcome machine slot) (stops-within machine end slots h.1)
  where
    go : (outcome : SlotOutcome) → StopsWithin end (first_stop machine slots) → StopsWithin end (stop_by machine slot slots outcome)
    go Fine rest = rest
    go (Race pair) rest = h.0
    go Hyper rest = h.0

pub ended-by-end : FirstRunsGoOn → (design : FlatDesign) (plan : TestPlan) (fault : StuckAt) → KeepsRules design → IsPlan plan → HasEnded design plan fault plan.end
ended-by-end law design plan fault rules of_plan =
    let good =
    stop-within plan.end (good_stop design plan)
    (stops-within (good_machine design) plan.end (first_run (good_machine design) plan.end) (run-within law (good_machine design) plan.end rules)) in
    let faulty =
    stop-within plan.end (faulty_stop design plan fault)
    (stops-within (faulty_machine design fault) plan.end (first_run (faulty_machine design fault) plan.end) (run-within law (faulty_machine design fault) plan.end rules)) in
    let a = stop_time (good_stop design plan) in
    let b = stop_time (faulty_stop design plan fault) in
    let c = hard_in design plan fault plan.strobes in
    within-found plan.end (least_of a (least_of b c))
    (within-both plan.end a (least_of b c) good (within-both plan.end b c faulty (find-by (hard_test design plan fault) plan.end plan.strobes of_plan.in_time)))

ends-verdict : (design : FlatDesign) (plan : TestPlan) (fault : StuckAt) (now : Option ℕ) (passed : List ℕ) (grader : GraderState) → HasEnded design plan fault plan.end →
    GradingGoesOn design plan fault now passed [] grader → good_stop design plan ≡ None → faulty_stop design plan fault ≡ None →
    EndsAt design plan fault plan.end (Judged (verdict_by grader.hard grader.possible))
ends-verdict design plan fault now passed grader ended g none never = record {
  grade_is =
      (λ i. graded (none i) (never i) (hard_in design plan fault plan.strobes) (otherwise design plan fault))
      ∙ ap (λ strobes. Some (Judged (verdict (good_seen design plan) (faulty_seen design plan fault) strobes))) (g.strobes ∙ append-nil passed)
      ∙ ap (λ given. Some (Judged given)) (sym (shown-verdict (good_seen design plan) (faulty_seen design plan fault) passed grader g.shown));
  ended = ended;
}

-- The laws

grading-begins : (design : FlatDesign) (plan : TestPlan) (fault : StuckAt) (grader : GraderState) → grader ≡ record { watched = plan.watched; hard = None; possible = None } →
    GradingGoesOn design plan fault None [] plan.strobes grader
grading-begins design plan fault grader is = record {
  strobes = refl;
  later = any plan.strobes;
  good = tt;
  faulty = tt;
  watched = ap (λ (g : GraderState). g.watched) is;
  shown = subst (IsShown (good_seen design plan) (faulty_seen design plan fault) []) (sym is) (shown-none (good_seen design plan) (faulty_seen design plan fault) plan.watched);
  none_hard = ap (λ (g : GraderState). g.hard) is;
}
  where
    any : (strobes : List ℕ) → AllHold (λ strobe. IsAfter None strobe) strobes
    any [] = tt
    any (strobe ∷ strobes) = (tt, any strobes)

pub gradings_go_on : GradingsGoOn
gradings_go_on = record {
  begins = grading-begins;
  strobe = λ design plan fault now passed next strobe grader new good faulty rules g good_later faulty_later good_is faulty_is is none.
      grading-strobe design plan fault now passed next strobe grader new good faulty g good_later faulty_later good_is faulty_is is rules none;
  passes = λ design plan fault now passed next grader time g. grading-passes design plan fault now passed next grader g time;
  not_ended = not-ended;
  again = goes-again;
}

pub gradings_end : FirstRunsGoOn → GradingsEnd
gradings_end law = record {
  hard = λ design plan fault now passed next strobe found grader new good faulty g good_later faulty_later good_is faulty_is is.
      ends-hard design plan fault now passed next strobe grader new good faulty g good_later faulty_later good_is faulty_is is found;
  faulty = λ design plan fault now passed next grader stop found g. ends-faulty design plan fault now passed next grader g stop found;
  good = λ design plan fault now passed next grader stop found g. ends-good design plan fault now passed next grader g stop found;
  verdict = λ design plan fault now passed grader rules of_plan. ends-verdict design plan fault now passed grader (ended-by-end law design plan fault rules of_plan);
  by_end = ended-by-end law;
}
