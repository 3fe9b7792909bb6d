-- A counter rises by the process steps of each slot that is run, and at the end by those of all (steps by IEEE 1364-2001, clause 9; slots by clause 5).
use Rattle.std.proofs.Common.{◌≡◌, ℕ, zero, suc, ◌+◌, ◌<◌, ◌≤◌, List, [], ◌∷◌, ◌++◌, refl, sym, ap, subst, ◌∙◌, arith}
use Rattle.std.specs.Prelude.{Option, Some, None, sum_by}
use Rattle.std.proofs.lemmas.List.Sums.{sum_by-cons}
use Rattle.vf_base.specs.Base.{reported_pair}
use Rattle.vf_base.specs.Lists.{AllHold}
use Rattle.vf_base.specs.declared.finding.Pair.{Pair}
use Rattle.vf_base.specs.declared.finding.Side.TheVariants.{Faulty}
use Rattle.v_design.specs.Designs.{FlatDesign, Machine, StuckAt, TestPlan}
use Rattle.v_design.specs.States.{State, start}
use Rattle.v_design.specs.Runs.{FirstSlot, first_run, next_slot}
use Rattle.v_design.specs.WellFormed.{KeepsRules, IsAscending}
use Rattle.v_design.specs.Grades.{SlotOutcome, Fine, Race, Hyper, slot_outcome, Sample, FaultGrade, Judged, Raced, Looped, verdict_by, faulty_ending}
use Rattle.v_design.specs.OwnSteps.{slots_through_stop}
use Rattle.order_laws.specs.FirstRuns.{Follow, FirstRunsGoOn}
use Rattle.machine_laws.specs.SlotLoop.{slot_from}
use Rattle.causal_monitor.specs.declared.slot.Turn.{Turn}
use Rattle.causal_monitor.specs.declared.slot.SlotLog.{SlotLog}
use Rattle.strobe_detect.specs.Graders.{GraderState}
use Rattle.grade_laws.specs.Ahead.{StopsAfter}
use Rattle.grade_laws.specs.Strobes.{ascending-later}
use Rattle.grade_laws.specs.Grading.{StopsWithin, times, good_stop}
use Rattle.machine.specs.Ticks.{raised_by, process_steps, raised-sum}
use Rattle.machine.specs.Standing.{RunsSlot, machine_kept, begins_next, begun_within, next-is-following}
use Rattle.machine.specs.declared.end.SlotEnd.{SlotEnd}
use Rattle.machine.specs.declared.parts.Machine.{Machine as Simulated}
use Rattle.fault_grade.specs.declared.stop.Stop.{Stop}
use Rattle.fault_grade.specs.declared.stop.Stop.TheVariants as stops
use Rattle.fault_grade.specs.Stops.{race_if, stop_view, StopsSo}
use Rattle.fault_grade.specs.Reached.{GoesOn, IsPast, since-now, within-some, none-within}
use Rattle.fault_grade.specs.Gradings.{IsGradingAt, SamplesAt, AdvancesTo, less_one, last_before}
use Rattle.fault_grade.specs.Beside.{some-is}
use Rattle.fault_grade.specs.Ticks.{steps_through, steps_by, steps_before, graded_before, last_bound, IsTicked, TicksOn, Ticked, TickedTo, TickedAt}

plus-none : (n : ℕ) → n ≡ n + 0
plus-none n = omega arith

-- The slots ahead

-- those after one with an outcome, through the first that isn't fine
abbrev rest_by : Machine → List FirstSlot → SlotOutcome → List FirstSlot
rest_by machine slots outcome = elim outcome [ Fine ↦ slots_through_stop machine slots | Race pair ↦ [] | Hyper ↦ [] ]

through-by : (machine : Machine) (slot : FirstSlot) (slots : List FirstSlot) (outcome : SlotOutcome) → slot_outcome machine slot ≡ outcome →
    steps_through machine (slot ∷ slots) ≡ process_steps slot + sum_by process_steps (rest_by machine slots outcome)
through-by machine slot slots outcome is =
    sum_by-cons process_steps slot (rest_by machine slots (slot_outcome machine slot)) ∙ ap (λ o. process_steps slot + sum_by process_steps (rest_by machine slots o)) is

-- an outcome that stops a run
abbrev IsStop : SlotOutcome → Type 0
IsStop Fine = ⊥
IsStop (Race pair) = Unit {0}
IsStop Hyper = Unit {0}

through-stop : (machine : Machine) (slot : FirstSlot) (slots : List FirstSlot) → IsStop (slot_outcome machine slot) → steps_through machine (slot ∷ slots) ≡ process_steps slot
through-stop machine slot slots h = go (slot_outcome machine slot) refl h
  where
    go : (outcome : SlotOutcome) → slot_outcome machine slot ≡ outcome → IsStop outcome → steps_through machine (slot ∷ slots) ≡ process_steps slot
    go Fine e h = absurd h
    go (Race pair) e h = through-by machine slot slots (Race pair) e ∙ sym (plus-none (process_steps slot))
    go Hyper e h = through-by machine slot slots Hyper e ∙ sym (plus-none (process_steps slot))

-- where the slot that is next stops the run, its steps are all
stops-through : (machine : Machine) (end : ℕ) (begins : State) (slots : List FirstSlot) → Follow machine end (Some begins) slots → IsStop (slot_outcome machine (slot_from machine begins)) →
    steps_through machine slots ≡ process_steps (slot_from machine begins)
stops-through machine end begins [] f h = absurd f
stops-through machine end begins (slot ∷ slots) f h = ap (λ s. steps_through machine (s ∷ slots)) f.0 ∙ through-stop machine (slot_from machine begins) slots h

-- the slots ahead are those from the one that is next on
next-here : (m : Simulated) (end : ℕ) (begins : State) → begins_next m ≡ Some begins → begins.time ≤ end → begun_within end (begins_next m) ≡ Some begins
next-here m end begins is h = ap (begun_within end) is ∙ within-some end begins h

-- only these slots follow
follows-same : (machine : Machine) (end : ℕ) (next : Option State) (slots others : List FirstSlot) → Follow machine end next slots → Follow machine end next others → slots ≡ others
follows-same machine end None [] [] f g = refl
follows-same machine end None [] (y ∷ others) f g = absurd g
follows-same machine end None (x ∷ slots) others f g = absurd f
follows-same machine end (Some begins) [] others f g = absurd f
follows-same machine end (Some begins) (x ∷ slots) [] f g = absurd g
follows-same machine end (Some begins) (x ∷ slots) (y ∷ others) f g =
    let same : x ≡ y = f.0 ∙ sym g.0 in
    let rest : slots ≡ others = follows-same machine end (next_slot machine end y) slots others (subst (λ z. Follow machine end (next_slot machine end z) slots) same f.1) g.1 in
    λ i. same i ∷ rest i

-- The start

pub begins-ticked : FirstRunsGoOn → (m : Simulated) (counter : ℕ) → KeepsRules (machine_kept m).design → begins_next m ≡ Some (start (machine_kept m)) → IsTicked counter 0 m counter
begins-ticked law m counter rules begins = record {
  ticks = 0;
  counter_is = refl;
  none = λ e. refl;
  left = λ end h slots follow.
      none-plus (steps_through (machine_kept m) slots)
      ∙ ap (steps_through (machine_kept m))
      (follows-same (machine_kept m) end (Some (start (machine_kept m))) slots (first_run (machine_kept m) end)
      (subst (λ next. Follow (machine_kept m) end next slots) (next-here m end (start (machine_kept m)) begins (omega arith)) follow) (law.follow (machine_kept m) end rules));
}
  where
    none-plus : (n : ℕ) → 0 + n ≡ n
    none-plus n = omega arith

-- A slot

-- the counter rose by the steps of a slot
rose-more : (start ticks more before after : ℕ) → before ≡ raised_by ticks start → after ≡ raised_by more before → after ≡ raised_by (ticks + more) start
rose-more start ticks more before after is rose = rose ∙ ap (raised_by more) is ∙ sym (raised-sum ticks more start)

-- one that is fine
fine-ticked : (start until before after : ℕ) (old new : Simulated) (begins : State) (first : Turn) (end : SlotEnd) (log : SlotLog) → begins_next old ≡ Some begins → begins.time ≤ until →
    machine_kept new ≡ machine_kept old → RunsSlot (machine_kept old) begins first end new log → slot_outcome (machine_kept old) (slot_from (machine_kept old) begins) ≡ Fine →
    after ≡ raised_by (process_steps (slot_from (machine_kept old) begins)) before → IsTicked start (suc until) old before → IsTicked start (suc until) new after
fine-ticked start until before after old new begins first end log is early same runs fine rose t = record {
  ticks = t.ticks + process_steps (slot_from (machine_kept old) begins);
  counter_is = rose-more start t.ticks (process_steps (slot_from (machine_kept old) begins)) before after t.counter_is rose;
  none = λ e. absurd (omega (arith, e));
  left = λ last h slots.
      subst (λ k. Follow k last (begun_within last (begins_next new)) slots → t.ticks + process_steps (slot_from (machine_kept old) begins) + steps_through k slots ≡ steps_by k last) (sym same)
      (λ follow. left last h slots follow);
}
  where
    regroup : (a b c : ℕ) → a + b + c ≡ a + (b + c)
    regroup a b c = omega arith

    left : (last : ℕ) → suc until ≤ suc last → (slots : List FirstSlot) → Follow (machine_kept old) last (begun_within last (begins_next new)) slots →
        t.ticks + process_steps (slot_from (machine_kept old) begins) + steps_through (machine_kept old) slots ≡ steps_by (machine_kept old) last
    left last h slots follow =
        let machine = machine_kept old in
        let slot : FirstSlot = slot_from machine begins in
        let after_it : Follow machine last (next_slot machine last slot) slots =
        subst (λ next. Follow machine last next slots) (ap (begun_within last) runs.next ∙ sym (next-is-following machine last slot)) follow in
        regroup t.ticks (process_steps slot) (steps_through machine slots) ∙ ap (λ n. t.ticks + n) (sym (through-by machine slot slots Fine fine))
        ∙ t.left last h (slot ∷ slots) (subst (λ next. Follow machine last next (slot ∷ slots)) (sym (next-here old last begins is (omega (arith, early, h)))) (refl, after_it))

-- one that stops the run
stop-ticked : (start until now before after : ℕ) (old : Simulated) (begins : State) → GoesOn now old → begins_next old ≡ Some begins → begins.time ≤ until →
    IsStop (slot_outcome (machine_kept old) (slot_from (machine_kept old) begins)) →
    after ≡ raised_by (process_steps (slot_from (machine_kept old) begins)) before → IsTicked start (suc until) old before →
    (end : ℕ) → until ≤ end → after ≡ raised_by (steps_by (machine_kept old) end) start
stop-ticked start until now before after old begins goes is early stops rose t end h =
    let machine = machine_kept old in
    let since : now ≤ begins.time = since-now now old begins goes is in
    let ahead = goes.ahead end (omega (arith, since, early, h)) in
    let here : Follow machine end (Some begins) ahead.slots = subst (λ next. Follow machine end next ahead.slots) (next-here old end begins is (omega (arith, early, h))) ahead.follow in
    rose-more start t.ticks (process_steps (slot_from machine begins)) before after t.counter_is rose
    ∙ ap (λ n. raised_by n start)
    (ap (λ n. t.ticks + n) (sym (stops-through machine end begins ahead.slots here stops)) ∙ t.left end (omega (arith, h)) ahead.slots ahead.follow)

pub slot-ticked : (time start until now before after : ℕ) (old new : Simulated) (begins : State) (first : Turn) (end : SlotEnd) (stop : Option Stop) (log : SlotLog) → begins_next old ≡ Some begins →
    begins.time ≡ time → machine_kept new ≡ machine_kept old → RunsSlot (machine_kept old) begins first end new log → StopsSo time end stop → GoesOn now old → time ≤ until →
    after ≡ raised_by (process_steps (slot_from (machine_kept old) begins)) before → IsTicked start (suc until) old before → TicksOn start until old stop new after
slot-ticked time start until now before after old new begins first end None log is at same runs so goes early rose t =
    fine-ticked start until before after old new begins first end log is (subst (λ n. n ≤ until) (sym at) early) same runs (sym runs.outcome ∙ so) rose t
slot-ticked time start until now before after old new begins first end (Some (stops.Race pair)) log is at same runs so goes early rose t =
    stop-ticked start until now before after old begins goes is (subst (λ n. n ≤ until) (sym at) early) (subst IsStop (sym so ∙ runs.outcome) tt) rose t
slot-ticked time start until now before after old new begins first end (Some (stops.Loop found)) log is at same runs so goes early rose t =
    stop-ticked start until now before after old begins goes is (subst (λ n. n ≤ until) (sym at) early) (subst IsStop (sym so.0 ∙ runs.outcome) tt) rose t

-- Up to a time

-- no slot is left up to a time
pub passed-ticks : (start until counter : ℕ) (first m : Simulated) → machine_kept m ≡ machine_kept first → IsPast until m → IsTicked start (suc until) m counter → Ticked start until first None m counter
passed-ticks start until counter first m same past t = (
  subst (λ k. counter ≡ raised_by (steps_by k until) start) same
      (t.counter_is
      ∙ ap (λ n. raised_by n start)
      (plus-none t.ticks ∙ t.left until (omega arith) [] (subst (λ next. Follow (machine_kept m) until next []) (sym (none-within until m past)) tt))),
  t,
)

-- a slot stops the run
pub stopped-ticks : (start until after : ℕ) (first old new : Simulated) (stop : Stop) → machine_kept old ≡ machine_kept first → TicksOn start until old (Some stop) new after →
    Ticked start until first (Some stop) new after
stopped-ticks start until after first old new stop same on end h = subst (λ k. after ≡ raised_by (steps_by k end) start) same (on end h)

-- an answer that is known
pub ticks-known : (start until after : ℕ) (old new : Simulated) (stop known : Option Stop) → stop ≡ known → TicksOn start until old stop new after → TicksOn start until old known new after
ticks-known start until after old new stop known is t = subst (λ s. TicksOn start until old s new after) is t

pub ticked-known : (start until after : ℕ) (old new : Simulated) (stop known : Option Stop) → stop ≡ known → Ticked start until old stop new after → Ticked start until old known new after
ticked-known start until after old new stop known is t = subst (λ s. Ticked start until old s new after) is t

-- all of it, however it ended
pub ticked-end : (start until after : ℕ) (old new : Simulated) (stop : Option Stop) → Ticked start until old stop new after → after ≡ raised_by (steps_by (machine_kept old) until) start
ticked-end start until after old new None t = t.0
ticked-end start until after old new (Some stop) t = t until (omega arith)

-- what was run before a time was run before a later one
pub ticked-later : (start since later counter : ℕ) (m : Simulated) → since ≤ later → IsTicked start since m counter → IsTicked start later m counter
ticked-later start since later counter m h t = record {
  ticks = t.ticks;
  counter_is = t.counter_is;
  none = λ e. t.none (omega (arith, h, e));
  left = λ end k. t.left end (omega (arith, h, k));
}

-- From strobe to strobe

all-from-start : (strobes : List ℕ) → AllHold (λ strobe. 0 ≤ suc strobe) strobes
all-from-start [] = tt
all-from-start (strobe ∷ strobes) = (omega arith, all-from-start strobes)

all-after : (low : ℕ) (strobes : List ℕ) → AllHold (λ strobe. low < strobe) strobes → AllHold (λ strobe. suc low ≤ suc strobe) strobes
all-after low [] h = tt
all-after low (strobe ∷ strobes) h = (let x : low < strobe = h.0 in omega (arith, x), all-after low strobes h.1)

front-all : (P : ℕ → Type 0) (xs ys : List ℕ) → AllHold P (xs ++ ys) → AllHold P xs
front-all P [] ys h = tt
front-all P (x ∷ xs) ys h = (h.0, front-all P xs ys h.1)

pub ticked-start : (start bound : ℕ) (m : Simulated) (next : List ℕ) (counter : ℕ) → IsTicked start 0 m counter → TickedAt start bound m next counter
ticked-start start bound m next counter t = record { since = 0; later = all-from-start next; within = omega arith; ticked = t }

-- the machine ran on to the strobe
ticked-more : (start bound strobe : ℕ) (new : Simulated) (next : List ℕ) (counter : ℕ) → AllHold (λ later. strobe < later) next → suc strobe ≤ bound → IsTicked start (suc strobe) new counter →
    TickedAt start bound new next counter
ticked-more start bound strobe new next counter rises h t = record { since = suc strobe; later = all-after strobe next rises; within = h; ticked = t }

-- and what was run was before the strobe that is next
pub ticked-next : (start bound strobe : ℕ) (m : Simulated) (next : List ℕ) (counter : ℕ) → TickedAt start bound m (strobe ∷ next) counter → IsTicked start (suc strobe) m counter
ticked-next start bound strobe m next counter at = ticked-later start at.since (suc strobe) counter m at.later.0 at.ticked

-- the good machine ran on to a strobe
pub samples-ticked : (design : FlatDesign) (plan : TestPlan) (m new : Simulated) (shown : List Sample) (strobe : ℕ) (next : List ℕ) (start counter : ℕ) → SamplesAt design plan m shown (strobe ∷ next) →
    IsTicked start (suc strobe) new counter → TickedAt start (suc plan.end) new next counter
samples-ticked design plan m new shown strobe next start counter at t =
    ticked-more start (suc plan.end) strobe new next counter (ascending-later (times shown) strobe next (subst IsAscending at.sampling.strobes at.sampling.ascending))
    (let early : strobe ≤ plan.end = at.sampling.in_time.0 in omega (arith, early)) t

-- a faulty machine ran on to one
pub grading-ticked : (design : FlatDesign) (plan : TestPlan) (fault : StuckAt) (race : Option Pair) (end : ℕ) (m new : Simulated) (sample : Sample) (next : List Sample) (grader : GraderState)
    (start counter : ℕ) → IsGradingAt design plan fault m (sample ∷ next) grader → plan.end ≡ end → good_stop design plan ≡ race_if race → IsTicked start (suc sample.time) new counter →
    TickedAt start (last_bound race end) new (times next) counter
grading-ticked design plan fault race end m new sample next grader start counter at end_is stop_is t =
    let b = at.grading.beside in
    ticked-more start (last_bound race end) sample.time new (times next) counter
    (front-all (λ later. sample.time < later) (times next) b.last
    (ascending-later at.grading.compared sample.time (times next ++ b.last) (subst IsAscending b.strobes b.ascending)))
    (within race (subst (StopsAfter sample.time) stop_is b.before.0)) t
  where
    within : (race : Option Pair) → StopsAfter sample.time (race_if race) → suc sample.time ≤ last_bound race end
    within None a = let early : sample.time ≤ plan.end = at.grading.beside.in_time.0 in omega (arith, early, end_is)
    within (Some pair) a = let x : sample.time < pair.time = a in omega (arith, x)

-- Gradings

-- a stop of the faulty machine
faulty-before : (last : ℕ) (stop : Stop) (found : FaultGrade) → Some found ≡ faulty_ending (stop_view stop).time (stop_view stop).outcome → graded_before last found ≡ suc last
faulty-before last (stops.Race pair) found e = ap (graded_before last) (some-is found (Raced Faulty (reported_pair pair)) e)
faulty-before last (stops.Loop time) found e = ap (graded_before last) (some-is found (Looped time) e)

pub stopped-before : (start last after : ℕ) (machine : Machine) (stop : Stop) (found : FaultGrade) → Some found ≡ faulty_ending (stop_view stop).time (stop_view stop).outcome →
    after ≡ raised_by (steps_by machine last) start → after ≡ raised_by (steps_before machine (graded_before last found)) start
stopped-before start last after machine stop found is rose = rose ∙ ap (λ n. raised_by (steps_before machine n) start) (sym (faulty-before last stop found is))

-- a verdict without a hard strobe
pub judged-before : (start last after : ℕ) (machine : Machine) (hard possible : Option ℕ) (found : FaultGrade) → hard ≡ None → found ≡ Judged (verdict_by hard possible) →
    after ≡ raised_by (steps_by machine last) start → after ≡ raised_by (steps_before machine (graded_before last found)) start
judged-before start last after machine hard possible found none is rose =
    rose ∙ ap (λ n. raised_by (steps_before machine n) start) (sym (ap (graded_before last) (is ∙ ap (λ h. Judged (verdict_by h possible)) none) ∙ through possible))
  where
    through : (possible : Option ℕ) → graded_before last (Judged (verdict_by None possible)) ≡ suc last
    through None = refl
    through (Some time) = refl

-- After the last strobe

-- the faulty machine stops
pub late-stops : (start since end before after : ℕ) (race : Option Pair) (old new : Simulated) (stop : Stop) → since ≤ last_bound race end → StopsWithin end (race_if race) →
    IsTicked start since old before → AdvancesTo (last_before race end) old (Some stop) new → TickedTo start (last_before race end) old before (Some stop) new after →
    after ≡ raised_by (steps_by (machine_kept old) end) start
late-stops start since end before after None old new stop h within t advanced ticks = ticks (ticked-later start since (suc end) before old h t) end (omega arith)
late-stops start since end before after (Some pair) old new stop h within t advanced ticks = go pair.time refl advanced ticks
  where
    go : (time : ℕ) → pair.time ≡ time → AdvancesTo (less_one time) old (Some stop) new → TickedTo start (less_one time) old before (Some stop) new after →
        after ≡ raised_by (steps_by (machine_kept old) end) start
    go zero e advanced ticks = cc
    go (suc time) e advanced ticks = ticks (ticked-later start since (suc time) before old (subst (λ n. since ≤ n) e h) t) end (let w : pair.time ≤ end = within in omega (arith, e, w))

-- the good machine's race
pub late-race : (start since end before after : ℕ) (pair : Pair) (old new : Simulated) → since ≤ pair.time → IsTicked start since old before →
    TickedTo start (last_before (Some pair) end) old before None new after → after ≡ raised_by (steps_before (machine_kept old) pair.time) start
late-race start since end before after pair old new h t ticks = go pair.time h ticks
  where
    go : (time : ℕ) → since ≤ time → TickedTo start (less_one time) old before None new after → after ≡ raised_by (steps_before (machine_kept old) time) start
    go zero h ticks = ticks ∙ t.counter_is ∙ ap (λ n. raised_by n start) (t.none (omega (arith, h)))
    go (suc time) h ticks = (ticks (ticked-later start since (suc time) before old h t)).0

-- neither
pub late-ends : (start since end before after : ℕ) (old new : Simulated) → since ≤ suc end → IsTicked start since old before → TickedTo start (Some end) old before None new after →
    after ≡ raised_by (steps_by (machine_kept old) end) start
late-ends start since end before after old new h t ticks = (ticks (ticked-later start since (suc end) before old h t)).0

pub ticked-to : (start : ℕ) (until other : Option ℕ) (old new : Simulated) (before after : ℕ) (stop known : Option Stop) → until ≡ other → stop ≡ known →
    TickedTo start until old before stop new after → TickedTo start other old before known new after
ticked-to start until other old new before after stop known same is t = subst (λ s. TickedTo start other old before s new after) is (subst (λ u. TickedTo start u old before stop new after) same t)
