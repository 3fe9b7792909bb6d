-- A faulty machine runs slot by slot (slots by IEEE 1364-2001, clause 5).
use Rattle.std.proofs.Common.{◌≡◌, ℕ, zero, suc, ◌+◌, ◌-◌, ◌<◌, ◌≤◌, Bool, true, false, List, [], ◌∷◌, length, refl, sym, ap, subst, ◌∙◌, arith, inl, inr}
use Rattle.std.specs.Prelude.{Option, Some, None, nat_eq, nat_le, if◌then◌else◌}
use Rattle.std.specs.Option.{option_map}
use Rattle.std.proofs.lemmas.Bool.{cases_lt, eqb-true, le-leb, leb-true}
use Rattle.vf_base.specs.Lists.{AllHold}
use Rattle.vf_base.specs.declared.finding.End.{End}
use Rattle.v_design.specs.Designs.{FlatDesign, Machine, StuckAt, TestPlan, good_machine, faulty_machine}
use Rattle.v_design.specs.Laws.{BeginsPhase}
use Rattle.v_design.specs.OwnSteps.{phases_if, slot_beside}
use Rattle.v_design.specs.States.{State}
use Rattle.v_design.specs.Runs.{FirstSlot, first_run, only_if, slot_end}
use Rattle.v_design.specs.Grades.{Phase, SlotOutcome, Fine, Race, Hyper, first_stop, slot_outcome, faulty_ending}
use Rattle.v_design.specs.Plain.{grade_of}
use Rattle.order_laws.specs.FirstRuns.{Follow, Rise}
use Rattle.causal_monitor.specs.declared.slot.Turn.{Turn}
use Rattle.causal_monitor.specs.declared.slot.SlotLog.{SlotLog}
use Rattle.machine_laws.specs.SlotLoop.{SlotsBegin, slot_from}
use Rattle.between_slots.specs.FewLaws.{fine-few}
use Rattle.grade_laws.specs.Decisions.{NotBefore}
use Rattle.grade_laws.specs.Grading.{faulty_stop}
use Rattle.good_runs.specs.declared.tried.TriedStep.{TriedStep}
use Rattle.good_trace.specs.BesideSlots.{TellsSlots}
use Rattle.window_runs.specs.OfSlot.{TellsSlot}
use Rattle.window_runs.specs.declared.slot.SlotRuns.{SlotRuns}
use Rattle.own_counts.specs.Counts.{AtMostOwn}
use Rattle.own_counts.specs.Joins.{IsByToo, fault_end}
use Rattle.own_slots.specs.Slots.{TriedStepsGoOn, WereTried}
use Rattle.machine.specs.BesideRuns.{MayGoBeside, TicksAtMostOwn}
use Rattle.machine.specs.Standing.{BeginsInFirstRun, IsStanding, RunsSlot, machine_kept, state_kept, begins_next, begun_within, outcome_of, next-is-following}
use Rattle.machine.specs.declared.end.SlotEnd.{SlotEnd}
use Rattle.machine.specs.declared.parts.Stage.TheVariants.{Between}
use Rattle.machine.specs.declared.parts.Machine.{Machine as Simulated}
use Rattle.machine.specs.Ticks.{raised_by}
use Rattle.fault_grade.specs.Reached.{next_of}
use Rattle.fault_strobes.specs.Said.{plan_by}
use Rattle.graded_steps.specs.Ahead.{SlotsAhead, RunsTakeSteps}
use Rattle.beside_laws.specs.Stands.{HasRun, IsAfter, IsSince, RunsGoOn}
use Rattle.window_grade.specs.Beside.{GoesUpTo, IsKnownBeside, TicksTo, slot_at, tried_at}
use Rattle.window_grade.specs.Rises.{OwnStepsRise}
use Rattle.window_grade.specs.Running.{IsAtStage, IsRunningAt, StaysOn, StopsWith, EndsSo, RunsSlotAt, TicksSlotAt, IsOnWayTo}
use Rattle.window_grade.specs.declared.beside.RunBeside.{RunBeside}

-- Times

pub since-after : (now : Option ℕ) (time : ℕ) → IsAfter now time → IsSince now time
since-after None time after = tt
since-after (Some now) time after = omega (arith, after)

-- The slot that is next

some-is : {A : Type 0} (one other : A) → Some one ≡ Some other → one ≡ other
some-is one other e = cc

-- the state in which the next slot begins
pub next-is : (m : Simulated) (time : ℕ) → next_of m ≡ Some time → (begins : State) × (begins_next m ≡ Some begins) × (begins.time ≡ time)
next-is m time e = go (begins_next m) refl e
  where
    go : (next : Option State) → begins_next m ≡ next → option_map (λ (s : State). s.time) next ≡ Some time → (begins : State) × (begins_next m ≡ Some begins) × (begins.time ≡ time)
    go None n f = cc
    go (Some begins) n f = (begins, n, some-is begins.time time f)

within-some : (end : ℕ) (begins : State) → begins.time ≤ end → begun_within end (Some begins) ≡ Some begins
within-some end begins h = ap (λ b. only_if b begins) (le-leb begins.time end h)

within-is : (end : ℕ) (next : Option State) (begins : State) → begun_within end next ≡ Some begins → next ≡ Some begins
within-is end None begins e = cc
within-is end (Some state) begins e = go (nat_le state.time end) e
  where
    go : (b : Bool) → only_if b state ≡ Some begins → Some state ≡ Some begins
    go true f = f
    go false f = cc

-- how much time is left up to a time
abbrev pub time_left : ℕ → Option ℕ → ℕ
time_left until None = 0
time_left until (Some time) = until + 1 - time

pub left-falls : (until time : ℕ) (next : Option ℕ) → time ≤ until → ((later : ℕ) → next ≡ Some later → time < later) → time_left until next < time_left until (Some time)
left-falls until time None h rises = omega (arith, h)
left-falls until time (Some later) h rises = let r : time < later = rises later refl in omega (arith, h, r)

-- A machine that is run on

pub stays-more : (old mid new : Simulated) → StaysOn old mid → StaysOn mid new → StaysOn old new
stays-more old mid new one more = record { same_machine = more.same_machine ∙ one.same_machine; standing = more.standing; notes = more.notes ∙ one.notes }

-- A slot

ending-fine : (time : ℕ) (outcome : SlotOutcome) (ended : End) → outcome ≡ Fine → faulty_ending time outcome ≡ Some (grade_of ended) → ⊥
ending-fine time Fine ended e f = cc
ending-fine time (Race pair) ended e f = cc
ending-fine time Hyper ended e f = cc

-- what is ahead begins with the slot that is next
run-here : (design : FlatDesign) (plan : TestPlan) (fault : StuckAt) (now : Option ℕ) (m : Simulated) (begins : State) → IsRunningAt design plan fault now m → begins_next m ≡ Some begins →
    begins.time ≤ plan.end → HasRun (faulty_machine design fault) plan.end now (Some begins) (state_kept m)
run-here design plan fault now m begins at is early =
    subst (λ (next : Option State). HasRun (faulty_machine design fault) plan.end now next (state_kept m)) (ap (begun_within plan.end) is ∙ within-some plan.end begins early) at.run

ahead-here : (design : FlatDesign) (plan : TestPlan) (fault : StuckAt) (now : Option ℕ) (m : Simulated) (begins : State) → IsRunningAt design plan fault now m → begins_next m ≡ Some begins →
    begins.time ≤ plan.end → SlotsAhead (faulty_machine design fault) plan.end now (Some begins)
ahead-here design plan fault now m begins at is early =
    subst (λ (next : Option State). SlotsAhead (faulty_machine design fault) plan.end now next) (ap (begun_within plan.end) is ∙ within-some plan.end begins early) at.ahead

-- the next slot was run
pub slot-leads : RunsGoOn → RunsTakeSteps → (time : ℕ) (old new : Simulated) (begins : State) (first : Turn) (end : SlotEnd) (ended : Option End) (log : SlotLog) → begins_next old ≡ Some begins →
    begins.time ≡ time → machine_kept new ≡ machine_kept old → RunsSlot (machine_kept old) begins first end new log → IsStanding new → EndsSo time end ended → RunsSlotAt time old ended new
slot-leads law take time old new begins first end None log is at same runs standing so = λ design plan fault now running early.
    let machine = faulty_machine design fault in
    let here = run-here design plan fault now old begins running is (omega (arith, at, early)) in
    let ran : RunsSlot machine begins first end new log = subst (λ (m : Machine). RunsSlot m begins first end new log) running.same_machine runs in
    let next : begun_within plan.end (begins_next new) ≡ _ = ap (begun_within plan.end) ran.next ∙ sym (next-is-following machine plan.end (slot_from machine begins)) in
    let slots = take.fine machine plan.end now begins running.rules (ahead-here design plan fault now old begins running is (omega (arith, at, early))) (omega (arith, at, early)) (sym ran.outcome ∙ so) in
    record {
      rules = running.rules;
      same_machine = same ∙ running.same_machine;
      standing = standing;
      ahead =
          subst (λ t. SlotsAhead machine plan.end (Some t) (begun_within plan.end (begins_next new))) at
          (subst (λ (n : Option State). SlotsAhead machine plan.end (Some begins.time) n) (sym next) slots.0);
      stage = ran.between (fine-few machine (slot_from machine begins) (sym ran.outcome ∙ so));
      run =
          subst (λ t. HasRun machine plan.end (Some t) (begun_within plan.end (begins_next new)) (state_kept new)) at
          (subst (λ (s : State). HasRun machine plan.end (Some begins.time) (begun_within plan.end (begins_next new)) s) (sym ran.state)
          (subst (λ (n : Option State). HasRun machine plan.end (Some begins.time) n (slot_end machine (slot_from machine begins))) (sym next)
          (law.fine machine plan.end now begins (state_kept old) here (sym ran.outcome ∙ so))));
    }
slot-leads law take time old new begins first end (Some ended) log is at same runs standing so = λ design plan fault now running early.
    let machine = faulty_machine design fault in
    let here = run-here design plan fault now old begins running is (omega (arith, at, early)) in
    let ran : RunsSlot machine begins first end new log = subst (λ (m : Machine). RunsSlot m begins first end new log) running.same_machine runs in
    record {
      stop = record { time = begins.time; outcome = slot_outcome machine (slot_from machine begins) };
      stop_is = law.stops machine plan.end now begins (state_kept old) here (λ fine. ending-fine time (outcome_of end) ended (ran.outcome ∙ fine) so);
      by_then = omega (arith, at);
      ends = (λ i. faulty_ending (at i) (sym ran.outcome i)) ∙ so;
    }

-- Steps

-- a counter rises by no more than its ticks
raised-most : (count before : ℕ) → raised_by count before ≤ before + count
raised-most zero before = omega arith
raised-most (suc count) before = let x : raised_by count before ≤ before + count = raised-most count before in omega (arith, x)

-- no slot up to the next one's time stops the run before that
not-before : (machine : Machine) (time : ℕ) (slots : List FirstSlot) → AllHold (λ (slot : FirstSlot). time ≤ slot.begins.time) slots → NotBefore time (first_stop machine slots)
not-before machine time [] all = tt
not-before machine time (slot ∷ slots) all = go (slot_outcome machine slot) (not-before machine time slots all.1)
  where
    go : (outcome : SlotOutcome) → NotBefore time (first_stop machine slots) → NotBefore time (elim outcome [
      | Fine ↦ first_stop machine slots
      | Race pair ↦ Some (record { time = slot.begins.time; outcome = Race pair })
      | Hyper ↦ Some (record { time = slot.begins.time; outcome = Hyper })
    ])
    go Fine rest = rest
    go (Race pair) rest = all.0
    go Hyper rest = all.0

since-all : (time low : ℕ) (slots : List FirstSlot) → low ≤ time → AllHold (λ (slot : FirstSlot). time < slot.begins.time) slots → AllHold (λ (slot : FirstSlot). low ≤ slot.begins.time) slots
since-all time low [] h all = tt
since-all time low (slot ∷ slots) h all = (let x : time < slot.begins.time = all.0 in omega (arith, h, x), since-all time low slots h all.1)

stop-since : (design : FlatDesign) (plan : TestPlan) (fault : StuckAt) (now : Option ℕ) (begins state : State) → HasRun (faulty_machine design fault) plan.end now (Some begins) state →
    NotBefore begins.time (faulty_stop design plan fault)
stop-since design plan fault now begins state run =
    subst (NotBefore begins.time) (sym run.stops) (not-before (faulty_machine design fault) begins.time run.ahead (all run.ahead run.follow run.rise))
  where
    all : (slots : List FirstSlot) → Follow (faulty_machine design fault) plan.end (Some begins) slots → Rise slots → AllHold (λ (slot : FirstSlot). begins.time ≤ slot.begins.time) slots
    all [] follow rise = absurd follow
    all (slot ∷ slots) follow rise =
        let here : begins.time ≤ slot.begins.time = subst (λ (x : FirstSlot). begins.time ≤ x.begins.time) (sym follow.0) (omega arith) in
        (here, since-all slot.begins.time begins.time slots here rise.0)

-- the counter of the next slot
pub slot-ticks : OwnStepsRise → (time : ℕ) (old : Simulated) (begins : State) (beside : RunBeside) (before after : ℕ) → begins_next old ≡ Some begins → begins.time ≡ time →
    ((design : FlatDesign) (plan : TestPlan) (fault : StuckAt) (kept : Bool) (now : Option ℕ) → IsRunningAt design plan fault now old → time ≤ plan.end →
    IsKnownBeside design (plan_by kept plan) fault now time beside →
    TicksAtMostOwn (slot_beside (good_machine design) (faulty_machine design fault) (first_run (good_machine design) plan.end) (slot_from (faulty_machine design fault) begins))
    (length (tried_at beside time)) before after) → TicksSlotAt time old beside before after
slot-ticks rises time old begins beside before after is at ticks = λ design plan fault now kept running early known goes.
    let machine = faulty_machine design fault in
    let P = plan_by kept plan in
    let low : begins.time ≤ plan.end = omega (arith, at, early) in
    let ahead = ahead-here design plan fault now old begins running is low in
    let stop = stop-since design plan fault now begins (state_kept old) (run-here design plan fault now old begins running is low) in
    let own = ticks design plan fault kept now running early known in
    let most : raised_by own.0 before ≤ before + own.0 = raised-most own.0 before in
    let rose : after ≤ before + own.0 = (let same = own.1 in omega (arith, same, most)) in
    let here : begins.time ≤ fault_end design P fault = goes begins.time (omega (arith, at)) stop in
    subst (λ t. TicksTo design P fault beside now (Some t) before after) at
    (rises.slot design P fault beside now begins before own.0 after ahead here known.taken
    (subst (λ t. AtMostOwn (slot_beside (good_machine design) machine (first_run (good_machine design) plan.end) (slot_from machine begins)) (own.0 + length (tried_at beside t))) (sym at) own.2) rose)

-- the slot that is next comes after the time so far
pub next-after : RunsGoOn → (design : FlatDesign) (plan : TestPlan) (fault : StuckAt) (now : Option ℕ) (m : Simulated) (begins : State) → IsRunningAt design plan fault now m →
    begins_next m ≡ Some begins → begins.time ≤ plan.end → IsAfter now begins.time
next-after law design plan fault now m begins running is low =
    law.later (faulty_machine design fault) plan.end now begins (state_kept m) (run-here design plan fault now m begins running is low)

-- what is known of the slot that is next
module _ (design : FlatDesign) (plan : TestPlan) (fault : StuckAt) (now : Option ℕ) (kept : Bool) (time : ℕ) (beside : RunBeside) (m : Simulated) (begins : State)
    (running : IsRunningAt design plan fault now m) (known : IsKnownBeside design (plan_by kept plan) fault now time beside) (is : begins_next m ≡ Some begins) (at : begins.time ≡ time)
    (after : IsAfter now time) where
  abbrev pub others : List Phase
  others = phases_if (good_machine design) (slot_at (first_run (good_machine design) plan.end) time)

  same-others : phases_if (good_machine design) (slot_at known.slots time) ≡ others
  same-others = ap (phases_if (good_machine design)) (sym (known.found time after (omega arith)))

  -- the good machine's slot of its time
  pub goods-tell : (goods : SlotRuns) → TellsSlot design time (phases_if (good_machine design) (slot_at known.slots time)) goods → TellsSlot design time others goods
  goods-tell goods tells = subst (λ (l : List Phase). TellsSlot design time l goods) same-others tells

  -- the steps that were taken in it
  pub tried-there : SlotsBegin → TriedStepsGoOn → WereTried (good_machine design) (faulty_machine design fault) others begins (tried_at beside time)
  tried-there begin tried = go (nat_eq time beside.time) refl
    where
      go : (b : Bool) → nat_eq time beside.time ≡ b → WereTried (good_machine design) (faulty_machine design fault) others begins (if b then beside.tried.now else [])
      go true e =
          let same : begins.time ≡ beside.time = at ∙ eqb-true time beside.time e in
          subst (λ t. WereTried (good_machine design) (faulty_machine design fault) (phases_if (good_machine design) (slot_at (first_run (good_machine design) plan.end) t)) begins beside.tried.now) at
          (known.taken.tried begins same (subst (λ (machine : Machine). BeginsPhase machine begins) running.same_machine (running.standing.begins begins is))
          (subst (λ (machine : Machine). BeginsInFirstRun machine begins) running.same_machine (running.standing.reached begins is)))
      go false e =
          tried.none (good_machine design) (faulty_machine design fault) others begins
          (begin (faulty_machine design fault) begins (subst (λ (machine : Machine). BeginsPhase machine begins) running.same_machine (running.standing.begins begins is)))

-- it may be run beside it
pub may-beside : RunsGoOn → SlotsBegin → TriedStepsGoOn → (design : FlatDesign) (plan : TestPlan) (fault : StuckAt) (now : Option ℕ) (kept : Bool) (time : ℕ) (beside : RunBeside) (m : Simulated) →
    IsRunningAt design plan fault now m → time ≤ plan.end → (known : IsKnownBeside design (plan_by kept plan) fault now time beside) → next_of m ≡ Some time → (goods : SlotRuns) →
    TellsSlot design time (phases_if (good_machine design) (slot_at known.slots time)) goods → (tried : List TriedStep) → tried ≡ tried_at beside time →
    MayGoBeside (machine_kept m) (begins_next m) goods tried
may-beside law begin go design plan fault now kept time beside m running early known next goods tells tried same = (
  phases_if (good_machine design) (slot_at (first_run (good_machine design) plan.end) time),
  λ begins is.
      let list : List Phase = phases_if (good_machine design) (slot_at (first_run (good_machine design) plan.end) time) in
      let at : begins.time ≡ time = some-is begins.time time (ap (option_map (λ (s : State). s.time)) (sym is) ∙ next) in
      let after : IsAfter now time = subst (IsAfter now) at (next-after law design plan fault now m begins running is (omega (arith, at, early))) in
      subst (λ (machine : Machine). TellsSlot machine.design begins.time list goods × WereTried (good_machine machine.design) machine list begins tried) (sym running.same_machine) (
        subst (λ t. TellsSlot design t list goods) (sym at) (goods-tell design plan fault now kept time beside m begins running known is at after goods tells),
        subst (WereTried (good_machine design) (faulty_machine design fault) list begins) (sym same)
            (tried-there design plan fault now kept time beside m begins running known is at after begin go),
      ),
)

-- and its counter then
pub ticks-beside : RunsGoOn → SlotsBegin → TriedStepsGoOn → (time : ℕ) (beside : RunBeside) (m : Simulated) (begins : State) (goods : SlotRuns) (tried : List TriedStep) (before after : ℕ) →
    begins_next m ≡ Some begins → begins.time ≡ time → ((design : FlatDesign) (slots : List FirstSlot) → TellsSlots design slots beside.slots →
    TellsSlot design time (phases_if (good_machine design) (slot_at slots time)) goods) → tried ≡ tried_at beside time →
    ((start : State) (good_slots : List FirstSlot) (found : Option FirstSlot) → begins_next m ≡ Some start → slot_at good_slots start.time ≡ found →
    TellsSlot (machine_kept m).design start.time (phases_if (good_machine (machine_kept m).design) found) goods →
    WereTried (good_machine (machine_kept m).design) (machine_kept m) (phases_if (good_machine (machine_kept m).design) found) start tried →
    TicksAtMostOwn (slot_beside (good_machine (machine_kept m).design) (machine_kept m) good_slots (slot_from (machine_kept m) start)) (length tried) before after) →
    (design : FlatDesign) (plan : TestPlan) (fault : StuckAt) (kept : Bool) (now : Option ℕ) → IsRunningAt design plan fault now m → time ≤ plan.end →
    IsKnownBeside design (plan_by kept plan) fault now time beside →
    TicksAtMostOwn (slot_beside (good_machine design) (faulty_machine design fault) (first_run (good_machine design) plan.end) (slot_from (faulty_machine design fault) begins))
    (length (tried_at beside time)) before after
ticks-beside law begin go time beside m begins goods tried before after is at tells same ticks design plan fault kept now running early known =
    let good_slots : List FirstSlot = first_run (good_machine design) plan.end in
    let after_now : IsAfter now time = subst (IsAfter now) at (next-after law design plan fault now m begins running is (omega (arith, at, early))) in
    let F : Machine → Type 0 = λ (machine : Machine). TellsSlot machine.design begins.time (phases_if (good_machine machine.design) (slot_at good_slots begins.time)) goods →
    WereTried (good_machine machine.design) machine (phases_if (good_machine machine.design) (slot_at good_slots begins.time)) begins tried →
    TicksAtMostOwn (slot_beside (good_machine machine.design) machine good_slots (slot_from machine begins)) (length tried) before after in
    let own : F (faulty_machine design fault) = subst F running.same_machine (ticks begins good_slots (slot_at good_slots begins.time) is refl) in
    subst (λ (l : List TriedStep). TicksAtMostOwn (slot_beside (good_machine design) (faulty_machine design fault) good_slots (slot_from (faulty_machine design fault) begins)) (length l) before after) same
    (own
    (subst (λ t. TellsSlot design t (phases_if (good_machine design) (slot_at good_slots t)) goods) (sym at)
    (goods-tell design plan fault now kept time beside m begins running known is at after_now goods (tells design known.slots known.tells)))
    (subst (λ t. WereTried (good_machine design) (faulty_machine design fault) (phases_if (good_machine design) (slot_at good_slots t)) begins tried) (sym at)
    (subst (WereTried (good_machine design) (faulty_machine design fault) (phases_if (good_machine design) (slot_at good_slots time)) begins) (sym same)
    (tried-there design plan fault now kept time beside m begins running known is at after_now begin go))))

-- the slot after it is later
pub slot-rises : RunsGoOn → (design : FlatDesign) (plan : TestPlan) (fault : StuckAt) (time : ℕ) (m : Simulated) → IsRunningAt design plan fault (Some time) m → time ≤ plan.end →
    (later : ℕ) → next_of m ≡ Some later → time < later
slot-rises law design plan fault time m at early later e =
    let n = next-is m later e in
    let same : n.0.time ≡ later = n.2 in
    elim (cases_lt plan.end n.0.time) [
      | inl past ↦ omega (arith, past, early, same)
      | inr by ↦
          let after : time < n.0.time = law.later (faulty_machine design fault) plan.end (Some time) n.0 (state_kept m) (run-here design plan fault (Some time) m n.0 at n.1 by) in
          omega (arith, after, same)
    ]

-- and so it is where its time is known
pub next-since : RunsGoOn → (design : FlatDesign) (plan : TestPlan) (fault : StuckAt) (now : Option ℕ) (m : Simulated) → IsRunningAt design plan fault now m → (time : ℕ) → next_of m ≡ Some time →
    time ≤ plan.end → IsSince now time
next-since law design plan fault now m running time here low =
    let n = next-is m time here in
    let same : n.0.time ≡ time = n.2 in
    subst (IsSince now) n.2 (since-after now n.0.time (next-after law design plan fault now m n.0 running n.1 (omega (arith, same, low))))

-- Between slots

-- a machine that passes a time without a slot isn't at its start
passed-stage : (until : ℕ) (now : Option ℕ) (m : Simulated) → IsAtStage now m → ((later : ℕ) → next_of m ≡ Some later → until < later) → m.stage ≡ Between
passed-stage until None m first past = absurd (let late : until < 0 = past 0 first in omega (arith, late))
passed-stage until (Some now) m between past = between

-- no slot up to a time is next, so the same slots are ahead
passed-ahead : RunsTakeSteps → (design : FlatDesign) (plan : TestPlan) (fault : StuckAt) (until : ℕ) (m : Simulated) → until ≤ plan.end → (way : IsOnWayTo design plan fault until m) →
    ((later : ℕ) → next_of m ≡ Some later → until < later) → SlotsAhead (faulty_machine design fault) plan.end (Some until) (begun_within plan.end (begins_next m))
passed-ahead take design plan fault until m within way past =
    (take.passes (faulty_machine design fault) plan.end way.now (begun_within plan.end (begins_next m)) until way.at.rules way.at.ahead way.since within
    (λ begins e. past begins.time (ap (option_map (λ (s : State). s.time)) (within-is plan.end (begins_next m) begins e)))).0

-- what comes by a time comes by a later one
pub by-since : (now : Option ℕ) (time : ℕ) → IsSince now time → IsByToo now (Some time)
by-since None time since other by = cc
by-since (Some now) time since other by = (let low : other ≤ now = leb-true other now by in le-leb other time (omega (arith, low, since)))

pub by-too-more : (one between other : Option ℕ) → IsByToo one between → IsByToo between other → IsByToo one other
by-too-more one between other first second time by = second time (first time by)

-- what is known behind a time and up to another is known of a part
after-later : (now : Option ℕ) (low time : ℕ) → IsSince now low → low < time → IsAfter now time
after-later None low time since after = tt
after-later (Some now) low time since after = omega (arith, since, after)

pub known-part : (design : FlatDesign) (plan : TestPlan) (fault : StuckAt) (now later : Option ℕ) (until low : ℕ) (beside : RunBeside) →
    ((time : ℕ) → IsAfter later time → IsAfter now time) → low ≤ until → IsKnownBeside design plan fault now until beside → IsKnownBeside design plan fault later low beside
known-part design plan fault now later until low beside after h known = record {
  slots = known.slots;
  tells = known.tells;
  found = λ time a b. known.found time (after time a) (omega (arith, b, h));
  taken = known.taken;
}

pub known-later : (design : FlatDesign) (plan : TestPlan) (fault : StuckAt) (now : Option ℕ) (later until low : ℕ) (beside : RunBeside) → IsSince now later → low ≤ until →
    IsKnownBeside design plan fault now until beside → IsKnownBeside design plan fault (Some later) low beside
known-later design plan fault now later until low beside since h known = known-part design plan fault now (Some later) until low beside (λ time a. after-later now later time since a) h known

pub goes-less : (design : FlatDesign) (plan : TestPlan) (fault : StuckAt) (until low : ℕ) → low ≤ until → GoesUpTo design plan fault until → GoesUpTo design plan fault low
goes-less design plan fault until low h goes = λ time by stop. goes time (omega (arith, by, h)) stop

-- it went on towards a time beside the good machine's slots, and a counter rose by at most its own steps
pub record IsTickedTo (design : FlatDesign) (plan : TestPlan) (fault : StuckAt) (kept : Bool) (until : ℕ) (beside : RunBeside) (from : Option ℕ) (before after : ℕ) (m : Simulated) : Type 0 where
  pub way : IsOnWayTo design plan fault until m
  pub known : IsKnownBeside design (plan_by kept plan) fault way.now until beside
  pub since : IsByToo from way.now
  pub ticks : TicksTo design (plan_by kept plan) fault beside from way.now before after

module _ (rises : OwnStepsRise) (design : FlatDesign) (plan : TestPlan) (fault : StuckAt) (kept : Bool) (until : ℕ) (beside : RunBeside) (from : Option ℕ) (before after : ℕ) (m : Simulated)
    (ticked : IsTickedTo design plan fault kept until beside from before after m) where
  -- no further slot is run up to the time
  pub ticks-passed : TicksTo design (plan_by kept plan) fault beside from (Some until) before after
  ticks-passed =
      let P = plan_by kept plan in
      rises.joins design P fault beside from ticked.way.now (Some until) before after after ticked.since (by-since ticked.way.now until ticked.way.since) ticked.ticks
      (rises.taken design P fault beside ticked.way.now (Some until) after ticked.known.taken)

  -- the slot of a time is run
  pub ticks-slot : (time counter : ℕ) → IsSince ticked.way.now time → TicksTo design (plan_by kept plan) fault beside ticked.way.now (Some time) after counter →
      TicksTo design (plan_by kept plan) fault beside from (Some time) before counter
  ticks-slot time counter since ticks =
      rises.joins design (plan_by kept plan) fault beside from ticked.way.now (Some time) before after counter ticked.since (by-since ticked.way.now time since) ticked.ticks ticks

  -- and the run stops there
  pub ticks-stopped : (time counter : ℕ) → IsSince ticked.way.now time → time ≤ until → TicksTo design (plan_by kept plan) fault beside ticked.way.now (Some time) after counter →
      TicksTo design (plan_by kept plan) fault beside from (Some until) before counter
  ticks-stopped time counter since low ticks =
      let P = plan_by kept plan in
      rises.joins design P fault beside from (Some time) (Some until) before counter counter
      (by-too-more from ticked.way.now (Some time) ticked.since (by-since ticked.way.now time since)) (by-since (Some time) until low) (ticks-slot time counter since ticks)
      (rises.taken design P fault beside (Some time) (Some until) counter ticked.known.taken)

-- no slot up to a time is next
pub run-passed : RunsGoOn → RunsTakeSteps → (design : FlatDesign) (plan : TestPlan) (fault : StuckAt) (until : ℕ) (m : Simulated) → until ≤ plan.end → IsOnWayTo design plan fault until m →
    ((later : ℕ) → next_of m ≡ Some later → until < later) → IsRunningAt design plan fault (Some until) m
run-passed law take design plan fault until m within way past = record {
  rules = way.at.rules;
  ahead = passed-ahead take design plan fault until m within way past;
  same_machine = way.at.same_machine;
  standing = way.at.standing;
  stage = passed-stage until way.now m way.at.stage past;
  run = law.passes (faulty_machine design fault) plan.end way.now (begun_within plan.end (begins_next m)) (state_kept m) until way.at.run way.since
      (λ begins e. past begins.time (ap (option_map (λ (s : State). s.time)) (within-is plan.end (begins_next m) begins e)));
}

pub none-next : (until : ℕ) (m : Simulated) → next_of m ≡ None → (later : ℕ) → next_of m ≡ Some later → until < later
none-next until m e later f = cc

pub later-next : (until time : ℕ) (m : Simulated) → next_of m ≡ Some time → until < time → (later : ℕ) → next_of m ≡ Some later → until < later
later-next until time m e h later f = subst (λ t. until < t) (some-is time later (sym e ∙ f)) h

-- a run that stopped by a time stopped by a later one
pub stops-later : (design : FlatDesign) (plan : TestPlan) (fault : StuckAt) (time until : ℕ) (end : End) → time ≤ until → StopsWith design plan fault time end → StopsWith design plan fault until end
stops-later design plan fault time until end h s =
    let by : s.stop.time ≤ time = s.by_then in
    record { stop = s.stop; stop_is = s.stop_is; by_then = omega (arith, by, h); ends = s.ends }
