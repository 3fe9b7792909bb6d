-- What a block takes is there (blocks by IEEE 1364-2001, clause 5).
use Rattle.std.proofs.Common.{◌≡◌, ℕ, zero, suc, ◌+◌, ◌<◌, ◌≤◌, Bool, true, false, List, [], ◌∷◌, ◌++◌, length, get_or, drop, refl, sym, ap, subst, ◌∙◌, arith, append_assoc}
use Rattle.std.specs.Prelude.{Some, slice_get, sum_by}
use Rattle.std.specs.List.{All}
use Rattle.std.proofs.lemmas.List.Sums.{sum_by-append, sum_by-cons}
use Rattle.std.proofs.lemmas.Option.{slice_get_within, slice_get-get_or}
use Rattle.vf_base.specs.Lists.{AllHold, has}
use Rattle.v_design.specs.Designs.{FlatDesign, Machine, TestPlan, good_machine}
use Rattle.v_design.specs.States.{State, Event, Step, LaneStep, Evaluation, NetUpdate, after, step_of, is_ready}
use Rattle.v_design.specs.Runs.{FirstSlot, first_event, happened, most_steps}
use Rattle.v_design.specs.Grades.{Phase, phases}
use Rattle.v_design.specs.OwnSteps.{steps_in, runs_of, process_runs}
use Rattle.machine_laws.specs.SlotLoop.{slot_from}
use Rattle.copy_laws.specs.Beside.{AreFirst}
use Rattle.copy_laws.specs.Moves.{ChangesOnly}
use Rattle.process_code.specs.StatesOf.{IsStateOf}
use Rattle.process_code.specs.declared.state.ProcState.{ProcState}
use Rattle.run_ends.specs.RunEnds.{ender_if, ender_of, enders_in}
use Rattle.between_slots.specs.Between.{window_phases}
use Rattle.block_changes.specs.Changes.{EventsChangeParts, parts_changed}
use Rattle.block_ends.specs.Ends.{IsLastOf}
use Rattle.boundary_ends.proofs.Counts.{enders-append}
use Rattle.phase_blocks.proofs.Taken.{takes-step, takes-lane, takes-node, ready-first, lane-first}
use Rattle.phase_blocks.specs.Blocks.{IsWholeBlock, PhasesEndBetweenRuns}
use Rattle.phase_order.specs.Order.{PhasesFollow, phase_steps}
use Rattle.shown_blocks.proofs.moment_runs.Taking.{count-append}
use Rattle.shown_blocks.specs.moment_parts.StatesKept.{AreStatesOf}
use Rattle.shown_blocks.specs.moment_runs.Taken.{count_of}
use Rattle.shown_blocks.specs.moment_parts.Within.{AreWoken, IsWokenIf}
use Rattle.shown_blocks.specs.lockstep_slots.Places.{Place, IsPlaceOf, state_there}
use Rattle.shown_blocks.specs.window_wakes.Wakes.{WakeTold}
use Rattle.shown_blocks.specs.moment_laws.Places.{IsShownAt, IsSlotInOrder}
use Rattle.shown_blocks.specs.moment_laws.Shown.{MomentKept}
use Rattle.shown_blocks.specs.moment_laws.Steps.{untold, woken_within, PutsBlock, CanTake, slot_enders}
use Rattle.shown_blocks.specs.Blocks.{BlockAt}
use Rattle.shown_blocks.proofs.moment_laws.Following.{followed, slot-order}
use Rattle.passed_blocks.proofs.Bounds.{ready-low, lane-low}
use Rattle.shown_blocks.proofs.Ended.{ended-count, process-runs-few}
use Rattle.shown_blocks.proofs.Passed.{BlockLaws, enders-there}

-- Processes

hold-append : (P : ℕ → Type 0) (xs ys : List ℕ) → AllHold P xs → AllHold P ys → AllHold P (xs ++ ys)
hold-append P [] ys h k = k
hold-append P (x ∷ xs) ys h k = (h.0, hold-append P xs ys h.1 k)

all-of : (P : ℕ → Type 0) (xs : List ℕ) → AllHold P xs → All P xs
all-of P xs h k d low = go xs k h low
  where
    go : (ys : List ℕ) (n : ℕ) → AllHold P ys → n < length ys → P (get_or ys n d)
    go [] n held less = absurd (omega (arith, less))
    go (y ∷ ys) zero held less = held.0
    go (y ∷ ys) (suc n) held less = go ys n held.1 (omega (arith, less))

-- the processes whose runs end are the design's
enders-low : EventsChangeParts → (machine : Machine) (state : State) (events : List Event) (count : ℕ) → AreFirst machine state events → length state.nodes ≡ length machine.design.nodes →
    length state.processes ≡ count → AllHold (λ own. own < count) (enders_in machine state events)
enders-low law machine state [] count first nodes processes = tt
enders-low law machine state (event ∷ events) count first nodes processes =
    let changes : ChangesOnly (parts_changed machine state (event ∷ [])) state (after machine state event) = law machine state (event ∷ []) nodes in
    hold-append (λ own. own < count) (ender_of machine state event) (enders_in machine (after machine state event) events) (own event first.0)
    (enders-low law machine (after machine state event) events count first.1 (changes.node_count ∙ nodes) (changes.process_count ∙ processes))
  where
    one : (q : ℕ) (b : Bool) → q < count → AllHold (λ p. p < count) (ender_if b q)
    one q true low = tt
    one q false low = (low, tt)

    own : (e : Event) → first_event state ≡ Some e → AllHold (λ p. p < count) (ender_of machine state e)
    own (Step q) is =
        let low : q < length state.processes = ready-low state q (ready-first state q (takes-step state q is).2) in
        one q (is_ready (step_of machine state q).next) (omega (arith, low, processes))
    own (LaneStep q) is = tt
    own (Evaluation n) is = tt
    own (NetUpdate n) is = tt

-- Runs

-- no phase has more runs of a process than its slot has steps
few-runs : PhasesFollow → (machine : Machine) (place : Place) (slot : FirstSlot) → IsSlotInOrder machine slot → IsPlaceOf machine slot place → (p : ℕ) →
    length (process_runs machine p place.phase) ≤ most_steps
few-runs follow machine place slot ordered is p =
    let all : sum_by phase_steps (phases machine (slot_from machine slot.begins)) ≤ most_steps = (slot-order follow machine slot ordered).few in
    let parts : sum_by phase_steps (phases machine (slot_from machine slot.begins)) ≡ sum_by phase_steps (place.ended ++ place.phase ∷ place.later) =
    ap (sum_by phase_steps) (ap (phases machine) (sym ordered.is) ∙ is.phases_are) in
    let two : sum_by phase_steps (place.ended ++ place.phase ∷ place.later) ≡ sum_by phase_steps place.ended + sum_by phase_steps (place.phase ∷ place.later) =
    sum_by-append phase_steps place.ended (place.phase ∷ place.later) in
    let one : sum_by phase_steps (place.phase ∷ place.later) ≡ phase_steps place.phase + sum_by phase_steps place.later = sum_by-cons phase_steps place.phase place.later in
    let few : length (process_runs machine p place.phase) ≤ phase_steps place.phase = process-runs-few machine place.phase p in
    omega (arith, all, parts, two, one, few)

-- those of a block come behind those before it
have-runs : PhasesEndBetweenRuns → PhasesFollow → (design : FlatDesign) (plan : TestPlan) (place : Place) (old : MomentKept) (block rest : List Event) → IsShownAt design plan place old →
    BlockAt (good_machine design) place block rest → (p : ℕ) → p < length design.processes →
    get_or old.ran p 0 + count_of p (enders_in (good_machine design) (state_there (good_machine design) place) block) ≤ length (process_runs (good_machine design) p place.phase)
have-runs end follow design plan place old block rest shown at p low =
    let machine = good_machine design in
    let there = state_there machine place in
    let ran : get_or old.ran p 0 ≡ length (runs_of (steps_in machine p place.phase.begins place.passed)) = shown.counts.ran p low in
    let before : count_of p (enders_in machine place.phase.begins place.passed) ≡ length (runs_of (steps_in machine p place.phase.begins place.passed)) =
    ended-count machine place.phase.begins place.passed p shown.between in
    let all : count_of p (enders_in machine place.phase.begins place.phase.events) ≡ length (process_runs machine p place.phase) =
    ended-count machine place.phase.begins place.phase.events p
    (end machine place.phase.begins place.phase.events (followed follow machine shown.slot place shown.in_order shown.place_is).idle) in
    let parts : enders_in machine place.phase.begins place.phase.events
    ≡ enders_in machine place.phase.begins place.passed ++ (enders_in machine there block ++ enders_in machine (happened machine there block) rest) =
    ap (enders_in machine place.phase.begins) (shown.place_is.events_are ∙ ap (λ l. place.passed ++ l) at.parts)
    ∙ enders-append machine place.phase.begins place.passed (block ++ rest)
    ∙ ap (λ l. enders_in machine place.phase.begins place.passed ++ l) (enders-append machine there block rest) in
    let counts : count_of p (enders_in machine place.phase.begins place.phase.events)
    ≡ count_of p (enders_in machine place.phase.begins place.passed ++ (enders_in machine there block ++ enders_in machine (happened machine there block) rest)) = ap (count_of p) parts in
    let one : count_of p (enders_in machine place.phase.begins place.passed ++ (enders_in machine there block ++ enders_in machine (happened machine there block) rest))
    ≡ count_of p (enders_in machine place.phase.begins place.passed) + count_of p (enders_in machine there block ++ enders_in machine (happened machine there block) rest) =
    count-append p (enders_in machine place.phase.begins place.passed) (enders_in machine there block ++ enders_in machine (happened machine there block) rest) in
    let two : count_of p (enders_in machine there block ++ enders_in machine (happened machine there block) rest)
    ≡ count_of p (enders_in machine there block) + count_of p (enders_in machine (happened machine there block) rest) =
    count-append p (enders_in machine there block) (enders_in machine (happened machine there block) rest) in
    omega (arith, ran, before, all, counts, one, two)

-- States

states-woken : (design : FlatDesign) (processes : List ℕ) (old new : List ProcState) → AreWoken processes old new → AreStatesOf design old → AreStatesOf design new
states-woken design processes old new woken are p own code here at =
    let low : p < length old = (let l = slice_get_within new p own here in let e : length new ≡ length old = woken.count in omega (arith, l, e)) in
    let was : slice_get old p ≡ Some (get_or old p own) = slice_get-get_or old p own low in
    go (has processes p) (woken.each p (get_or old p own) own was here) (are p (get_or old p own) code was at)
  where
    go : (b : Bool) → IsWokenIf b (get_or old p own) own → IsStateOf code (get_or old p own) → IsStateOf code own
    go true readied state = readied.state_of code state
    go false same state = subst (IsStateOf code) (sym same) state

-- the phase of a place
phase-there : (design : FlatDesign) (plan : TestPlan) (place : Place) (old : MomentKept) → IsShownAt design plan place old → slice_get (window_phases design plan old.before old.through) old.phase ≡ Some place.phase
phase-there design plan place old shown =
    (λ i. slice_get (shown.in_window.phases_are i) (shown.in_window.number_is i)) ∙ at-length shown.in_window.before place.phase (place.later ++ shown.in_window.others)
  where
    at-length : (before : List Phase) (phase : Phase) (more : List Phase) → slice_get (before ++ phase ∷ more) (length before) ≡ Some phase
    at-length [] phase more = refl
    at-length (x ∷ before) phase more = at-length before phase more

-- What a block takes

pub can-take : BlockLaws → PhasesFollow → PhasesEndBetweenRuns → (design : FlatDesign) (plan : TestPlan) (place : Place) (old put : MomentKept) (block rest more : List Event) (first : Event) (limit : ℕ)
    (wakes : List WakeTold) → IsShownAt design plan place old → BlockAt (good_machine design) place block rest → block ≡ first ∷ more → PutsBlock design plan limit wakes (untold old) put →
    CanTake design plan first put
can-take laws follow end design plan place old put block rest more (Step q) limit wakes shown at begins puts = record {
  phase = place.phase;
  phase_is = (λ i. slice_get (window_phases design plan (puts.same.before i) (puts.same.through i)) (puts.same.phase i)) ∙ phase-there design plan place old shown;
  others = last.others;
  rest = from.0;
  enders =
      (λ i. drop (puts.same.runs i) (slot_enders design plan (puts.same.before i) (puts.same.before i + puts.same.slot i))) ∙ from.1 ∙ ap (λ l. l ++ from.0) last.are
      ∙ append_assoc last.others (q ∷ []) from.0;
  once = last.once;
  low =
      subst (All (λ own. own < length design.processes)) last.are
      (all-of (λ own. own < length design.processes) (enders_in machine there block)
      (enders-low laws.changes machine there block (length design.processes) at.whole.first shown.shows.node_count shown.shows.process_count));
  there = λ p low.
      subst (λ l. get_or put.ran p 0 + count_of p l ≤ length (process_runs machine p place.phase)) last.are
      (subst (λ l. get_or l p 0 + count_of p (enders_in machine there block) ≤ length (process_runs machine p place.phase)) (sym puts.same.ran)
      (have-runs end follow design plan place old block rest shown at p low));
  few = λ p. let few : length (process_runs machine p place.phase) ≤ 100000 = few-runs follow machine place shown.slot shown.in_order shown.place_is p in omega (arith, few);
  each = record {
    states = puts.states.count ∙ shown.shows.counts.states;
    later = ap length puts.same.later ∙ shown.shows.counts.later;
    ran = ap length puts.same.ran ∙ shown.shows.counts.ran;
  };
  states = states-woken design (woken_within old.moment limit wakes) old.states put.states puts.states (λ p own code here at. (shown.shows.stands p own here).state_of code at);
}
  where
    machine : Machine
    machine = good_machine design

    there : State
    there = state_there machine place

    last : IsLastOf q (enders_in machine there block)
    last = subst (λ l. IsLastOf q (enders_in machine there l)) (sym begins) (laws.ends.runs machine there q more (subst (IsWholeBlock machine there) begins at.whole))

    from : (later : List ℕ) × (drop old.runs (slot_enders design plan old.before (old.before + old.slot)) ≡ enders_in machine there block ++ later)
    from = enders-there design plan place old block rest shown at.parts
can-take laws follow end design plan place old put block rest more (LaneStep q) limit wakes shown at begins puts =
    let machine = good_machine design in
    let there = state_there machine place in
    let first : AreFirst machine there (LaneStep q ∷ more) = subst (AreFirst machine there) begins at.whole.first in
    let low : q < length there.processes = lane-low there q (lane-first there q (takes-lane there q first.0).1) in
    let count : length put.lanes ≡ length design.processes = ap length puts.same.lanes ∙ shown.shows.counts.lanes in
    let processes : length there.processes ≡ length design.processes = shown.shows.process_count in
    omega (arith, low, count, processes)
can-take laws follow end design plan place old put block rest more (Evaluation n) limit wakes shown at begins puts =
    let machine = good_machine design in
    let there = state_there machine place in
    let first : AreFirst machine there (Evaluation n ∷ more) = subst (AreFirst machine there) begins at.whole.first in
    takes-node there (Evaluation n) refl first.0 shown.between.nodes
can-take laws follow end design plan place old put block rest more (NetUpdate n) limit wakes shown at begins puts =
    let machine = good_machine design in
    let there = state_there machine place in
    let first : AreFirst machine there (NetUpdate n ∷ more) = subst (AreFirst machine there) begins at.whole.first in
    takes-node there (NetUpdate n) refl first.0 shown.between.nodes
