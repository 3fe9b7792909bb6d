-- The updates that a process has pending behind a slot.
use Rattle.std.proofs.Common.{◌≡◌, ℕ, zero, suc, ◌+◌, ◌-◌, ◌<◌, ◌≤◌, List, [], ◌∷◌, ◌++◌, map, length, Bool, true, false, not, cond, refl, sym, ap, subst, ◌∙◌, inl, inr, arith}
use Rattle.std.proofs.Common.{append_assoc, append-nil}
use Rattle.std.specs.Prelude.{Option, Some, None, is_some, filter, slice_get, nat_le}
use Rattle.std.proofs.lemmas.Option.{slice_get_cases, slice_get_within}
use Rattle.vf_base.specs.Lists.{change_at, joined, AllHold}
use Rattle.four_value.specs.Values.{LogicValue}
use Rattle.v_design.specs.Designs.{FlatDesign, FlatNode, Machine, TestPlan, good_machine}
use Rattle.v_design.specs.Assignments.{ValueUpdate, value_at}
use Rattle.v_design.specs.Processes.{Activity}
use Rattle.v_design.specs.States.{State, ProcessState, LaterUpdate, Event, Step, LaneStep, Evaluation, NetUpdate, TurnKind, PostponedTurn, UpdatesTurn, TimeTurn, after, process_at, node_at, found_or}
use Rattle.v_design.specs.States.{idle_process, is_ready, is_postponed, is_due, some_in, turn_by, turn_of, time_turn, next_time_of, start, step_of, appended, woken_process, with_value, with_values}
use Rattle.v_design.specs.States.{with_process, with_node, value_written, written_if, write_of, after_step, first_update, after_lane_step, evaluated, nets_updated, resumed, awake_at}
use Rattle.v_design.specs.Runs.{Move, Happens, Turns, FirstSlot, happened, made, all_made, turned_by, turn_in_slot, first_event, event_or_turn, is_counted, less_one_if, slot_moves}
use Rattle.v_design.specs.Runs.{most_steps, most_moves}
use Rattle.v_design.specs.Runs.{first_moves, first_run, slot_end, is_hyper, next_slot, next_slot_at, only_if}
use Rattle.v_design.specs.WellFormed.{KeepsRules}
use Rattle.v_design.specs.Grades.{Phase, cut, phases}
use Rattle.v_design.specs.OwnSteps.{StepSeen, ProcessRun, steps_in, run_before, runs_of}
use Rattle.order_laws.specs.FirstRuns.{Follow, Rise}
use Rattle.copy_laws.specs.SharedRuns.{appended_by, is_there, PhaseAppendsAreOfSteps}
use Rattle.copy_laws.specs.OwnRuns.{EventsTakeNoTime}
use Rattle.copy_laws.specs.Windows.{good_slots}
use Rattle.between_slots.specs.Between.{state_after, state_through, window_phases}
use Rattle.between_slots.specs.WindowLaws.{window_phases-none, window_phases-more}
use Rattle.between_slots.specs.Updates.{due_after, appended_in_phase, appended_in, updates_through, AreFew, SlotsTakeNoTime, UpdatesArePending}
use Rattle.between_slots.specs.UpdateLaws.{due-append, due-later}
use Rattle.between_slots.proofs.Leaving.{happened-push}
use Rattle.between_slots.proofs.Resting.{LoopLaws, few-steps, or-neither, some-slot}
use Rattle.between_slots.proofs.Leading.{after-is, after-rest, through-after, through-get}
use Rattle.between_slots.proofs.Ends.{IsAsked, asked-few, good-asked}

-- the laws that these rest on
pub record PendingLaws : Type 0 where
  pub loop : LoopLaws
  pub appends : PhaseAppendsAreOfSteps
  pub time : EventsTakeNoTime

-- What runs append is what their steps append

before-appended : (time : ℕ) (first : Activity × StepSeen) (runs : List ProcessRun) (goes_on : Bool) →
    joined (map (λ (run : ProcessRun). appended_by time run.steps) (run_before goes_on first runs))
    ≡ appended time first.1.step.action ++ joined (map (λ (run : ProcessRun). appended_by time run.steps) runs)
before-appended time first runs false =
    ap (λ l. l ++ joined (map (λ (run : ProcessRun). appended_by time run.steps) runs)) (append-nil (appended time first.1.step.action))
before-appended time first [] true = ap (λ l. l ++ []) (append-nil (appended time first.1.step.action))
before-appended time first (run ∷ runs) true =
    append_assoc (appended time first.1.step.action) (appended_by time run.steps) (joined (map (λ (other : ProcessRun). appended_by time other.steps) runs))

runs-appended : (time : ℕ) (steps : List (Activity × StepSeen)) →
    joined (map (λ (run : ProcessRun). appended_by time run.steps) (runs_of steps)) ≡ appended_by time (map (λ (step : Activity × StepSeen). step.1) steps)
runs-appended time [] = refl
runs-appended time (first ∷ rest) =
    before-appended time first (runs_of rest) (is_ready first.1.step.next) ∙ ap (λ l. appended time first.1.step.action ++ l) (runs-appended time rest)

-- All processes stay there

there-changed : (xs : List ProcessState) (q p : ℕ) (h : ProcessState → ProcessState) → is_some (slice_get (change_at xs q h) p) ≡ is_some (slice_get xs p)
there-changed [] q p h = refl
there-changed (x ∷ xs) zero zero h = refl
there-changed (x ∷ xs) zero (suc p) h = refl
there-changed (x ∷ xs) (suc q) zero h = refl
there-changed (x ∷ xs) (suc q) (suc p) h = there-changed xs q p h

there-mapped : (f : ProcessState → ProcessState) (xs : List ProcessState) (p : ℕ) → is_some (slice_get (map f xs) p) ≡ is_some (slice_get xs p)
there-mapped f [] p = refl
there-mapped f (x ∷ xs) zero = refl
there-mapped f (x ∷ xs) (suc p) = there-mapped f xs p

there-written : (machine : Machine) (update : Option ValueUpdate) (state : State) (p : ℕ) → is_there p (written_if machine update state) ≡ is_there p state
there-written machine None state p = refl
there-written machine (Some update) state p = there-mapped (woken_process update.object (value_at state.values update.object) (value_written machine state update)) state.processes p

there-puts : (machine : Machine) (objects : List ℕ) (values : List LogicValue) (state : State) (p : ℕ) → is_there p (with_values machine objects values state) ≡ is_there p state
there-puts machine [] values state p = refl
there-puts machine (object ∷ objects) [] state p = refl
there-puts machine (object ∷ objects) (value ∷ values) state p =
    there-puts machine objects values (with_value machine object value state) p ∙ there-mapped (woken_process object (value_at state.values object) value) state.processes p

there-evaluated : (machine : Machine) (number : ℕ) (found : Option FlatNode) (state : State) (p : ℕ) → is_there p (evaluated machine number found state) ≡ is_there p state
there-evaluated machine number None state p = refl
there-evaluated machine number (Some node) state p = refl

there-updated : (machine : Machine) (number : ℕ) (found : Option FlatNode) (pending : Option (List LogicValue)) (state : State) (p : ℕ) →
    is_there p (nets_updated machine number found pending state) ≡ is_there p state
there-updated machine number None pending state p = refl
there-updated machine number (Some node) None state p = refl
there-updated machine number (Some node) (Some values) state p = there-puts machine node.outputs values (with_node number (λ old. record old { pending = None }) state) p

there-after : (machine : Machine) (state : State) (event : Event) (p : ℕ) → is_there p (after machine state event) ≡ is_there p state
there-after machine state (Step q) p =
    there-written machine (write_of (step_of machine state q).action) (with_process q (after_step state (step_of machine state q)) state) p
    ∙ there-changed state.processes q p (after_step state (step_of machine state q))
there-after machine state (LaneStep q) p =
    there-written machine (first_update (process_at state q).lane) (with_process q after_lane_step state) p ∙ there-changed state.processes q p after_lane_step
there-after machine state (Evaluation number) p = there-evaluated machine number (slice_get machine.design.nodes number) state p
there-after machine state (NetUpdate number) p = there-updated machine number (slice_get machine.design.nodes number) (node_at state number).pending state p

happened-there : (machine : Machine) (state : State) (events : List Event) (p : ℕ) → is_there p (happened machine state events) ≡ is_there p state
happened-there machine state [] p = refl
happened-there machine state (event ∷ events) p = happened-there machine (after machine state event) events p ∙ there-after machine state event p

-- A slot's moves

-- the turns among some moves are such as a slot has
abbrev StayWithin : Machine → State → List Move → Type 0
StayWithin machine state [] = Unit {0}
StayWithin machine state (Happens event ∷ moves) = StayWithin machine (after machine state event) moves
StayWithin machine state (Turns ∷ moves) = (turn_in_slot (turn_of state) ≡ Some Turns) × StayWithin machine (made machine state Turns) moves

-- the moves that begin with one, if one comes
abbrev moves_from : ℕ → ℕ → Machine → State → Option Move → List Move
moves_from most left machine state None = []
moves_from most left machine state (Some move) = move ∷ slot_moves most (less_one_if (is_counted move) (suc left)) machine (made machine state move)

stays-from : (most left : ℕ) (machine : Machine) (state : State) → ((less : ℕ) (next : State) → StayWithin machine next (slot_moves most less machine next)) →
    (found : Option Event) (turn : Option TurnKind) → turn_of state ≡ turn → StayWithin machine state (moves_from most left machine state (event_or_turn found turn))
stays-from most left machine state rest (Some event) turn t = rest (less_one_if (is_counted (Happens event)) (suc left)) (after machine state event)
stays-from most left machine state rest None None t = tt
stays-from most left machine state rest None (Some PostponedTurn) t = (ap turn_in_slot t, rest (suc left) (made machine state Turns))
stays-from most left machine state rest None (Some UpdatesTurn) t = (ap turn_in_slot t, rest (suc left) (made machine state Turns))
stays-from most left machine state rest None (Some (TimeTurn time)) t = tt

stays : (most left : ℕ) (machine : Machine) (state : State) → StayWithin machine state (slot_moves most left machine state)
stays zero left machine state = tt
stays (suc most) zero machine state = tt
stays (suc most) (suc left) machine state = stays-from most left machine state (λ less next. stays most less machine next) (first_event state) (turn_of state) refl

-- What is pending at a moment of a slot

-- the present time is that of the slot, and of the updates that a process has, those due later are those of some updates
record IsPending (machine : Machine) (p time : ℕ) (updates : List LaterUpdate) (state : State) : Type 0 where
  now : state.time ≡ time
  there : is_there p state ≡ true
  later : due_after time (process_at state p).later ≡ due_after time updates

phase-pends : PendingLaws → (machine : Machine) (p time : ℕ) (updates : List LaterUpdate) (turn : Option TurnKind) (begins : State) (events : List Event) →
    IsPending machine p time updates begins →
    IsPending machine p time (updates ++ appended_in_phase machine p (record { turn = turn; begins = begins; events = events })) (happened machine begins events)
phase-pends laws machine p time updates turn begins events had = record {
  now = laws.time machine begins events ∙ had.now;
  there = happened-there machine begins events p ∙ had.there;
  later =
      ap (due_after time)
      (laws.appends machine p begins events had.there ∙ ap (λ l. (process_at begins p).later ++ l) (sym (runs-appended begins.time (steps_in machine p begins events))))
      ∙ due-append time (process_at begins p).later more
      ∙ ap (λ l. l ++ due_after time more) had.later ∙ sym (due-append time updates more);
}
  where
    more : List LaterUpdate
    more = appended_in_phase machine p (record { turn = turn; begins = begins; events = events })

-- a change of each process changes the updates of one alike
mapped-later : (f : ProcessState → ProcessState) (g : List LaterUpdate → List LaterUpdate) (xs : List ProcessState) (p : ℕ) → ((x : ProcessState) → (f x).later ≡ g x.later) → g [] ≡ [] →
    (found_or idle_process (slice_get (map f xs) p)).later ≡ g (found_or idle_process (slice_get xs p)).later
mapped-later f g [] p each none = sym none
mapped-later f g (x ∷ xs) zero each none = each x
mapped-later f g (x ∷ xs) (suc p) each none = mapped-later f g xs p each none

turn-pends : (machine : Machine) (p time : ℕ) (updates : List LaterUpdate) (state : State) (turn : Option TurnKind) → turn_in_slot turn ≡ Some Turns →
    IsPending machine p time updates state → IsPending machine p time updates (turned_by turn state)
turn-pends machine p time updates state None inside had = cc
turn-pends machine p time updates state (Some (TimeTurn later)) inside had = cc
turn-pends machine p time updates state (Some PostponedTurn) inside had = record {
  now = had.now;
  there = there-mapped (λ (process : ProcessState). record process { activity = resumed process.activity }) state.processes p ∙ had.there;
  later =
      ap (due_after time) (mapped-later (λ (process : ProcessState). record process { activity = resumed process.activity }) (λ l. l) state.processes p (λ x. refl) refl)
      ∙ had.later;
}
turn-pends machine p time updates state (Some UpdatesTurn) inside had = record {
  now = had.now;
  there = there-mapped activated state.processes p ∙ had.there;
  later =
      ap (due_after time) (mapped-later activated (due_after state.time) state.processes p (λ x. refl) refl)
      ∙ due-later state.time time (process_at state p).later (omega (arith, had.now)) ∙ had.later;
}
  where
    activated : ProcessState → ProcessState
    activated process = record process {
      later = filter (λ (later : LaterUpdate). not (is_due state.time later)) process.later;
      lane = process.lane ++ map (λ (later : LaterUpdate). later.update) (filter (is_due state.time) process.later);
    }

cut-pends : PendingLaws → (machine : Machine) (p time : ℕ) (updates : List LaterUpdate) (turn : Option TurnKind) (begins : State) (events : List Event) (state : State) (moves : List Move) →
    state ≡ happened machine begins events → StayWithin machine state moves → IsPending machine p time updates begins →
    IsPending machine p time (updates ++ appended_in machine p (cut machine turn begins events state moves)) (all_made machine state moves)
cut-pends laws machine p time updates turn begins events state [] here stay had =
    let phase : Phase = record { turn = turn; begins = begins; events = events } in
    subst (λ l. IsPending machine p time (updates ++ l) state) (sym (append-nil (appended_in_phase machine p phase)))
    (subst (λ s. IsPending machine p time (updates ++ appended_in_phase machine p phase) s) (sym here) (phase-pends laws machine p time updates turn begins events had))
cut-pends laws machine p time updates turn begins events state (Happens event ∷ moves) here stay had =
    cut-pends laws machine p time updates turn begins (events ++ event ∷ []) (after machine state event) moves
    (ap (λ s. after machine s event) here ∙ sym (happened-push machine begins events event)) stay had
cut-pends laws machine p time updates turn begins events state (Turns ∷ moves) here stay had =
    let phase : Phase = record { turn = turn; begins = begins; events = events } in
    let next = made machine state Turns in
    let ended = subst (λ s. IsPending machine p time (updates ++ appended_in_phase machine p phase) s) (sym here) (phase-pends laws machine p time updates turn begins events had) in
    subst (λ l. IsPending machine p time l (all_made machine next moves))
    (append_assoc updates (appended_in_phase machine p phase) (appended_in machine p (cut machine (turn_of state) next [] next moves)))
    (cut-pends laws machine p time (updates ++ appended_in_phase machine p phase) (turn_of state) next [] next moves refl stay.1
    (turn-pends machine p time (updates ++ appended_in_phase machine p phase) state (turn_of state) stay.0 ended))

-- At a slot's end no update is due

none-of : (test : ProcessState → Bool) (xs : List ProcessState) (p : ℕ) → test idle_process ≡ false → some_in test xs ≡ false → test (found_or idle_process (slice_get xs p)) ≡ false
none-of test [] p idle h = idle
none-of test (x ∷ xs) zero idle h = (or-neither (test x) (some_in test xs) h).0
none-of test (x ∷ xs) (suc p) idle h = none-of test xs p idle (or-neither (test x) (some_in test xs) h).1

none-due : (state : State) (p : ℕ) → turn_in_slot (turn_of state) ≡ None → some_in (is_due state.time) (process_at state p).later ≡ false
none-due state p e =
    none-of (λ (process : ProcessState). some_in (is_due state.time) process.later) state.processes p refl
    (go (some_in (λ (process : ProcessState). is_postponed process.activity) state.processes) (some_in (λ (process : ProcessState). some_in (is_due state.time) process.later) state.processes)
    (next_time_of state.processes) e)
  where
    go : (postponed due : Bool) (next : Option ℕ) → turn_in_slot (turn_by postponed due next) ≡ None → due ≡ false
    go true due next f = cc
    go false true next f = cc
    go false false next f = refl

all-late : (time : ℕ) (updates : List LaterUpdate) → some_in (is_due time) updates ≡ false → due_after time updates ≡ updates
all-late time [] h = refl
all-late time (x ∷ updates) h =
    let parts = or-neither (is_due time x) (some_in (is_due time) updates) h in
    λ i. cond (not (parts.0 i)) (x ∷ all-late time updates parts.1 i) (all-late time updates parts.1 i)

-- a slot that begins as the laws ask
slot-pends : PendingLaws → (machine : Machine) → KeepsRules machine.design → (p : ℕ) (slot : FirstSlot) → IsAsked machine slot → is_hyper slot ≡ false → is_there p slot.begins ≡ true →
    (process_at (slot_end machine slot) p).later ≡ due_after slot.begins.time ((process_at slot.begins p).later ++ appended_in machine p (phases machine slot))
slot-pends laws machine rules p slot asked few there =
    sym (subst (λ time. due_after time (process_at (slot_end machine slot) p).later ≡ (process_at (slot_end machine slot) p).later) pends.now
    (all-late (slot_end machine slot).time (process_at (slot_end machine slot) p).later (none-due (slot_end machine slot) p quiet)))
    ∙ pends.later
  where
    within : StayWithin machine slot.begins slot.moves
    within = subst (StayWithin machine slot.begins) (sym asked.moves) (stays (most_moves machine) (most_steps + 1) machine slot.begins)

    pends : IsPending machine p slot.begins.time ((process_at slot.begins p).later ++ appended_in machine p (phases machine slot)) (slot_end machine slot)
    pends = cut-pends laws machine p slot.begins.time (process_at slot.begins p).later None slot.begins [] slot.begins slot.moves refl within (record { now = refl; there = there; later = refl })

    quiet : turn_in_slot (turn_of (slot_end machine slot)) ≡ None
    quiet =
        ap (λ moves. turn_in_slot (turn_of (all_made machine slot.begins moves))) asked.moves
        ∙ (laws.loop.ends machine slot.begins rules asked.asked
        (few-steps (record { begins = slot.begins; moves = first_moves machine slot.begins }) (asked-few machine slot asked few))).1

-- A slot's beginning

-- each process has the updates pending that it had in another state
abbrev HasSame : State → State → Type 0
HasSame state before = (p : ℕ) → (process_at state p).later ≡ (process_at before p).later

abbrev MayHaveSame : Option State → State → Type 0
MayHaveSame None before = Unit {0}
MayHaveSame (Some state) before = HasSame state before

next-same : (machine : Machine) (time : ℕ) (slot : FirstSlot) → MayHaveSame (next_slot machine time slot) (slot_end machine slot)
next-same machine time slot = go (is_hyper slot)
  where
    timed : (later : ℕ) (b : Bool) → MayHaveSame (only_if b (time_turn later (slot_end machine slot))) (slot_end machine slot)
    timed later true = λ p.
        mapped-later (λ (process : ProcessState). record process { activity = awake_at later process.activity }) (λ l. l) (slot_end machine slot).processes p (λ x. refl) refl
    timed later false = tt

    at : (turn : Option TurnKind) → MayHaveSame (next_slot_at time (slot_end machine slot) turn) (slot_end machine slot)
    at None = tt
    at (Some PostponedTurn) = tt
    at (Some UpdatesTurn) = tt
    at (Some (TimeTurn later)) = timed later (nat_le later time)

    go : (hyper : Bool) → MayHaveSame (elim hyper as (λ _. Option State) [ true ↦ None | false ↦ next_slot_at time (slot_end machine slot) (turn_of (slot_end machine slot)) ]) (slot_end machine slot)
    go true = tt
    go false = at (turn_of (slot_end machine slot))

follow-same : (machine : Machine) (time : ℕ) (begins : Option State) (before : State) (slots : List FirstSlot) → MayHaveSame begins before → Follow machine time begins slots →
    (number : ℕ) (slot : FirstSlot) → slice_get slots number ≡ Some slot → HasSame slot.begins (state_after machine before slots number)
follow-same machine time None before [] same follow number slot here = cc
follow-same machine time None before (first ∷ slots) same follow number slot here = absurd follow
follow-same machine time (Some state) before [] same follow number slot here = absurd follow
follow-same machine time (Some state) before (first ∷ slots) same follow zero slot here =
    subst (λ (x : FirstSlot). HasSame x.begins before) (sym follow.0 ∙ some-slot first slot here) same
follow-same machine time (Some state) before (first ∷ slots) same follow (suc number) slot here =
    subst (HasSame slot.begins) (sym (after-rest machine before first slots number (slice_get_within slots number slot here)))
    (follow-same machine time (next_slot machine time first) (slot_end machine first) slots (next-same machine time first) follow.1 number slot here)

good-same : LoopLaws → (design : FlatDesign) (plan : TestPlan) → KeepsRules design → (number : ℕ) (slot : FirstSlot) → slice_get (good_slots design plan) number ≡ Some slot →
    HasSame slot.begins (state_through design plan number)
good-same laws design plan rules number slot here =
    let machine = good_machine design in
    let low : number < length (good_slots design plan) = slice_get_within (good_slots design plan) number slot here in
    subst (HasSame slot.begins) (sym (through-after machine (start machine) (first_run machine plan.end) number (omega arith)))
    (follow-same machine plan.end (Some (start machine)) (start machine) (first_run machine plan.end) (λ p. refl) (laws.runs.follow machine plan.end rules) number slot
    (through-get machine (first_run machine plan.end) number slot here))

-- Slots in a row

held-at : {A : Type 0} (P : A → Type 0) (xs : List A) → AllHold P xs → (i : ℕ) (x : A) → slice_get xs i ≡ Some x → P x
held-at P [] h i x here = cc
held-at P (y ∷ xs) h zero x here = let same : y ≡ x = cc in subst P same h.0
held-at P (y ∷ xs) h (suc i) x here = held-at P xs h.1 i x here

rise-at : (slots : List FirstSlot) → Rise slots → (i j : ℕ) (slot later : FirstSlot) → i < j → slice_get slots i ≡ Some slot → slice_get slots j ≡ Some later → slot.begins.time < later.begins.time
rise-at [] rises i j slot later low here there = cc
rise-at (first ∷ slots) rises zero zero slot later low here there = absurd (omega (arith, low))
rise-at (first ∷ slots) rises zero (suc j) slot later low here there =
    subst (λ (s : FirstSlot). s.begins.time < later.begins.time) (some-slot first slot here)
    (held-at (λ (next : FirstSlot). first.begins.time < next.begins.time) slots rises.0 j later there)
rise-at (first ∷ slots) rises (suc i) zero slot later low here there = absurd (omega (arith, low))
rise-at (first ∷ slots) rises (suc i) (suc j) slot later low here there = rise-at slots rises.1 i j slot later (omega (arith, low)) here there

times-rise : LoopLaws → (design : FlatDesign) (plan : TestPlan) → KeepsRules design → (number : ℕ) (slot next : FirstSlot) → slice_get (good_slots design plan) number ≡ Some slot →
    slice_get (good_slots design plan) (suc number) ≡ Some next → slot.begins.time < next.begins.time
times-rise laws design plan rules number slot next here there =
    let machine = good_machine design in
    let run = first_run machine plan.end in
    rise-at run (laws.runs.rise machine plan.end rules) number (suc number) slot next (omega arith) (through-get machine run number slot here) (through-get machine run (suc number) next there)

is-there : (xs : List ProcessState) (p : ℕ) → p < length xs → is_some (slice_get xs p) ≡ true
is-there xs p low = elim (slice_get_cases xs p).1 [ inl found ↦ ap is_some found.2 | inr past ↦ absurd (omega (arith, past.0, low)) ]

-- one slot more
one-pends : PendingLaws → (design : FlatDesign) (plan : TestPlan) → KeepsRules design → (number p : ℕ) (slot : FirstSlot) → slice_get (good_slots design plan) number ≡ Some slot →
    is_hyper slot ≡ false → p < length design.processes →
    updates_through design plan (suc number) p
    ≡ due_after slot.begins.time (updates_through design plan number p ++ appended_in (good_machine design) p (phases (good_machine design) slot))
one-pends laws design plan rules number p slot here few low =
    let machine = good_machine design in
    let asked = good-asked laws.loop design plan rules number slot here in
    let count : length slot.begins.processes ≡ length design.processes = asked.asked.fits.processes in
    ap (λ (s : State). (process_at s p).later) (after-is machine (start machine) (good_slots design plan) number slot here)
    ∙ slot-pends laws machine rules p slot asked few (is-there slot.begins.processes p (omega (arith, count, low)))
    ∙ ap (λ l. due_after slot.begins.time (l ++ appended_in machine p (phases machine slot))) (good-same laws.loop design plan rules number slot here p)

appended-join : (machine : Machine) (p : ℕ) (xs ys : List Phase) → appended_in machine p (xs ++ ys) ≡ appended_in machine p xs ++ appended_in machine p ys
appended-join machine p [] ys = refl
appended-join machine p (x ∷ xs) ys =
    ap (λ l. appended_in_phase machine p x ++ l) (appended-join machine p xs ys) ∙ sym (append_assoc (appended_in_phase machine p x) (appended_in machine p xs) (appended_in machine p ys))

-- so many slots more
abbrev PendsTo : FlatDesign → TestPlan → ℕ → ℕ → ℕ → Type 0
PendsTo design plan begins p last =
    (slot : FirstSlot) → slice_get (good_slots design plan) last ≡ Some slot → AreFew design plan begins (suc last) →
    updates_through design plan (suc last) p
    ≡ due_after slot.begins.time (updates_through design plan begins p ++ appended_in (good_machine design) p (window_phases design plan begins (suc last)))

window-pends : PendingLaws → (design : FlatDesign) (plan : TestPlan) → KeepsRules design → (begins p count last : ℕ) → p < length design.processes → last ≡ begins + count →
    PendsTo design plan begins p last
window-pends laws design plan rules begins p zero last low is =
    let same : begins ≡ last = omega (arith, is) in
    subst (PendsTo design plan begins p) same
    (λ slot here few.
    one-pends laws design plan rules begins p slot here (few begins slot (omega arith) (omega arith) here) low
    ∙ ap (λ l. due_after slot.begins.time (updates_through design plan begins p ++ appended_in (good_machine design) p l))
    (sym (window_phases-more design plan begins begins slot (omega arith) here ∙ ap (λ l. l ++ phases (good_machine design) slot) (window_phases-none design plan begins))))
window-pends laws design plan rules begins p (suc count) last low is =
    let same : suc (begins + count) ≡ last = omega (arith, is) in
    subst (PendsTo design plan begins p) same
    (λ slot here few. elim (slice_get_cases (good_slots design plan) (begins + count)).1 [
      | inl found ↦
          more (begins + count) found.0 slot found.2 here (omega arith) (few (suc (begins + count)) slot (omega arith) (omega arith) here)
          (window-pends laws design plan rules begins p count (begins + count) low refl found.0 found.2
          (λ number one from before at. few number one from (omega (arith, before)) at))
      | inr past ↦ let within = slice_get_within (good_slots design plan) (suc (begins + count)) slot here in absurd (omega (arith, past.0, within))
    ])
  where
    more : (number : ℕ) (before slot : FirstSlot) → slice_get (good_slots design plan) number ≡ Some before → slice_get (good_slots design plan) (suc number) ≡ Some slot → begins ≤ number →
        is_hyper slot ≡ false →
        updates_through design plan (suc number) p
        ≡ due_after before.begins.time (updates_through design plan begins p ++ appended_in (good_machine design) p (window_phases design plan begins (suc number))) →
        updates_through design plan (suc (suc number)) p
        ≡ due_after slot.begins.time (updates_through design plan begins p ++ appended_in (good_machine design) p (window_phases design plan begins (suc (suc number))))
    more number before slot there here from few had =
        let machine = good_machine design in
        let first = updates_through design plan begins p in
        let window = appended_in machine p (window_phases design plan begins (suc number)) in
        let own = appended_in machine p (phases machine slot) in
        let rises = times-rise laws.loop design plan rules number before slot there here in
        one-pends laws design plan rules (suc number) p slot here few low
        ∙ ap (λ l. due_after slot.begins.time (l ++ own)) had
        ∙ due-append slot.begins.time (due_after before.begins.time (first ++ window)) own
        ∙ ap (λ l. l ++ due_after slot.begins.time own) (due-later before.begins.time slot.begins.time (first ++ window) (omega (arith, rises)))
        ∙ sym (due-append slot.begins.time (first ++ window) own)
        ∙ ap (due_after slot.begins.time) (append_assoc first window own)
        ∙ ap (λ l. due_after slot.begins.time (first ++ l))
        (sym (appended-join machine p (window_phases design plan begins (suc number)) (phases machine slot))
        ∙ ap (appended_in machine p) (sym (window_phases-more design plan begins (suc number) slot (omega (arith, from)) here)))

pub updates_pend : PendingLaws → UpdatesArePending
updates_pend laws design plan begins last p slot rules low here few within =
    window-pends laws design plan rules begins p (last - begins) last within (omega (arith, low)) slot here few

-- The time of a slot

turn-time : (state : State) (turn : Option TurnKind) → turn_in_slot turn ≡ Some Turns → (turned_by turn state).time ≡ state.time
turn-time state None inside = refl
turn-time state (Some PostponedTurn) inside = refl
turn-time state (Some UpdatesTurn) inside = refl
turn-time state (Some (TimeTurn later)) inside = cc

moves-time : EventsTakeNoTime → (machine : Machine) (state : State) (moves : List Move) → StayWithin machine state moves → (all_made machine state moves).time ≡ state.time
moves-time still machine state [] stay = refl
moves-time still machine state (Happens event ∷ moves) stay = moves-time still machine (after machine state event) moves stay ∙ still machine state (event ∷ [])
moves-time still machine state (Turns ∷ moves) stay = moves-time still machine (made machine state Turns) moves stay.1 ∙ turn-time state (turn_of state) stay.0

pub slots_take_no_time : PendingLaws → SlotsTakeNoTime
slots_take_no_time laws design plan last slot rules here =
    let machine = good_machine design in
    let asked = good-asked laws.loop design plan rules last slot here in
    ap (λ (s : State). s.time) (after-is machine (start machine) (good_slots design plan) last slot here)
    ∙ moves-time laws.time machine slot.begins slot.moves (subst (StayWithin machine slot.begins) (sym asked.moves) (stays (most_moves machine) (most_steps + 1) machine slot.begins))
