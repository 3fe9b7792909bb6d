-- In a run each process waits, and may wait yet, for entries of its body alone.
use Rattle.std.proofs.Common.{◌≡◌, ℕ, zero, suc, List, [], ◌∷◌, map, Bool, true, false, refl, sym, ap, subst, ◌⊎◌, inl, inr, filter, not, ◌++◌}
use Rattle.std.specs.Prelude.{Option, Some, None, slice_get, nat_le, if◌then◌else◌}
use Rattle.four_value.specs.Values.{LogicValue}
use Rattle.vf_base.specs.Lists.{AllHold, change_at}
use Rattle.v_design.specs.Trees.{Entry, Null}
use Rattle.v_design.specs.Designs.{FlatNode, FlatProcess, Machine}
use Rattle.v_design.specs.Assignments.{ValueUpdate, value_at}
use Rattle.v_design.specs.Processes.{Activity, Ready, Waiting, Asleep, Postponed, Done, Action, ReadsObject, WritesObject, AppendsUpdate, TouchesNothing, opened}
use Rattle.v_design.specs.States.{State, ProcessState, Event, Step, LaneStep, Evaluation, NetUpdate, TurnKind, PostponedTurn, UpdatesTurn, TimeTurn, process_at, found_or, idle_process, source_at}
use Rattle.v_design.specs.States.{start, entry_matches, some_entry, ready_if, woken, woken_process, with_value, with_values, written_if, value_written, with_process, with_operand, next_activity}
use Rattle.v_design.specs.States.{write_of, activity_step, step_of, after_step, first_update, after_lane_step, with_node, evaluated, nets_updated, after, resumed, awake_at, turn_of, turned}
use Rattle.v_design.specs.States.{LaterUpdate, is_due, node_at}
use Rattle.v_design.specs.Runs.{Move, Happens, Turns, turned_by, made, all_made}
use Rattle.process_table.specs.Waited.{waited_entries, tasks_entries, activity_entries, body_of}
use Rattle.process_table.specs.WaitedLaws.{hold-right, opened-waits, step-waits}

-- each process waits for such entries alone
abbrev pub WaitsHold : (ℕ → Entry → Type 0) → State → Type 0
WaitsHold P state = (n : ℕ) → AllHold (P n) (activity_entries (process_at state n).activity)

-- the bodies have such entries alone
abbrev pub BodiesHold : (ℕ → Entry → Type 0) → Machine → Type 0
BodiesHold P machine = (n : ℕ) → AllHold (P n) (waited_entries (body_of machine.design n))

-- Parts of a list

found-mapped : (f : ProcessState → ProcessState) (xs : List ProcessState) (n : ℕ) → f idle_process ≡ idle_process →
    found_or idle_process (slice_get (map f xs) n) ≡ f (found_or idle_process (slice_get xs n))
found-mapped f [] n e = sym e
found-mapped f (x ∷ xs) zero e = refl
found-mapped f (x ∷ xs) (suc n) e = found-mapped f xs n e

changed-or : (xs : List ProcessState) (place n : ℕ) (f : ProcessState → ProcessState) →
    (found_or idle_process (slice_get (change_at xs place f) n) ≡ found_or idle_process (slice_get xs n))
    ⊎ ((place ≡ n) × (found_or idle_process (slice_get (change_at xs place f) n) ≡ f (found_or idle_process (slice_get xs n))))
changed-or [] place n f = inl refl
changed-or (x ∷ xs) zero zero f = inr (refl, refl)
changed-or (x ∷ xs) zero (suc n) f = inl refl
changed-or (x ∷ xs) (suc place) zero f = inl refl
changed-or (x ∷ xs) (suc place) (suc n) f = elim (changed-or xs place n f) [ inl e ↦ inl e | inr e ↦ inr (ap suc e.0, e.1) ]

-- A write

woken-waits : (P : Entry → Type 0) (object : ℕ) (old new : LogicValue) (activity : Activity) → AllHold P (activity_entries activity) → AllHold P (activity_entries (woken object old new activity))
woken-waits P object old new (Ready tasks operands) h = h
woken-waits P object old new (Waiting place entries tasks) h = go (some_entry (entry_matches object old new) entries)
  where
    go : (b : Bool) → AllHold P (activity_entries (ready_if b (Waiting place entries tasks) tasks))
    go true = hold-right P entries (tasks_entries tasks) h
    go false = h
woken-waits P object old new (Asleep time tasks) h = h
woken-waits P object old new (Postponed tasks) h = h
woken-waits P object old new Done h = h

put-waits : (P : ℕ → Entry → Type 0) (machine : Machine) (object : ℕ) (new : LogicValue) (state : State) → WaitsHold P state → WaitsHold P (with_value machine object new state)
put-waits P machine object new state h n =
    subst (λ (s : ProcessState). AllHold (P n) (activity_entries s.activity)) (sym (found-mapped (woken_process object (value_at state.values object) new) state.processes n refl))
    (woken-waits (P n) object (value_at state.values object) new (process_at state n).activity (h n))

written-waits : (P : ℕ → Entry → Type 0) (machine : Machine) (update : Option ValueUpdate) (state : State) → WaitsHold P state → WaitsHold P (written_if machine update state)
written-waits P machine None state h = h
written-waits P machine (Some update) state h = put-waits P machine update.object (value_written machine state update) state h

puts-waits : (P : ℕ → Entry → Type 0) (machine : Machine) (objects : List ℕ) (values : List LogicValue) (state : State) → WaitsHold P state →
    WaitsHold P (with_values machine objects values state)
puts-waits P machine [] values state h = h
puts-waits P machine (object ∷ objects) [] state h = h
puts-waits P machine (object ∷ objects) (value ∷ values) state h = puts-waits P machine objects values (with_value machine object value state) (put-waits P machine object value state h)

-- A process

one-waits : (P : ℕ → Entry → Type 0) (process : ℕ) (change : ProcessState → ProcessState) (state : State) → WaitsHold P state →
    AllHold (P process) (activity_entries (change (process_at state process)).activity) → WaitsHold P (with_process process change state)
one-waits P process change state h own n = elim (changed-or state.processes process n change) [
  | inl e ↦ subst (λ (s : ProcessState). AllHold (P n) (activity_entries s.activity)) (sym e) (h n)
  | inr e ↦
      subst (λ (s : ProcessState). AllHold (P n) (activity_entries s.activity)) (sym e.1)
      (subst (λ m. AllHold (P m) (activity_entries (change (process_at state m)).activity)) e.0 own)
]

operand-waits : (P : Entry → Type 0) (value : LogicValue) (activity : Activity) → AllHold P (activity_entries activity) → AllHold P (activity_entries (with_operand value activity))
operand-waits P value (Ready tasks operands) h = h
operand-waits P value (Waiting place entries tasks) h = h
operand-waits P value (Asleep time tasks) h = h
operand-waits P value (Postponed tasks) h = h
operand-waits P value Done h = h

next-waits : (P : Entry → Type 0) (values : List LogicValue) (action : Action) (activity : Activity) → AllHold P (activity_entries activity) →
    AllHold P (activity_entries (next_activity values action activity))
next-waits P values (ReadsObject object) activity h = operand-waits P (value_at values object) activity h
next-waits P values (WritesObject update) activity h = h
next-waits P values (AppendsUpdate delay update) activity h = h
next-waits P values TouchesNothing activity h = h

activity-waits : (P : Entry → Type 0) (machine : Machine) (state : State) (process : ℕ) (activity : Activity) → AllHold P (waited_entries (body_of machine.design process)) →
    AllHold P (activity_entries activity) → AllHold P (activity_entries (activity_step machine state process activity).next)
activity-waits P machine state process (Ready tasks operands) b h = step-waits P (source_at machine process) state.time tasks operands b h
activity-waits P machine state process (Waiting place entries tasks) b h = h
activity-waits P machine state process (Asleep time tasks) b h = h
activity-waits P machine state process (Postponed tasks) b h = h
activity-waits P machine state process Done b h = h

-- An event

updated-waits : (P : ℕ → Entry → Type 0) (machine : Machine) (number : ℕ) (found : Option FlatNode) (pending : Option (List LogicValue)) (state : State) → WaitsHold P state →
    WaitsHold P (nets_updated machine number found pending state)
updated-waits P machine number None pending state h = h
updated-waits P machine number (Some node) None state h = h
updated-waits P machine number (Some node) (Some values) state h = puts-waits P machine node.outputs values (with_node number (λ old. record old { pending = None }) state) h

evaluated-waits : (P : ℕ → Entry → Type 0) (machine : Machine) (number : ℕ) (found : Option FlatNode) (state : State) → WaitsHold P state → WaitsHold P (evaluated machine number found state)
evaluated-waits P machine number None state h = h
evaluated-waits P machine number (Some node) state h = h

after-waits : (P : ℕ → Entry → Type 0) (machine : Machine) → BodiesHold P machine → (state : State) (event : Event) → WaitsHold P state → WaitsHold P (after machine state event)
after-waits P machine bodies state (Step process) h =
    written-waits P machine (write_of (step_of machine state process).action) (with_process process (after_step state (step_of machine state process)) state)
    (one-waits P process (after_step state (step_of machine state process)) state h
    (next-waits (P process) state.values (step_of machine state process).action (step_of machine state process).next
    (activity-waits (P process) machine state process (process_at state process).activity (bodies process) (h process))))
after-waits P machine bodies state (LaneStep process) h =
    written-waits P machine (first_update (process_at state process).lane) (with_process process after_lane_step state) (one-waits P process after_lane_step state h (h process))
after-waits P machine bodies state (Evaluation number) h = evaluated-waits P machine number (slice_get machine.design.nodes number) state h
after-waits P machine bodies state (NetUpdate number) h = updated-waits P machine number (slice_get machine.design.nodes number) (node_at state number).pending state h

-- A turn

resumed-waits : (P : Entry → Type 0) (activity : Activity) → AllHold P (activity_entries activity) → AllHold P (activity_entries (resumed activity))
resumed-waits P (Ready tasks operands) h = h
resumed-waits P (Waiting place entries tasks) h = h
resumed-waits P (Asleep time tasks) h = h
resumed-waits P (Postponed tasks) h = h
resumed-waits P Done h = h

awake-waits : (P : Entry → Type 0) (now : ℕ) (activity : Activity) → AllHold P (activity_entries activity) → AllHold P (activity_entries (awake_at now activity))
awake-waits P now (Ready tasks operands) h = h
awake-waits P now (Waiting place entries tasks) h = h
awake-waits P now (Asleep time tasks) h = go (nat_le time now)
  where
    go : (b : Bool) → AllHold P (activity_entries (if b then Ready tasks [] else Asleep time tasks))
    go true = h
    go false = h
awake-waits P now (Postponed tasks) h = h
awake-waits P now Done h = h

mapped-waits : (P : ℕ → Entry → Type 0) (f : ProcessState → ProcessState) (state : State) → f idle_process ≡ idle_process → ((n : ℕ) (process : ProcessState) →
    AllHold (P n) (activity_entries process.activity) → AllHold (P n) (activity_entries (f process).activity)) → WaitsHold P state → (n : ℕ) →
    AllHold (P n) (activity_entries (found_or idle_process (slice_get (map f state.processes) n)).activity)
mapped-waits P f state idle each h n =
    subst (λ (s : ProcessState). AllHold (P n) (activity_entries s.activity)) (sym (found-mapped f state.processes n idle)) (each n (process_at state n) (h n))

pub turned-waits : (P : ℕ → Entry → Type 0) (turn : TurnKind) (state : State) → WaitsHold P state → WaitsHold P (turned turn state)
turned-waits P PostponedTurn state h =
    mapped-waits P (λ (process : ProcessState). record process { activity = resumed process.activity }) state refl (λ n process i. resumed-waits (P n) process.activity i) h
turned-waits P UpdatesTurn state h =
    mapped-waits P
    (λ (process : ProcessState). record process {
      later = filter (λ later. not (is_due state.time later)) process.later;
      lane = process.lane ++ map (λ (later : LaterUpdate). later.update) (filter (is_due state.time) process.later);
    }) state refl (λ n process i. i) h
turned-waits P (TimeTurn time) state h =
    mapped-waits P (λ (process : ProcessState). record process { activity = awake_at time process.activity }) state refl (λ n process i. awake-waits (P n) time process.activity i) h

-- Moves

turned_by-waits : (P : ℕ → Entry → Type 0) (turn : Option TurnKind) (state : State) → WaitsHold P state → WaitsHold P (turned_by turn state)
turned_by-waits P None state h = h
turned_by-waits P (Some turn) state h = turned-waits P turn state h

pub made-waits : (P : ℕ → Entry → Type 0) (machine : Machine) → BodiesHold P machine → (state : State) (moves : List Move) → WaitsHold P state → WaitsHold P (all_made machine state moves)
made-waits P machine bodies state [] h = h
made-waits P machine bodies state (Happens event ∷ moves) h = made-waits P machine bodies (after machine state event) moves (after-waits P machine bodies state event h)
made-waits P machine bodies state (Turns ∷ moves) h = made-waits P machine bodies (made machine state Turns) moves (turned_by-waits P (turn_of state) state h)

-- The start

pub start-waits : (P : ℕ → Entry → Type 0) (machine : Machine) → BodiesHold P machine → WaitsHold P (start machine)
start-waits P machine bodies n = go machine.design.processes n (bodies n)
  where
    go : (processes : List FlatProcess) (m : ℕ) →
        AllHold (P n) (waited_entries (found_or (record { always = false; body = Null; place = record { line = 0; column = 0 } }) (slice_get processes m)).body) →
        AllHold (P n)
        (activity_entries
        (found_or idle_process (slice_get (map (λ (process : FlatProcess). record { activity = Ready (opened process.body []) []; later = []; lane = [] }) processes) m)).activity)
    go [] m h = tt
    go (process ∷ processes) zero h = opened-waits (P n) process.body [] h tt
    go (process ∷ processes) (suc m) h = go processes m h
