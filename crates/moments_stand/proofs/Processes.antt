-- At each moment of a run a process waits for entries of its body alone, wakes later if it sleeps, and has no update that was due before.
use Rattle.std.proofs.Common.{◌≡◌, ℕ, zero, suc, ◌≤◌, List, [], ◌∷◌, ◌++◌, map, Bool, true, false, not, cond, refl, sym, ap, subst, ◌⊎◌, inl, inr, arith}
use Rattle.std.specs.Prelude.{Option, Some, None, slice_get, filter, nat_le, if◌then◌else◌}
use Rattle.std.proofs.lemmas.Bool.{leb-false}
use Rattle.four_value.specs.Values.{LogicValue}
use Rattle.vf_base.specs.Lists.{AllHold, change_at}
use Rattle.v_design.specs.Trees.{Entry, Null}
use Rattle.v_design.specs.Designs.{FlatNode, FlatProcess, Machine}
use Rattle.v_design.specs.Assignments.{ValueUpdate, value_at}
use Rattle.v_design.specs.Processes.{Activity, Ready, Waiting, Asleep, Postponed, Done, Action, ReadsObject, WritesObject, AppendsUpdate, TouchesNothing, ProcessStep, opened}
use Rattle.v_design.specs.States.{State, ProcessState, LaterUpdate, NodeState, Event, Step, LaneStep, Evaluation, NetUpdate, TurnKind, PostponedTurn, UpdatesTurn, TimeTurn, after, after_step}
use Rattle.v_design.specs.States.{after_lane_step, activity_step, appended, awake_at, due_time, entry_matches, evaluated, first_update, found_or, idle_process, is_due, is_postponed, least_of}
use Rattle.v_design.specs.States.{nets_updated, next_activity, next_time_of, node_at, process_at, ready_if, resumed, some_entry, some_in, source_at, start, step_of, turn_by, turn_of, turned}
use Rattle.v_design.specs.States.{value_written, wake_time, with_node, with_process, with_value, with_values, woken, woken_process, write_of, written_if}
use Rattle.event_queue.specs.Queues.{WakesAfter, holding_of}
use Rattle.process_table.specs.Waited.{waited_entries, tasks_entries, activity_entries, body_of}
use Rattle.process_table.specs.WaitedLaws.{hold-right, opened-waits}
use Rattle.process_table.specs.Rows.{step_from}
use Rattle.process_table.proofs.Sleeps.{step-wakes}
use Rattle.process_table.proofs.Steps.{hold-more, waitable-step}

-- a process waits, and may wait yet, for such entries alone, and wakes after a time
abbrev pub Does : (Entry → Type 0) → ℕ → Activity → Type 0
Does P now activity = AllHold P (activity_entries activity) × WakesAfter now (holding_of activity)

-- and none of its updates is due before it
abbrev pub Stands : (Entry → Type 0) → ℕ → ProcessState → Type 0
Stands P now process = Does P now process.activity × AllHold (λ (l : LaterUpdate). now ≤ l.time) process.later

-- so does each process of a state at a time
abbrev pub AllStand : (ℕ → Entry → Type 0) → ℕ → List ProcessState → Type 0
AllStand P now processes = (n : ℕ) → Stands (P n) now (found_or idle_process (slice_get processes n))

-- the bodies have such entries alone
abbrev pub BodiesHold : (ℕ → Entry → Type 0) → Machine → Type 0
BodiesHold P machine = (n : ℕ) → AllHold (P n) (waited_entries (body_of machine.design n))

-- Processes that change

found-mapped : (f : ProcessState → ProcessState) (xs : List ProcessState) (n : ℕ) → f idle_process ≡ idle_process →
    found_or idle_process (slice_get (map f xs) n) ≡ f (found_or idle_process (slice_get xs n))
found-mapped f [] n e = sym e
found-mapped f (x ∷ xs) zero e = refl
found-mapped f (x ∷ xs) (suc n) e = found-mapped f xs n e

changed-or : (xs : List ProcessState) (place n : ℕ) (f : ProcessState → ProcessState) →
    (found_or idle_process (slice_get (change_at xs place f) n) ≡ found_or idle_process (slice_get xs n))
    ⊎ ((place ≡ n) × (found_or idle_process (slice_get (change_at xs place f) n) ≡ f (found_or idle_process (slice_get xs n))))
changed-or [] place n f = inl refl
changed-or (x ∷ xs) zero zero f = inr (refl, refl)
changed-or (x ∷ xs) zero (suc n) f = inl refl
changed-or (x ∷ xs) (suc place) zero f = inl refl
changed-or (x ∷ xs) (suc place) (suc n) f = elim (changed-or xs place n f) [ inl e ↦ inl e | inr e ↦ inr (ap suc e.0, e.1) ]

mapped-stand : (P : ℕ → Entry → Type 0) (now later : ℕ) (f : ProcessState → ProcessState) (processes : List ProcessState) → f idle_process ≡ idle_process →
    ((n : ℕ) (process : ProcessState) → Stands (P n) now process → Stands (P n) later (f process)) → AllStand P now processes → AllStand P later (map f processes)
mapped-stand P now later f processes idle each h n =
    subst (Stands (P n) later) (sym (found-mapped f processes n idle)) (each n (found_or idle_process (slice_get processes n)) (h n))

one-stands : (P : ℕ → Entry → Type 0) (now process : ℕ) (change : ProcessState → ProcessState) (processes : List ProcessState) → AllStand P now processes →
    Stands (P process) now (change (found_or idle_process (slice_get processes process))) → AllStand P now (change_at processes process change)
one-stands P now process change processes h own n = elim (changed-or processes process n change) [
  | inl e ↦ subst (Stands (P n) now) (sym e) (h n)
  | inr e ↦ subst (Stands (P n) now) (sym e.1) (subst (λ m. Stands (P m) now (change (found_or idle_process (slice_get processes m)))) e.0 own)
]

-- A write

woken-does : (P : Entry → Type 0) (now object : ℕ) (old new : LogicValue) (activity : Activity) → Does P now activity → Does P now (woken object old new activity)
woken-does P now object old new (Ready tasks operands) h = h
woken-does P now object old new (Waiting place entries tasks) h = go (some_entry (entry_matches object old new) entries)
  where
    go : (b : Bool) → Does P now (ready_if b (Waiting place entries tasks) tasks)
    go true = (hold-right P entries (tasks_entries tasks) h.0, tt)
    go false = h
woken-does P now object old new (Asleep time tasks) h = h
woken-does P now object old new (Postponed tasks) h = h
woken-does P now object old new Done h = h

put-stand : (P : ℕ → Entry → Type 0) (now : ℕ) (machine : Machine) (object : ℕ) (new : LogicValue) (state : State) → AllStand P now state.processes →
    AllStand P now (with_value machine object new state).processes
put-stand P now machine object new state h =
    mapped-stand P now now (woken_process object (value_at state.values object) new) state.processes refl
    (λ n process i. (woken-does (P n) now object (value_at state.values object) new process.activity i.0, i.1)) h

written-stand : (P : ℕ → Entry → Type 0) (now : ℕ) (machine : Machine) (update : Option ValueUpdate) (state : State) → AllStand P now state.processes →
    AllStand P now (written_if machine update state).processes
written-stand P now machine None state h = h
written-stand P now machine (Some update) state h = put-stand P now machine update.object (value_written machine state update) state h

puts-stand : (P : ℕ → Entry → Type 0) (now : ℕ) (machine : Machine) (objects : List ℕ) (values : List LogicValue) (state : State) → AllStand P now state.processes →
    AllStand P now (with_values machine objects values state).processes
puts-stand P now machine [] values state h = h
puts-stand P now machine (object ∷ objects) [] state h = h
puts-stand P now machine (object ∷ objects) (value ∷ values) state h =
    puts-stand P now machine objects values (with_value machine object value state) (put-stand P now machine object value state h)

-- A step

appended-later : (now : ℕ) (action : Action) → AllHold (λ (l : LaterUpdate). now ≤ l.time) (appended now action)
appended-later now (ReadsObject object) = tt
appended-later now (WritesObject update) = tt
appended-later now (AppendsUpdate delay update) = (omega arith, tt)
appended-later now TouchesNothing = tt

step-is : (machine : Machine) (state : State) (process : ℕ) (activity : Activity) → activity_step machine state process activity ≡ step_from (source_at machine process) state.time activity
step-is machine state process (Ready tasks operands) = refl
step-is machine state process (Waiting place entries tasks) = refl
step-is machine state process (Asleep time tasks) = refl
step-is machine state process (Postponed tasks) = refl
step-is machine state process Done = refl

stepped-stands : (P : Entry → Type 0) (machine : Machine) (state : State) (process : ℕ) → AllHold P (waited_entries (body_of machine.design process)) →
    Stands P state.time (process_at state process) → Stands P state.time (after_step state (step_of machine state process) (process_at state process))
stepped-stands P machine state process body h =
    let activity = (process_at state process).activity in (
      subst (λ (step : ProcessStep). Does P state.time (next_activity state.values step.action step.next)) (sym (step-is machine state process activity)) (
        waitable-step P (source_at machine process) state.time state.values activity body h.0.0,
        step-wakes (source_at machine process) state.time state.values activity h.0.1,
      ),
      hold-more (λ (l : LaterUpdate). state.time ≤ l.time) (process_at state process).later (appended state.time (step_of machine state process).action) h.1
          (appended-later state.time (step_of machine state process).action),
    )

-- An event

evaluated-stand : (P : ℕ → Entry → Type 0) (now : ℕ) (machine : Machine) (number : ℕ) (found : Option FlatNode) (state : State) → AllStand P now state.processes →
    AllStand P now (evaluated machine number found state).processes
evaluated-stand P now machine number None state h = h
evaluated-stand P now machine number (Some node) state h = h

updated-stand : (P : ℕ → Entry → Type 0) (now : ℕ) (machine : Machine) (number : ℕ) (found : Option FlatNode) (pending : Option (List LogicValue)) (state : State) →
    AllStand P now state.processes → AllStand P now (nets_updated machine number found pending state).processes
updated-stand P now machine number None pending state h = h
updated-stand P now machine number (Some node) None state h = h
updated-stand P now machine number (Some node) (Some values) state h =
    puts-stand P now machine node.outputs values (with_node number (λ (old : NodeState). record old { pending = None }) state) h

after-stand : (P : ℕ → Entry → Type 0) (machine : Machine) → BodiesHold P machine → (state : State) (event : Event) → AllStand P state.time state.processes →
    AllStand P state.time (after machine state event).processes
after-stand P machine bodies state (Step process) h =
    written-stand P state.time machine (write_of (step_of machine state process).action) (with_process process (after_step state (step_of machine state process)) state)
    (one-stands P state.time process (after_step state (step_of machine state process)) state.processes h (stepped-stands (P process) machine state process (bodies process) (h process)))
after-stand P machine bodies state (LaneStep process) h =
    written-stand P state.time machine (first_update (process_at state process).lane) (with_process process after_lane_step state)
    (one-stands P state.time process after_lane_step state.processes h (h process))
after-stand P machine bodies state (Evaluation number) h = evaluated-stand P state.time machine number (slice_get machine.design.nodes number) state h
after-stand P machine bodies state (NetUpdate number) h = updated-stand P state.time machine number (slice_get machine.design.nodes number) (node_at state number).pending state h

-- Events take no time

written-time : (machine : Machine) (update : Option ValueUpdate) (state : State) → (written_if machine update state).time ≡ state.time
written-time machine None state = refl
written-time machine (Some update) state = refl

values-time : (machine : Machine) (objects : List ℕ) (values : List LogicValue) (state : State) → (with_values machine objects values state).time ≡ state.time
values-time machine [] values state = refl
values-time machine (object ∷ objects) [] state = refl
values-time machine (object ∷ objects) (value ∷ values) state = values-time machine objects values (with_value machine object value state)

evaluated-time : (machine : Machine) (number : ℕ) (found : Option FlatNode) (state : State) → (evaluated machine number found state).time ≡ state.time
evaluated-time machine number None state = refl
evaluated-time machine number (Some node) state = refl

updated-time : (machine : Machine) (number : ℕ) (found : Option FlatNode) (pending : Option (List LogicValue)) (state : State) → (nets_updated machine number found pending state).time ≡ state.time
updated-time machine number None pending state = refl
updated-time machine number (Some node) None state = refl
updated-time machine number (Some node) (Some values) state = values-time machine node.outputs values (with_node number (λ (old : NodeState). record old { pending = None }) state)

after-time : (machine : Machine) (state : State) (event : Event) → (after machine state event).time ≡ state.time
after-time machine state (Step process) =
    written-time machine (write_of (step_of machine state process).action) (with_process process (after_step state (step_of machine state process)) state)
after-time machine state (LaneStep process) = written-time machine (first_update (process_at state process).lane) (with_process process after_lane_step state)
after-time machine state (Evaluation number) = evaluated-time machine number (slice_get machine.design.nodes number) state
after-time machine state (NetUpdate number) = updated-time machine number (slice_get machine.design.nodes number) (node_at state number).pending state

pub event-stands : (P : ℕ → Entry → Type 0) (machine : Machine) → BodiesHold P machine → (state : State) (event : Event) → AllStand P state.time state.processes →
    AllStand P (after machine state event).time (after machine state event).processes
event-stands P machine bodies state event h =
    subst (λ time. AllStand P time (after machine state event).processes) (sym (after-time machine state event)) (after-stand P machine bodies state event h)

-- A turn

resumed-does : (P : Entry → Type 0) (now : ℕ) (activity : Activity) → Does P now activity → Does P now (resumed activity)
resumed-does P now (Ready tasks operands) h = h
resumed-does P now (Waiting place entries tasks) h = h
resumed-does P now (Asleep time tasks) h = h
resumed-does P now (Postponed tasks) h = h
resumed-does P now Done h = h

left-later : (now : ℕ) (test : LaterUpdate → Bool) (later : List LaterUpdate) → AllHold (λ (l : LaterUpdate). now ≤ l.time) later → AllHold (λ (l : LaterUpdate). now ≤ l.time) (filter test later)
left-later now test [] h = tt
left-later now test (l ∷ later) h = go (test l) (left-later now test later h.1)
  where
    go : (b : Bool) → AllHold (λ (l : LaterUpdate). now ≤ l.time) (filter test later) → AllHold (λ (l : LaterUpdate). now ≤ l.time) (cond b (l ∷ filter test later) (filter test later))
    go true rest = (h.0, rest)
    go false rest = rest

awake-does : (P : Entry → Type 0) (old now : ℕ) (activity : Activity) → Does P old activity → Does P now (awake_at now activity)
awake-does P old now (Ready tasks operands) h = h
awake-does P old now (Waiting place entries tasks) h = h
awake-does P old now (Asleep time tasks) h = go (nat_le time now) refl
  where
    go : (b : Bool) → nat_le time now ≡ b → Does P now (if b then Ready tasks [] else Asleep time tasks)
    go true e = (h.0, tt)
    go false e = (h.0, leb-false time now e)
awake-does P old now (Postponed tasks) h = h
awake-does P old now Done h = h

-- a time, if there is one, isn't before another
abbrev AtLeast : ℕ → Option ℕ → Type 0
AtLeast least None = Unit {0}
AtLeast least (Some time) = least ≤ time

least-both : (least : ℕ) (one other : Option ℕ) → AtLeast least (least_of one other) → AtLeast least one × AtLeast least other
least-both least None other h = (tt, h)
least-both least (Some time) None h = (h, tt)
least-both least (Some time) (Some other) h = (omega (arith, h), omega (arith, h))

least-due : (least : ℕ) (later : List LaterUpdate) → AtLeast least (due_time later) → AllHold (λ (l : LaterUpdate). least ≤ l.time) later
least-due least [] h = tt
least-due least (l ∷ later) h = let both = least-both least (Some l.time) (due_time later) h in (both.0, least-due least later both.1)

least-all : (least : ℕ) (processes : List ProcessState) → AtLeast least (next_time_of processes) → (n : ℕ) →
    AllHold (λ (l : LaterUpdate). least ≤ l.time) (found_or idle_process (slice_get processes n)).later
least-all least [] h n = tt
least-all least (process ∷ processes) h zero =
    let both = least-both least (least_of (wake_time process.activity) (due_time process.later)) (next_time_of processes) h in
    least-due least process.later (least-both least (wake_time process.activity) (due_time process.later) both.0).1
least-all least (process ∷ processes) h (suc n) =
    least-all least processes (least-both least (least_of (wake_time process.activity) (due_time process.later)) (next_time_of processes) h).1 n

-- the turn to a time is to the least one
time-least : (postponed due : Bool) (next : Option ℕ) (time : ℕ) → turn_by postponed due next ≡ Some (TimeTurn time) → AtLeast time next
time-least true due next time e = cc
time-least false true next time e = cc
time-least false false None time e = cc
time-least false false (Some next) time e = let same : next ≡ time = cc in omega (arith, same)

pub turn-stands : (P : ℕ → Entry → Type 0) (state : State) (turn : TurnKind) → turn_of state ≡ Some turn → AllStand P state.time state.processes →
    AllStand P (turned turn state).time (turned turn state).processes
turn-stands P state PostponedTurn e h =
    mapped-stand P state.time state.time (λ (process : ProcessState). record process { activity = resumed process.activity }) state.processes refl
    (λ n process i. (resumed-does (P n) state.time process.activity i.0, i.1)) h
turn-stands P state UpdatesTurn e h =
    mapped-stand P state.time state.time
    (λ (process : ProcessState). record process {
      later = filter (λ later. not (is_due state.time later)) process.later;
      lane = process.lane ++ map (λ (later : LaterUpdate). later.update) (filter (is_due state.time) process.later);
    })
    state.processes refl (λ n process i. (i.0, left-later state.time (λ later. not (is_due state.time later)) process.later i.1)) h
turn-stands P state (TimeTurn time) e h = λ n.
    subst (Stands (P n) time) (sym (found-mapped (λ (process : ProcessState). record process { activity = awake_at time process.activity }) state.processes n refl)) (
      awake-does (P n) state.time time (found_or idle_process (slice_get state.processes n)).activity (h n).0,
      least-all time state.processes
          (time-least (some_in (λ (process : ProcessState). is_postponed process.activity) state.processes)
          (some_in (λ (process : ProcessState). some_in (is_due state.time) process.later) state.processes) (next_time_of state.processes) time e)
          n,
    )

-- The start

pub start-stands : (P : ℕ → Entry → Type 0) (machine : Machine) → BodiesHold P machine → AllStand P 0 (start machine).processes
start-stands P machine bodies n = go machine.design.processes n (bodies n)
  where
    go : (processes : List FlatProcess) (m : ℕ) →
        AllHold (P n) (waited_entries (found_or (record { always = false; body = Null; place = record { line = 0; column = 0 } }) (slice_get processes m)).body) →
        Stands (P n) 0 (found_or idle_process (slice_get (map (λ (process : FlatProcess). record { activity = Ready (opened process.body []) []; later = []; lane = [] }) processes) m))
    go [] m h = ((tt, tt), tt)
    go (process ∷ processes) zero h = ((opened-waits (P n) process.body [] h tt, tt), tt)
    go (process ∷ processes) (suc m) h = go processes m h
