-- In each state of a run who sleeps wakes later than now.
use Rattle.std.proofs.Common.{◌≡◌, ℕ, zero, suc, ◌<◌, List, [], ◌∷◌, map, Bool, true, false, refl, sym, subst, arith}
use Rattle.std.specs.Prelude.{Option, Some, None, slice_get, if◌then◌else◌, nat_le}
use Rattle.std.proofs.lemmas.Bool.{leb-false}
use Rattle.vf_base.specs.Base.{SourcePlace}
use Rattle.four_value.specs.Values.{LogicValue, is_true, natural_number}
use Rattle.vf_base.specs.Lists.{change_at}
use Rattle.v_design.specs.Trees.{Expression, Statement, Null, Block, If, Case, For, While, Repeat, Forever, Delay, EventControl, Wait, Blocking, Nonblocking, Finish, no_statements, more_statements}
use Rattle.v_design.specs.Expressions.{Progress, Needs, Has, read_expression, sign_of}
use Rattle.v_design.specs.Designs.{FlatNode, FlatProcess, Machine}
use Rattle.v_design.specs.Assignments.{ValueUpdate, read_assignment, value_at}
use Rattle.v_design.specs.Processes.{Task, Run, Turns, Writes, Appends, Activity, Ready, Waiting, Asleep, Postponed, Done, Action, ReadsObject, WritesObject, AppendsUpdate, TouchesNothing}
use Rattle.v_design.specs.Processes.{ProcessStep, opened, after_delay, reads_or, write_step, append_step, assignment_step, turns_step, wait_step, statement_step, end_step, process_step, writes_left}
use Rattle.v_design.specs.Processes.{turns_to, either_statement, read_case, loop_of, turns_of}
use Rattle.v_design.specs.States.{State, ProcessState, Event, Step, LaneStep, Evaluation, NetUpdate, TurnKind, PostponedTurn, UpdatesTurn, TimeTurn, start, after, turned, found_or, idle_process}
use Rattle.v_design.specs.States.{process_at, source_at, some_entry, entry_matches, ready_if, woken, woken_process, with_value, with_values, with_process, written_if, value_written, write_of}
use Rattle.v_design.specs.States.{first_update, after_lane_step, after_step, activity_step, step_of, next_activity, evaluated, nets_updated, resumed, awake_at}
use Rattle.order_laws.proofs.Runs.{time-after}

-- who sleeps wakes later than now
abbrev pub Later : ℕ → Activity → Type 0
Later now (Ready tasks operands) = Unit {0}
Later now (Waiting place entries tasks) = Unit {0}
Later now (Asleep time tasks) = now < time
Later now (Postponed tasks) = Unit {0}
Later now Done = Unit {0}

-- all who sleep in a state wake later than a time
abbrev pub AllLater : ℕ → State → Type 0
AllLater now state = (number : ℕ) → Later now (process_at state number).activity

-- who sleeps in a state wakes later than its time
abbrev pub AwakeLater : State → Type 0
AwakeLater state = AllLater state.time state

-- A step

reads-later : {A : Type 0} (now line : ℕ) (tasks : List Task) (operands : List LogicValue) (found : Progress A) (act : A → ProcessStep) → ((a : A) → Later now (act a).next) →
    Later now (reads_or line tasks operands found act).next
reads-later now line tasks operands (Needs object) act h = tt
reads-later now line tasks operands (Has answer left) act h = h answer

delay-later : (now delay : ℕ) (tasks : List Task) → Later now (after_delay now delay tasks)
delay-later now zero tasks = tt
delay-later now (suc delay) tasks = omega arith

write-later : (now : ℕ) (place : SourcePlace) (updates : List (Option ValueUpdate)) (tasks : List Task) → Later now (write_step place updates tasks).next
write-later now place [] tasks = tt
write-later now place (update ∷ updates) tasks = tt

append-later : (now : ℕ) (place : SourcePlace) (delay : ℕ) (updates : List (Option ValueUpdate)) (tasks : List Task) → Later now (append_step place delay updates tasks).next
append-later now place delay [] tasks = tt
append-later now place delay (update ∷ updates) tasks = tt

assigns-later : (now : ℕ) (place : SourcePlace) (delay : Option ℕ) (updates : List (Option ValueUpdate)) (tasks : List Task) → Later now (assignment_step place now delay updates tasks).next
assigns-later now place None updates tasks = write-later now place updates tasks
assigns-later now place (Some delay) updates tasks = delay-later now delay (writes_left place updates tasks)

wait-later : (now : ℕ) (place : SourcePlace) (condition : Expression) (body : Statement) (tasks : List Task) (b : Bool) → Later now (wait_step place condition body tasks b).next
wait-later now place condition body tasks true = tt
wait-later now place condition body tasks false = tt

statement-later : (now : ℕ) (operands : List LogicValue) (statement : Statement) (tasks : List Task) → Later now (statement_step now operands statement tasks).next
statement-later now operands Null tasks = tt
statement-later now operands (Block inner) tasks = tt
statement-later now operands (If place condition first second) tasks =
    reads-later now place.line (Run (If place condition first second) ∷ tasks) operands (read_expression condition operands)
    (λ value. turns_to place.line (opened (either_statement (is_true value) first second) tasks)) (λ a. tt)
statement-later now operands (Case place kind value items default) tasks =
    reads-later now place.line (Run (Case place kind value items default) ∷ tasks) operands (read_case kind value items default operands)
    (λ statement. turns_to place.line (opened statement tasks)) (λ a. tt)
statement-later now operands (For place first_targets first condition next_targets next body) tasks =
    reads-later now place.line (Run (For place first_targets first condition next_targets next body) ∷ tasks) operands (read_assignment place.line first_targets first operands)
    (λ updates. write_step place updates (Run (loop_of place condition next_targets next body) ∷ tasks))
    (λ updates. write-later now place updates (Run (loop_of place condition next_targets next body) ∷ tasks))
statement-later now operands (While place condition body) tasks =
    reads-later now place.line (Run (While place condition body) ∷ tasks) operands (read_expression condition operands)
    (λ value. turns_to place.line (opened (either_statement (is_true value) (Block (more_statements body (more_statements (While place condition body) no_statements))) Null) tasks)) (λ a. tt)
statement-later now operands (Repeat place count body) tasks =
    reads-later now place.line (Run (Repeat place count body) ∷ tasks) operands (read_expression count operands)
    (λ value. turns_to place.line (Turns place (turns_of (natural_number (sign_of count) value)) body ∷ tasks)) (λ a. tt)
statement-later now operands (Forever place body) tasks = tt
statement-later now operands (Delay place delay body) tasks = delay-later now delay (opened body tasks)
statement-later now operands (EventControl place entries body) tasks = tt
statement-later now operands (Wait place condition body) tasks =
    reads-later now place.line (Run (Wait place condition body) ∷ tasks) operands (read_expression condition operands)
    (λ value. wait_step place condition body tasks (is_true value)) (λ value. wait-later now place condition body tasks (is_true value))
statement-later now operands (Blocking place targets delay value) tasks =
    reads-later now place.line (Run (Blocking place targets delay value) ∷ tasks) operands (read_assignment place.line targets value operands)
    (λ updates. assignment_step place now delay updates tasks) (λ updates. assigns-later now place delay updates tasks)
statement-later now operands (Nonblocking place targets delay value) tasks =
    reads-later now place.line (Run (Nonblocking place targets delay value) ∷ tasks) operands (read_assignment place.line targets value operands)
    (λ updates. append_step place delay updates tasks) (λ updates. append-later now place delay updates tasks)
statement-later now operands (Finish place) tasks = tt

end-later : (now : ℕ) (always : Bool) (body : Statement) → Later now (end_step always body).next
end-later now true body = tt
end-later now false body = tt

turns-later : (now : ℕ) (place : SourcePlace) (count : ℕ) (body : Statement) (tasks : List Task) → Later now (turns_step place count body tasks).next
turns-later now place zero body tasks = tt
turns-later now place (suc count) body tasks = tt

step-later : (process : FlatProcess) (now : ℕ) (tasks : List Task) (operands : List LogicValue) → Later now (process_step process now tasks operands).next
step-later process now [] operands = end-later now process.always process.body
step-later process now (Run statement ∷ tasks) operands = statement-later now operands statement tasks
step-later process now (Turns place count body ∷ tasks) operands = turns-later now place count body tasks
step-later process now (Writes place updates ∷ tasks) operands = write-later now place updates tasks
step-later process now (Appends place delay updates ∷ tasks) operands = append-later now place delay updates tasks

activity-later : (machine : Machine) (state : State) (number : ℕ) (activity : Activity) → Later state.time activity → Later state.time (activity_step machine state number activity).next
activity-later machine state number (Ready tasks operands) h = step-later (source_at machine number) state.time tasks operands
activity-later machine state number (Waiting place entries tasks) h = tt
activity-later machine state number (Asleep time tasks) h = h
activity-later machine state number (Postponed tasks) h = tt
activity-later machine state number Done h = tt

next-later : (now : ℕ) (values : List LogicValue) (action : Action) (next : Activity) → Later now next → Later now (next_activity values action next)
next-later now values (ReadsObject object) (Ready tasks operands) h = tt
next-later now values (ReadsObject object) (Waiting place entries tasks) h = tt
next-later now values (ReadsObject object) (Asleep time tasks) h = h
next-later now values (ReadsObject object) (Postponed tasks) h = tt
next-later now values (ReadsObject object) Done h = tt
next-later now values (WritesObject update) next h = h
next-later now values (AppendsUpdate delay update) next h = h
next-later now values TouchesNothing next h = h

-- What events and turns do to processes

woken-later : (now object : ℕ) (old new : LogicValue) (activity : Activity) → Later now activity → Later now (woken object old new activity)
woken-later now object old new (Ready tasks operands) h = tt
woken-later now object old new (Waiting place entries tasks) h = go (some_entry (entry_matches object old new) entries)
  where
    go : (b : Bool) → Later now (ready_if b (Waiting place entries tasks) tasks)
    go true = tt
    go false = tt
woken-later now object old new (Asleep time tasks) h = h
woken-later now object old new (Postponed tasks) h = tt
woken-later now object old new Done h = tt

resumed-later : (now : ℕ) (activity : Activity) → Later now activity → Later now (resumed activity)
resumed-later now (Ready tasks operands) h = tt
resumed-later now (Waiting place entries tasks) h = tt
resumed-later now (Asleep time tasks) h = h
resumed-later now (Postponed tasks) h = tt
resumed-later now Done h = tt

-- at each place of a changed list there is what was there, or its change
changed-later : (now : ℕ) (xs : List ProcessState) (place : ℕ) (change : ProcessState → ProcessState) → Later now (change (found_or idle_process (slice_get xs place))).activity →
    ((number : ℕ) → Later now (found_or idle_process (slice_get xs number)).activity) → (number : ℕ) → Later now (found_or idle_process (slice_get (change_at xs place change) number)).activity
changed-later now [] place change keep h number = h number
changed-later now (x ∷ xs) zero change keep h zero = keep
changed-later now (x ∷ xs) zero change keep h (suc number) = h (suc number)
changed-later now (x ∷ xs) (suc place) change keep h zero = h 0
changed-later now (x ∷ xs) (suc place) change keep h (suc number) = changed-later now xs place change keep (λ n. h (suc n)) number

mapped-later : (before now : ℕ) (xs : List ProcessState) (change : ProcessState → ProcessState) → ((x : ProcessState) → Later before x.activity → Later now (change x).activity) →
    ((number : ℕ) → Later before (found_or idle_process (slice_get xs number)).activity) → (number : ℕ) → Later now (found_or idle_process (slice_get (map change xs) number)).activity
mapped-later before now [] change keep h number = tt
mapped-later before now (x ∷ xs) change keep h zero = keep x (h 0)
mapped-later before now (x ∷ xs) change keep h (suc number) = mapped-later before now xs change keep (λ n. h (suc n)) number

value-later : (now : ℕ) (machine : Machine) (object : ℕ) (new : LogicValue) (state : State) → AllLater now state → AllLater now (with_value machine object new state)
value-later now machine object new state h =
    mapped-later now now state.processes (woken_process object (value_at state.values object) new) (λ x i. woken-later now object (value_at state.values object) new x.activity i) h

written-later : (now : ℕ) (machine : Machine) (write : Option ValueUpdate) (state : State) → AllLater now state → AllLater now (written_if machine write state)
written-later now machine None state h = h
written-later now machine (Some update) state h = value-later now machine update.object (value_written machine state update) state h

values-later : (now : ℕ) (machine : Machine) (objects : List ℕ) (values : List LogicValue) (state : State) → AllLater now state → AllLater now (with_values machine objects values state)
values-later now machine [] values state h = h
values-later now machine (object ∷ objects) [] state h = h
values-later now machine (object ∷ objects) (value ∷ values) state h = values-later now machine objects values (with_value machine object value state) (value-later now machine object value state h)

evaluated-later : (now : ℕ) (machine : Machine) (number : ℕ) (node : Option FlatNode) (state : State) → AllLater now state → AllLater now (evaluated machine number node state)
evaluated-later now machine number None state h = h
evaluated-later now machine number (Some node) state h = h

nets-later : (now : ℕ) (machine : Machine) (number : ℕ) (node : Option FlatNode) (pending : Option (List LogicValue)) (state : State) → AllLater now state →
    AllLater now (nets_updated machine number node pending state)
nets-later now machine number None pending state h = h
nets-later now machine number (Some node) None state h = h
nets-later now machine number (Some node) (Some values) state h = values-later now machine node.outputs values _ h

all-after : (machine : Machine) (state : State) (event : Event) → AwakeLater state → AllLater state.time (after machine state event)
all-after machine state (Step number) h =
    written-later state.time machine (write_of (step_of machine state number).action) (with_process number (after_step state (step_of machine state number)) state)
    (changed-later state.time state.processes number (after_step state (step_of machine state number))
    (next-later state.time state.values (step_of machine state number).action (step_of machine state number).next (activity-later machine state number (process_at state number).activity (h number)))
    h)
all-after machine state (LaneStep number) h =
    written-later state.time machine (first_update (process_at state number).lane) (with_process number after_lane_step state)
    (changed-later state.time state.processes number after_lane_step (h number) h)
all-after machine state (Evaluation number) h = evaluated-later state.time machine number (slice_get machine.design.nodes number) state h
all-after machine state (NetUpdate number) h = nets-later state.time machine number (slice_get machine.design.nodes number) _ state h

-- each event keeps it
pub later-after : (machine : Machine) (state : State) (event : Event) → AwakeLater state → AwakeLater (after machine state event)
later-after machine state event h number = subst (λ now. Later now (process_at (after machine state event) number).activity) (sym (time-after machine state event))
    (all-after machine state event h number)

awake-later : (now : ℕ) (activity : Activity) → Later now (awake_at now activity)
awake-later now (Ready tasks operands) = tt
awake-later now (Waiting place entries tasks) = tt
awake-later now (Asleep time tasks) = go (nat_le time now) refl
  where
    go : (b : Bool) → nat_le time now ≡ b → Later now (if b then Ready tasks [] else Asleep time tasks)
    go true e = tt
    go false e = leb-false time now e
awake-later now (Postponed tasks) = tt
awake-later now Done = tt

-- each turn brings it or keeps it
pub later-turned : (turn : TurnKind) (state : State) → AwakeLater state → AwakeLater (turned turn state)
later-turned PostponedTurn state h = mapped-later state.time state.time state.processes (λ process. record process { activity = resumed process.activity })
    (λ x i. resumed-later state.time x.activity i) h
later-turned UpdatesTurn state h = mapped-later state.time state.time state.processes _ (λ x i. i) h
later-turned (TimeTurn time) state h = mapped-later state.time time state.processes (λ process. record process { activity = awake_at time process.activity }) (λ x i. awake-later time x.activity) h

start-later : (processes : List FlatProcess) (number : ℕ) →
    Later 0 (found_or idle_process (slice_get (map (λ (process : FlatProcess). record { activity = Ready (opened process.body []) []; later = []; lane = [] }) processes) number)).activity
start-later [] number = tt
start-later (process ∷ processes) zero = tt
start-later (process ∷ processes) (suc number) = start-later processes number

-- at the start nobody sleeps
pub later_starts : (machine : Machine) → AwakeLater (start machine)
later_starts machine number = start-later machine.design.processes number
