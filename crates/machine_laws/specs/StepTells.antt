-- What a step of a process or of its lane tells of itself (IEEE 1364-2001, clauses 5 and 9).
use Rattle.std.proofs.Common.{◌≡◌, ℕ, zero, suc, List, [], ◌∷◌, ◌++◌, map, Bool, true, false, not, ◌&&◌, ◌⊎◌, inl, inr, refl, sym, ap, ◌∙◌}
use Rattle.std.specs.Prelude.{Option, Some, None}
use Rattle.std.proofs.lemmas.Bool.{cases_eq}
use Rattle.vf_base.specs.Base.{SourcePlace}
use Rattle.four_value.specs.Values.{LogicValue, same_value, with_part, is_true}
use Rattle.four_value.specs.ValueLaws.{same_value-refl}
use Rattle.v_design.specs.Trees.{Entry, Statement, Null, Block, If, Case, For, While, Repeat, Forever, Delay, EventControl, Wait, Blocking, Nonblocking, Finish}
use Rattle.v_design.specs.Expressions.{Progress, Needs, Has, read_expression}
use Rattle.v_design.specs.Designs.{FlatProcess, Machine, forced_variable}
use Rattle.v_design.specs.Assignments.{ValueUpdate, value_at}
use Rattle.v_design.specs.Processes.{Task, Run, Turns, Writes, Appends, Activity, Ready, Waiting, Asleep, Postponed, Done, Action, WritesObject, ReadsObject, AppendsUpdate, TouchesNothing}
use Rattle.v_design.specs.Processes.{ProcessStep, goes_on, turns_to, reads_or, write_step, append_step, assignment_step, turns_step, wait_step, statement_step, end_step, process_step, loop_of}
use Rattle.v_design.specs.States.{State, NodeState, ProcessState, Event, Step, LaneStep, found_or, idle_process, process_at, is_ready, written, written_if, write_of, step_of, activity_step}
use Rattle.v_design.specs.States.{source_at, after, after_step, after_lane_step, with_process, next_activity, first_update}
use Rattle.v_design.specs.Accesses.{ObjectAccess, Writing, Awaiting, is_waiting, accesses_of, action_accesses, await_accesses, update_accesses, lane_accesses}
use Rattle.v_design.specs.PhaseLogs.{writer_process, writer_line, lane_line}
use Rattle.event_causes.specs.Causes.{Tells}
use Rattle.machine_laws.specs.Waits.{WaitSeen, wait_in, wait_of, no_wait, AreInSameWaits, same-seen, changed-elsewhere, ended-alike, waits-alike}
use Rattle.machine_laws.specs.WriteTells.{TellsWrite}

-- what a process or lane step in a state tells of itself: its line, its accesses, the objects that it changed, and the processes whose waits it ended
pub record TellsStep (machine : Machine) (state : State) (event : Event) (line : ℕ) (accesses : List ObjectAccess) (changed ended : List ℕ) : Type 0 where
  pub line_is : line ≡ writer_line machine state event None
  pub accesses_are : accesses ≡ accesses_of machine (writer_process event None) line state event
  pub tells : Tells machine state event changed ended

-- the state in the midst of a step: the process has gone on, and what it writes isn't written yet
abbrev pub gone_on : Machine → ℕ → State → State
gone_on machine process state = with_process process (after_step state (step_of machine state process)) state

-- the same of a step of a lane
abbrev pub lane_gone_on : ℕ → State → State
lane_gone_on process state = with_process process after_lane_step state

-- A step that writes leaves its process ready

abbrev StaysReady : ProcessStep → Type 0
StaysReady step = (update : ValueUpdate) → write_of step.action ≡ Some update → wait_in step.next ≡ no_wait

goes-on : (line : ℕ) (next : Activity) → StaysReady (goes_on line next)
goes-on line next = λ update e. cc

reads : {A : Type 0} (line : ℕ) (tasks : List Task) (operands : List LogicValue) (progress : Progress A) (act : A → ProcessStep) → ((answer : A) → StaysReady (act answer)) →
    StaysReady (reads_or line tasks operands progress act)
reads line tasks operands (Needs object) act acts = λ update e. cc
reads line tasks operands (Has answer left) act acts = λ update e. acts answer update e

-- a step that reads, or goes on to some tasks
reads-on : {A : Type 0} (line : ℕ) (tasks : List Task) (operands : List LogicValue) (progress : Progress A) (other : ℕ) (left : A → List Task) →
    StaysReady (reads_or line tasks operands progress (λ answer. turns_to other (left answer)))
reads-on line tasks operands progress other left = reads line tasks operands progress (λ answer. turns_to other (left answer)) (λ answer. goes-on other (Ready (left answer) []))

writes : (place : SourcePlace) (updates : List (Option ValueUpdate)) (tasks : List Task) → StaysReady (write_step place updates tasks)
writes place [] tasks = λ update e. cc
writes place (first ∷ updates) tasks = λ update e. refl

appends : (place : SourcePlace) (delay : ℕ) (updates : List (Option ValueUpdate)) (tasks : List Task) → StaysReady (append_step place delay updates tasks)
appends place delay [] tasks = λ update e. cc
appends place delay (first ∷ updates) tasks = λ update e. refl

assigns : (place : SourcePlace) (now : ℕ) (delay : Option ℕ) (updates : List (Option ValueUpdate)) (tasks : List Task) → StaysReady (assignment_step place now delay updates tasks)
assigns place now None updates tasks = writes place updates tasks
assigns place now (Some delay) updates tasks = λ update e. cc

repeats : (place : SourcePlace) (count : ℕ) (body : Statement) (tasks : List Task) → StaysReady (turns_step place count body tasks)
repeats place zero body tasks = λ update e. cc
repeats place (suc count) body tasks = λ update e. cc

awaits : (place : SourcePlace) (condition : _) (body : Statement) (tasks : List Task) (b : Bool) → StaysReady (wait_step place condition body tasks b)
awaits place condition body tasks true = λ update e. cc
awaits place condition body tasks false = λ update e. cc

statement : (now : ℕ) (operands : List LogicValue) (s : Statement) (tasks : List Task) → StaysReady (statement_step now operands s tasks)
statement now operands Null tasks = λ update e. cc
statement now operands (Block parts) tasks = λ update e. cc
statement now operands (If place condition first second) tasks = reads-on _ _ operands _ _ _
statement now operands (Case place kind value items default) tasks = reads-on _ _ operands _ _ _
statement now operands (For place first_targets first condition next_targets next body) tasks =
    reads _ _ operands _ _ (λ updates. writes place updates (Run (loop_of place condition next_targets next body) ∷ tasks))
statement now operands (While place condition body) tasks = reads-on _ _ operands _ _ _
statement now operands (Repeat place count body) tasks = reads-on _ _ operands _ _ _
statement now operands (Forever place body) tasks = λ update e. cc
statement now operands (Delay place delay body) tasks = λ update e. cc
statement now operands (EventControl place entries body) tasks = λ update e. cc
statement now operands (Wait place condition body) tasks =
    reads place.line (Run (Wait place condition body) ∷ tasks) operands (read_expression condition operands) (λ value. wait_step place condition body tasks (is_true value))
    (λ value. awaits place condition body tasks (is_true value))
statement now operands (Blocking place targets delay value) tasks = reads _ _ operands _ _ (λ updates. assigns place now delay updates tasks)
statement now operands (Nonblocking place targets delay value) tasks = reads _ _ operands _ _ (λ updates. appends place delay updates tasks)
statement now operands (Finish place) tasks = λ update e. cc

ends : (always : Bool) (body : Statement) → StaysReady (end_step always body)
ends true body = λ update e. cc
ends false body = λ update e. cc

processes : (process : FlatProcess) (now : ℕ) (tasks : List Task) (operands : List LogicValue) → StaysReady (process_step process now tasks operands)
processes process now [] operands = ends process.always process.body
processes process now (Run s ∷ tasks) operands = statement now operands s tasks
processes process now (Turns place count body ∷ tasks) operands = repeats place count body tasks
processes process now (Writes place updates ∷ tasks) operands = writes place updates tasks
processes process now (Appends place delay updates ∷ tasks) operands = appends place delay updates tasks

activities : (machine : Machine) (state : State) (process : ℕ) (activity : Activity) → StaysReady (activity_step machine state process activity)
activities machine state process (Ready tasks operands) = processes (source_at machine process) state.time tasks operands
activities machine state process (Waiting place entries tasks) = λ update e. cc
activities machine state process (Asleep time tasks) = λ update e. cc
activities machine state process (Postponed tasks) = λ update e. cc
activities machine state process Done = λ update e. cc

pub stays-ready : (machine : Machine) (state : State) (process : ℕ) → StaysReady (step_of machine state process)
stays-ready machine state process = activities machine state process (process_at state process).activity

-- Steps

ready-waits-not : (activity : Activity) → is_ready activity ≡ true → wait_in activity ≡ no_wait
ready-waits-not (Ready tasks operands) e = refl
ready-waits-not (Waiting place entries tasks) e = cc
ready-waits-not (Asleep time tasks) e = cc
ready-waits-not (Postponed tasks) e = cc
ready-waits-not Done e = cc

write-is : (action : Action) (update : ValueUpdate) → write_of action ≡ Some update → action ≡ WritesObject update
write-is (ReadsObject object) update e = cc
write-is (WritesObject other) update e = ap WritesObject (some-is other update e)
  where
    some-is : (x y : ValueUpdate) → Some x ≡ Some y → x ≡ y
    some-is x y h = ap (found_or x) h
write-is (AppendsUpdate delay other) update e = cc
write-is TouchesNothing update e = cc

write-next : (values : List LogicValue) (action : Action) (update : ValueUpdate) (next : Activity) → write_of action ≡ Some update → next_activity values action next ≡ next
write-next values (ReadsObject object) update next e = cc
write-next values (WritesObject other) update next e = refl
write-next values (AppendsUpdate delay other) update next e = cc
write-next values TouchesNothing update next e = cc

-- the accesses of a wait that begins
abbrev awaited : ℕ → ℕ → List Entry → List ObjectAccess
awaited process line entries = map (λ (entry : Entry). record { act = Awaiting entry; object = entry.object; process = process; line = line }) entries

append-nothing : {A : Type 0} (xs : List A) → xs ++ [] ≡ xs
append-nothing [] = refl
append-nothing (x ∷ xs) = ap (λ l. x ∷ l) (append-nothing xs)

-- where a ready process writes, all waits stay as they were
same-waits : (machine : Machine) (state : State) (process : ℕ) (update : ValueUpdate) → is_ready (process_at state process).activity ≡ true →
    write_of (step_of machine state process).action ≡ Some update →
    AreInSameWaits state.processes (gone_on machine process state).processes
same-waits machine state process update ready is =
    same-seen wait_of idle_process state.processes process (after_step state (step_of machine state process))
    (ap wait_in (write-next state.values (step_of machine state process).action update (step_of machine state process).next is)
    ∙ stays-ready machine state process update is
    ∙ sym (ready-waits-not (process_at state process).activity ready))

-- a write in the midst of an event tells what the event does, where all waits stay as they were
write-tells : (machine : Machine) (state mid : State) (event : Event) (update : ValueUpdate) (process line : ℕ) (accesses : List ObjectAccess) (changed ended : List ℕ) →
    mid.values ≡ state.values → AreInSameWaits state.processes mid.processes → after machine state event ≡ written machine update mid →
    TellsWrite machine mid update process line accesses changed ended →
    Tells machine state event changed ended
write-tells machine state mid event update process line accesses changed ended values same is told = record {
  objects = λ object low. told.objects object ∙ (λ i. not (same_value (value_at (values i) object) (value_at (sym is i).values object)));
  waits = λ number low. told.waits number ∙ (λ i. waits-alike state.processes mid.processes number same i && is_ready (process_at (sym is i) number).activity);
}

-- and the accesses of the write are the same in both states
same-accesses : (machine : Machine) (time : ℕ) (nodes : List NodeState) (values : List LogicValue) (old new : List ProcessState) (update : ValueUpdate) (process line : ℕ) → AreInSameWaits old new →
    update_accesses machine process line update (record { time = time; values = values; nodes = nodes; processes = new })
    ≡ update_accesses machine process line update (record { time = time; values = values; nodes = nodes; processes = old })
same-accesses machine time nodes values old new update process line same =
    ap (λ l. record {
      act = Writing (value_at values update.object) (forced_variable machine.fault update.object (with_part (value_at values update.object) update.low update.value));
      object = update.object;
      process = process;
      line = line;
    } ∷ l)
    (ended-alike update.object (value_at values update.object) (forced_variable machine.fault update.object (with_part (value_at values update.object) update.low update.value)) old new same)

-- the state after a step that writes
pub write-step-after : (machine : Machine) (state : State) (process : ℕ) (update : ValueUpdate) → write_of (step_of machine state process).action ≡ Some update →
    after machine state (Step process) ≡ written machine update (gone_on machine process state)
write-step-after machine state process update is = ap (λ w. written_if machine w (gone_on machine process state)) is

-- a step that writes is told by its write
pub write-step-told : (machine : Machine) (state : State) (process line : ℕ) (update : ValueUpdate) (accesses : List ObjectAccess) (changed ended : List ℕ) →
    is_ready (process_at state process).activity ≡ true →
    line ≡ (step_of machine state process).line → write_of (step_of machine state process).action ≡ Some update →
    TellsWrite machine (gone_on machine process state) update process line accesses changed ended →
    TellsStep machine state (Step process) line accesses changed ended
write-step-told machine state process line update accesses changed ended ready line_is is told = record {
  line_is = line_is;
  accesses_are = told.accesses_are
      ∙ same-accesses machine state.time state.nodes state.values state.processes (gone_on machine process state).processes update process line (same-waits machine state process update ready is)
      ∙ (λ i. action_accesses machine process (line_is i) (sym (write-is (step_of machine state process).action update is) i) state)
      ∙ sym (append-nothing (action_accesses machine process (step_of machine state process).line (step_of machine state process).action state))
      ∙ ap (λ (w : WaitSeen). action_accesses machine process (step_of machine state process).line (step_of machine state process).action state
      ++ awaited process (step_of machine state process).line w.entries)
      (sym (stays-ready machine state process update is));
  tells = write-tells machine state (gone_on machine process state) (Step process) update process line accesses changed ended refl (same-waits machine state process update ready is)
      (write-step-after machine state process update is) told;
}

-- the state after a step that writes nothing
pub quiet-step-after : (machine : Machine) (state : State) (process : ℕ) → write_of (step_of machine state process).action ≡ None → after machine state (Step process) ≡ gone_on machine process state
quiet-step-after machine state process is = ap (λ w. written_if machine w (gone_on machine process state)) is

-- a step that writes nothing changes nothing and ends no wait
pub quiet-step-told : (machine : Machine) (state : State) (process line : ℕ) (accesses : List ObjectAccess) → is_ready (process_at state process).activity ≡ true →
    line ≡ (step_of machine state process).line → write_of (step_of machine state process).action ≡ None →
    accesses ≡ action_accesses machine process line (step_of machine state process).action state ++ await_accesses process line (step_of machine state process).next →
    TellsStep machine state (Step process) line accesses [] []
quiet-step-told machine state process line accesses ready line_is is are = record {
  line_is = line_is;
  accesses_are = are ∙ (λ i. action_accesses machine process (line_is i) (step_of machine state process).action state ++ await_accesses process (line_is i) (step_of machine state process).next);
  tells = record {
    objects = λ object low. sym
        (ap (λ (s : State). not (same_value (value_at state.values object) (value_at s.values object))) (quiet-step-after machine state process is)
        ∙ ap not (same_value-refl (value_at state.values object)));
    waits = λ number low. sym
        (ap (λ (s : State). is_waiting (process_at state number).activity && is_ready (process_at s number).activity) (quiet-step-after machine state process is)
        ∙ none (cases_eq process number));
  };
}
  where
    waits-or-ready : (activity : Activity) → (is_waiting activity && is_ready activity) ≡ false
    waits-or-ready (Ready tasks operands) = refl
    waits-or-ready (Waiting place entries tasks) = refl
    waits-or-ready (Asleep time tasks) = refl
    waits-or-ready (Postponed tasks) = refl
    waits-or-ready Done = refl

    none : {number : ℕ} → (process ≡ number) ⊎ (process ≡ number → ⊥) →
        (is_waiting (process_at state number).activity && is_ready (process_at (gone_on machine process state) number).activity) ≡ false
    none {number} (inl same) = ap (λ b. b && is_ready (process_at (gone_on machine process state) number).activity)
        (ap (λ n. is_waiting (process_at state n).activity) (sym same) ∙ ap (λ (w : WaitSeen). w.waits) (ready-waits-not (process_at state process).activity ready))
    none {number} (inr other) =
        ap (λ (p : ProcessState). is_waiting (process_at state number).activity && is_ready p.activity)
        (changed-elsewhere idle_process state.processes process number (after_step state (step_of machine state process)) other)
        ∙ waits-or-ready (process_at state number).activity

-- Lanes

-- the state after a step of a lane that has an update
pub lane-after : (machine : Machine) (state : State) (process : ℕ) (update : ValueUpdate) → first_update (process_at state process).lane ≡ Some update →
    after machine state (LaneStep process) ≡ written machine update (lane_gone_on process state)
lane-after machine state process update is = ap (λ w. written_if machine w (lane_gone_on process state)) is

first-line : (lane : List ValueUpdate) (update : ValueUpdate) → first_update lane ≡ Some update → update.line ≡ lane_line lane
first-line [] update e = cc
first-line (first ∷ rest) update e = ap (λ (u : ValueUpdate). u.line) (some-is update first (sym e))
  where
    some-is : (x y : ValueUpdate) → Some x ≡ Some y → x ≡ y
    some-is x y h = ap (found_or x) h

first-accesses : (machine : Machine) (process : ℕ) (lane : List ValueUpdate) (update : ValueUpdate) (state : State) → first_update lane ≡ Some update →
    update_accesses machine process update.line update state ≡ lane_accesses machine process lane state
first-accesses machine process [] update state e = cc
first-accesses machine process (first ∷ rest) update state e = ap (λ (u : ValueUpdate). update_accesses machine process u.line u state) (some-is update first (sym e))
  where
    some-is : (x y : ValueUpdate) → Some x ≡ Some y → x ≡ y
    some-is x y h = ap (found_or x) h

same-lane-waits : (state : State) (process : ℕ) → AreInSameWaits state.processes (lane_gone_on process state).processes
same-lane-waits state process = same-seen wait_of idle_process state.processes process after_lane_step refl

-- a step of a lane is told by its write
pub lane-told : (machine : Machine) (state : State) (process : ℕ) (update : ValueUpdate) (accesses : List ObjectAccess) (changed ended : List ℕ) →
    first_update (process_at state process).lane ≡ Some update →
    TellsWrite machine (lane_gone_on process state) update process update.line accesses changed ended → TellsStep machine state (LaneStep process) update.line accesses changed ended
lane-told machine state process update accesses changed ended is told = record {
  line_is = first-line (process_at state process).lane update is;
  accesses_are = told.accesses_are
      ∙ same-accesses machine state.time state.nodes state.values state.processes (lane_gone_on process state).processes update process update.line (same-lane-waits state process)
      ∙ first-accesses machine process (process_at state process).lane update state is;
  tells = write-tells machine state (lane_gone_on process state) (LaneStep process) update process update.line accesses changed ended refl (same-lane-waits state process)
      (lane-after machine state process update is) told;
}

-- The laws

-- process and lane steps that write are told by their writes, and a step that writes nothing changes nothing and ends no wait
pub record StepsTell : Type 0 where
  pub writes : (machine : Machine) (state : State) (process line : ℕ) (update : ValueUpdate) (accesses : List ObjectAccess) (changed ended : List ℕ) →
      is_ready (process_at state process).activity ≡ true →
      line ≡ (step_of machine state process).line → write_of (step_of machine state process).action ≡ Some update →
      TellsWrite machine (gone_on machine process state) update process line accesses changed ended →
      TellsStep machine state (Step process) line accesses changed ended
  pub quiet : (machine : Machine) (state : State) (process line : ℕ) (accesses : List ObjectAccess) → is_ready (process_at state process).activity ≡ true →
      line ≡ (step_of machine state process).line → write_of (step_of machine state process).action ≡ None →
      accesses ≡ action_accesses machine process line (step_of machine state process).action state ++ await_accesses process line (step_of machine state process).next →
      TellsStep machine state (Step process) line accesses [] []
  pub lanes : (machine : Machine) (state : State) (process : ℕ) (update : ValueUpdate) (accesses : List ObjectAccess) (changed ended : List ℕ) →
      first_update (process_at state process).lane ≡ Some update →
      TellsWrite machine (lane_gone_on process state) update process update.line accesses changed ended → TellsStep machine state (LaneStep process) update.line accesses changed ended
