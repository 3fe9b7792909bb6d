-- A process that waits behind events among which it took a step began its wait by the last of these steps.
use Rattle.std.proofs.Common.{◌≡◌, ℕ, zero, suc, List, [], ◌∷◌, map, Bool, true, false, ◌||◌, refl, sym, ap, subst, ◌∙◌, inl}
use Rattle.std.specs.Prelude.{Option, Some, None, slice_get}
use Rattle.std.proofs.lemmas.Bool.{eqb-true, eqb-false}
use Rattle.four_value.specs.Values.{LogicValue}
use Rattle.vf_base.specs.Lists.{joined, change_at}
use Rattle.v_design.specs.Trees.{Entry}
use Rattle.v_design.specs.Designs.{FlatNode, Machine}
use Rattle.v_design.specs.Assignments.{ValueUpdate, value_at}
use Rattle.v_design.specs.Processes.{Activity, Ready, Waiting, Asleep, Postponed, Done, Action, ReadsObject, WritesObject, AppendsUpdate, TouchesNothing, ProcessStep}
use Rattle.v_design.specs.States.{State, ProcessState, Event, Step, LaneStep, Evaluation, NetUpdate, after, step_of, process_at, found_or, idle_process, node_at, some_entry, entry_matches, ready_if}
use Rattle.v_design.specs.States.{woken, woken_process, value_written, with_value, with_values, written_if, write_of, with_process, with_node, with_operand, next_activity, after_step}
use Rattle.v_design.specs.States.{first_update, after_lane_step, evaluated, nets_updated}
use Rattle.v_design.specs.Runs.{happened}
use Rattle.v_design.specs.Accesses.{Awaiting, ObjectAccess, waiting_entries, await_accesses, action_accesses, accesses_of}
use Rattle.v_design.specs.Logs.{LoggedEvent}
use Rattle.v_design.specs.PhaseLogs.{is_step_of, log_of}
use Rattle.copy_laws.specs.Filter.{IsIn}
use Rattle.order_laws.proofs.Conflicts.{In, In-right, In-map}
use Rattle.order_laws.proofs.PathLaws.{or-neither}
use Rattle.order_laws.proofs.RunStates.{state_at}
use Rattle.block_filter.specs.Blocks.{all_accesses}
use Rattle.block_filter.proofs.Places.{from_is_in, to_is_in, in-joined_at}
use Rattle.block_filter.proofs.Entries.{entries, log_entries, entry_at}
use Rattle.block_changes.specs.Changes.{steps_process}
use Rattle.lockstep_waits.specs.Begun.{BeginsToWait, LastWaitsAreBegun, LastWaitsAreLike}

-- Waits that stand

-- a process waits on an entry
abbrev WaitsOn : Entry → Activity → Type 0
WaitsOn entry activity = IsIn entry (waiting_entries activity)

abbrev WaitsThere : Entry → List ProcessState → ℕ → Type 0
WaitsThere entry processes number = WaitsOn entry (found_or idle_process (slice_get processes number)).activity

woken-waited : (entry : Entry) (object : ℕ) (old new : LogicValue) (activity : Activity) → WaitsOn entry (woken object old new activity) → WaitsOn entry activity
woken-waited entry object old new (Ready tasks operands) i = i
woken-waited entry object old new (Waiting place entries tasks) i = go (some_entry (entry_matches object old new) entries) i
  where
    go : (b : Bool) → WaitsOn entry (ready_if b (Waiting place entries tasks) tasks) → IsIn entry entries
    go true j = absurd j
    go false j = j
woken-waited entry object old new (Asleep time tasks) i = i
woken-waited entry object old new (Postponed tasks) i = i
woken-waited entry object old new Done i = i

mapped-waited : (entry : Entry) (change : ProcessState → ProcessState) (processes : List ProcessState) (number : ℕ) →
    ((process : ProcessState) → WaitsOn entry (change process).activity → WaitsOn entry process.activity) → WaitsThere entry (map change processes) number → WaitsThere entry processes number
mapped-waited entry change [] number keep i = i
mapped-waited entry change (process ∷ processes) zero keep i = keep process i
mapped-waited entry change (process ∷ processes) (suc number) keep i = mapped-waited entry change processes number keep i

value-waited : (entry : Entry) (machine : Machine) (object : ℕ) (new : LogicValue) (state : State) (number : ℕ) → WaitsThere entry (with_value machine object new state).processes number →
    WaitsThere entry state.processes number
value-waited entry machine object new state number i =
    mapped-waited entry (woken_process object (value_at state.values object) new) state.processes number
    (λ process j. woken-waited entry object (value_at state.values object) new process.activity j) i

written-waited : (entry : Entry) (machine : Machine) (write : Option ValueUpdate) (state : State) (number : ℕ) → WaitsThere entry (written_if machine write state).processes number →
    WaitsThere entry state.processes number
written-waited entry machine None state number i = i
written-waited entry machine (Some update) state number i = value-waited entry machine update.object (value_written machine state update) state number i

values-waited : (entry : Entry) (machine : Machine) (objects : List ℕ) (values : List LogicValue) (state : State) (number : ℕ) →
    WaitsThere entry (with_values machine objects values state).processes number → WaitsThere entry state.processes number
values-waited entry machine [] values state number i = i
values-waited entry machine (object ∷ objects) [] state number i = i
values-waited entry machine (object ∷ objects) (value ∷ values) state number i =
    value-waited entry machine object value state number (values-waited entry machine objects values (with_value machine object value state) number i)

evaluated-waited : (entry : Entry) (machine : Machine) (node : ℕ) (text : Option FlatNode) (state : State) (number : ℕ) → WaitsThere entry (evaluated machine node text state).processes number →
    WaitsThere entry state.processes number
evaluated-waited entry machine node None state number i = i
evaluated-waited entry machine node (Some text) state number i = i

nets-waited : (entry : Entry) (machine : Machine) (node : ℕ) (text : Option FlatNode) (pending : Option (List LogicValue)) (state : State) (number : ℕ) →
    WaitsThere entry (nets_updated machine node text pending state).processes number → WaitsThere entry state.processes number
nets-waited entry machine node None pending state number i = i
nets-waited entry machine node (Some text) None state number i = i
nets-waited entry machine node (Some text) (Some values) state number i =
    values-waited entry machine text.outputs values (with_node node (λ old. record old { pending = None }) state) number i

-- a change of another process, or one that leaves what it does
changed-other : (entry : Entry) (processes : List ProcessState) (place number : ℕ) (change : ProcessState → ProcessState) → (number ≡ place → ⊥) →
    WaitsThere entry (change_at processes place change) number → WaitsThere entry processes number
changed-other entry [] place number change other i = i
changed-other entry (process ∷ processes) zero zero change other i = absurd (other refl)
changed-other entry (process ∷ processes) zero (suc number) change other i = i
changed-other entry (process ∷ processes) (suc place) zero change other i = i
changed-other entry (process ∷ processes) (suc place) (suc number) change other i = changed-other entry processes place number change (λ e. other (ap suc e)) i

changed-same : (entry : Entry) (processes : List ProcessState) (place number : ℕ) → WaitsThere entry (change_at processes place after_lane_step) number → WaitsThere entry processes number
changed-same entry [] place number i = i
changed-same entry (process ∷ processes) zero zero i = i
changed-same entry (process ∷ processes) zero (suc number) i = i
changed-same entry (process ∷ processes) (suc place) zero i = i
changed-same entry (process ∷ processes) (suc place) (suc number) i = changed-same entry processes place number i

-- an event that isn't a step of the process leaves its wait, or ends it
event-waited : (entry : Entry) (machine : Machine) (state : State) (event : Event) (process : ℕ) → is_step_of process event ≡ false →
    WaitsOn entry (process_at (after machine state event) process).activity → WaitsOn entry (process_at state process).activity
event-waited entry machine state (Step number) process other i =
    changed-other entry state.processes number process (after_step state (step_of machine state number)) (eqb-false process number other)
    (written-waited entry machine (write_of (step_of machine state number).action) (with_process number (after_step state (step_of machine state number)) state) process i)
event-waited entry machine state (LaneStep number) process other i =
    changed-same entry state.processes number process
    (written-waited entry machine (first_update (process_at state number).lane) (with_process number after_lane_step state) process i)
event-waited entry machine state (Evaluation node) process other i = evaluated-waited entry machine node (slice_get machine.design.nodes node) state process i
event-waited entry machine state (NetUpdate node) process other i =
    nets-waited entry machine node (slice_get machine.design.nodes node) (node_at state node).pending state process i

events-waited : (entry : Entry) (machine : Machine) (state : State) (events : List Event) (process : ℕ) → steps_process events process ≡ false →
    WaitsOn entry (process_at (happened machine state events) process).activity → WaitsOn entry (process_at state process).activity
events-waited entry machine state [] process none i = i
events-waited entry machine state (event ∷ events) process none i =
    let p = or-neither (is_step_of process event) (steps_process events process) none in
    event-waited entry machine state event process p.0 (events-waited entry machine (after machine state event) events process p.1 i)

-- A wait that a step begins

operand-waited : (entry : Entry) (value : LogicValue) (next : Activity) → WaitsOn entry (with_operand value next) → WaitsOn entry next
operand-waited entry value (Ready tasks operands) i = i
operand-waited entry value (Waiting place entries tasks) i = i
operand-waited entry value (Asleep time tasks) i = i
operand-waited entry value (Postponed tasks) i = i
operand-waited entry value Done i = i

next-waited : (entry : Entry) (values : List LogicValue) (action : Action) (next : Activity) → WaitsOn entry (next_activity values action next) → WaitsOn entry next
next-waited entry values (ReadsObject object) next i = operand-waited entry (value_at values object) next i
next-waited entry values (WritesObject update) next i = i
next-waited entry values (AppendsUpdate delay update) next i = i
next-waited entry values TouchesNothing next i = i

stepped-waited : (entry : Entry) (processes : List ProcessState) (number : ℕ) (state : State) (step : ProcessStep) → WaitsThere entry (change_at processes number (after_step state step)) number →
    WaitsOn entry step.next
stepped-waited entry [] number state step i = absurd i
stepped-waited entry (process ∷ processes) zero state step i = next-waited entry state.values step.action step.next i
stepped-waited entry (process ∷ processes) (suc number) state step i = stepped-waited entry processes number state step i

step-begins : (entry : Entry) (machine : Machine) (state : State) (process : ℕ) → WaitsOn entry (process_at (after machine state (Step process)) process).activity →
    WaitsOn entry (step_of machine state process).next
step-begins entry machine state process i =
    stepped-waited entry state.processes process state (step_of machine state process)
    (written-waited entry machine (write_of (step_of machine state process).action) (with_process process (after_step state (step_of machine state process)) state) process i)

-- the event of a number is a step of a process that begins to wait on an entry
record StepBegins (machine : Machine) (state : State) (events : List Event) (process : ℕ) (entry : Entry) : Type 0 where
  pub place : ℕ
  pub stands : slice_get events place ≡ Some (Step process)
  pub begins : WaitsOn entry (step_of machine (state_at machine state events place) process).next

step-is : (process : ℕ) (event : Event) → is_step_of process event ≡ true → event ≡ Step process
step-is process (Step number) e = ap Step (sym (eqb-true process number e))
step-is process (LaneStep number) e = cc
step-is process (Evaluation node) e = cc
step-is process (NetUpdate node) e = cc

first-true : (b : Bool) → (b || false) ≡ true → b ≡ true
first-true true e = refl
first-true false e = e

find-step : (machine : Machine) (state : State) (events : List Event) (process : ℕ) (entry : Entry) → steps_process events process ≡ true →
    WaitsOn entry (process_at (happened machine state events) process).activity → StepBegins machine state events process entry
find-step machine state [] process entry steps i = cc
find-step machine state (event ∷ events) process entry steps i =
    go (steps_process events process) refl steps (λ later. find-step machine (after machine state event) events process entry later i)
  where
    go : (b : Bool) → steps_process events process ≡ b → (is_step_of process event || b) ≡ true →
        (steps_process events process ≡ true → StepBegins machine (after machine state event) events process entry) → StepBegins machine state (event ∷ events) process entry
    go true later some rest = let r = rest later in record { place = suc r.place; stands = r.stands; begins = r.begins }
    go false none some rest =
        let is : event ≡ Step process = step-is process event (first-true (is_step_of process event) some) in
        record {
          place = zero;
          stands = ap Some is;
          begins = step-begins entry machine state process
              (subst (λ e. WaitsOn entry (process_at (after machine state e) process).activity) is (events-waited entry machine (after machine state event) events process none i));
        }

-- Its access in the log

begun : (machine : Machine) (state : State) (events : List Event) (process : ℕ) (entry : Entry) → StepBegins machine state events process entry →
    BeginsToWait (all_accesses (log_of machine state events)) process entry
begun machine state events process entry found =
    let there : State = state_at machine state events found.place in
    let step : ProcessStep = step_of machine there process in
    let access : ObjectAccess = record { act = Awaiting entry; object = entry.object; process = process; line = step.line } in
    let e = entry_at machine [] state events found.place (Step process) found.stands in
    let among : In access (accesses_of machine e.2.writer e.2.line there (Step process)) =
    In-right access (action_accesses machine process step.line step.action there) (await_accesses process step.line step.next)
    (In-map (λ (one : Entry). let a : ObjectAccess = record { act = Awaiting one; object = one.object; process = process; line = step.line } in a) entry (waiting_entries step.next)
    (from_is_in entry (waiting_entries step.next) found.begins)) in
    let stands : In access (joined (map (λ (event : LoggedEvent). event.accesses) (entries machine [] state events))) =
    in-joined_at (λ (event : LoggedEvent). event.accesses) (entries machine [] state events) found.place e.0 access e.1 (subst (In access) (sym e.2.accesses) among) in
    record {
      access = access;
      is_in = to_is_in access (all_accesses (log_of machine state events))
          (subst (λ es. In access (joined (map (λ (event : LoggedEvent). event.accesses) es))) (sym (log_entries machine state events)) stands);
      act = refl;
      object_is = refl;
      process_is = refl;
    }

pub last_waits_are_begun : LastWaitsAreBegun
last_waits_are_begun machine begins events process entry h = begun machine begins events process entry (find-step machine begins events process entry h.steps h.waits)

pub last_waits_are_like : LastWaitsAreLike
last_waits_are_like awaited machine begins events process entry access h act object =
    let b = last_waits_are_begun machine begins events process entry h in
    (b.access, b.is_in, record { object = b.object_is ∙ sym object; act = inl (b.act ∙ sym act) })
