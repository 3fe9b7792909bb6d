-- A state with own updates of some processes: events that are no steps of these or of their lanes do in it what they do without them.
use Rattle.std.proofs.Common.{◌≡◌, ℕ, zero, suc, ◌+◌, List, [], ◌∷◌, ◌++◌, map, filter, ◌&&◌, refl, sym, ap, ◌∙◌, arith}
use Rattle.std.specs.Prelude.{Option, Some, None, slice_get}
use Rattle.four_value.specs.Values.{LogicValue, same_value}
use Rattle.vf_base.specs.Lists.{joined, map_numbered, change_at, has}
use Rattle.v_design.specs.Paths.{net_pieces}
use Rattle.v_design.specs.Designs.{FlatDesign, FlatNode, Machine, StuckAt, faulty_machine}
use Rattle.v_design.specs.Assignments.{ValueUpdate, value_at}
use Rattle.v_design.specs.Processes.{Activity, Ready, Waiting, Asleep, Postponed, Done, Action, ReadsObject, WritesObject, AppendsUpdate, TouchesNothing, ProcessStep}
use Rattle.v_design.specs.States.{State, ProcessState, Event, Step, LaneStep, Evaluation, NetUpdate, after, process_at, node_at, found_or, idle_process, woken_process, with_value, with_values}
use Rattle.v_design.specs.States.{with_process, with_node, value_written, written_if, write_of, activity_step, step_of, after_step, stepped, first_update, after_lane_step, lane_stepped, evaluated, nets_updated}
use Rattle.v_design.specs.States.{is_ready}
use Rattle.v_design.specs.Accesses.{Writing, ObjectAccess, is_waiting, ended_by, ended_accesses, write_accesses, net_write, action_accesses, await_accesses, step_accesses, lane_accesses, net_ended_by, net_accesses, accesses_of}
use Rattle.v_design.specs.PhaseLogs.{lane_line}
use Rattle.copy_laws.specs.QuietPhases.{own_line, DoesAlike}
use Rattle.lockstep_index.specs.Writes.{OwnWrites, with_writes, ActsElsewhere}

-- processes, numbered on, with own updates
abbrev pub all_with : (ℕ → Option OwnWrites) → ℕ → List ProcessState → List ProcessState
all_with writes number processes = map_numbered (λ n. with_writes (writes n)) number processes

abbrev pub with_own : (ℕ → Option OwnWrites) → State → State
with_own writes state = record state { processes = all_with writes 0 state.processes }

-- Processes

does-same : (own : Option OwnWrites) (process : ProcessState) → (with_writes own process).activity ≡ process.activity
does-same None process = refl
does-same (Some own) process = refl

activity-all : (writes : ℕ → Option OwnWrites) (n : ℕ) (ps : List ProcessState) (p : ℕ) →
    (found_or idle_process (slice_get (all_with writes n ps) p)).activity ≡ (found_or idle_process (slice_get ps p)).activity
activity-all writes n [] p = refl
activity-all writes n (x ∷ ps) zero = does-same (writes n) x
activity-all writes n (x ∷ ps) (suc p) = activity-all writes (n + 1) ps p

pub activity-own : (writes : ℕ → Option OwnWrites) (state : State) (p : ℕ) → (process_at (with_own writes state) p).activity ≡ (process_at state p).activity
activity-own writes state p = activity-all writes 0 state.processes p

none-with : (own : Option OwnWrites) (process : ProcessState) → own ≡ None → with_writes own process ≡ process
none-with None process e = refl
none-with (Some own) process e = cc

process-all : (writes : ℕ → Option OwnWrites) (n : ℕ) (ps : List ProcessState) (p : ℕ) → writes (n + p) ≡ None →
    found_or idle_process (slice_get (all_with writes n ps) p) ≡ found_or idle_process (slice_get ps p)
process-all writes n [] p e = refl
process-all writes n (x ∷ ps) zero e = none-with (writes n) x ((let z : n ≡ n + 0 = omega arith in ap writes z) ∙ e)
process-all writes n (x ∷ ps) (suc p) e = process-all writes (n + 1) ps p ((let z : n + 1 + p ≡ n + suc p = omega arith in ap writes z) ∙ e)

-- a process without own updates
process-own : (writes : ℕ → Option OwnWrites) (state : State) (p : ℕ) → writes p ≡ None → process_at (with_own writes state) p ≡ process_at state p
process-own writes state p e = process-all writes 0 state.processes p ((let z : 0 + p ≡ p = omega arith in ap writes z) ∙ e)

woken-own : (object : ℕ) (old new : LogicValue) (own : Option OwnWrites) (process : ProcessState) →
    woken_process object old new (with_writes own process) ≡ with_writes own (woken_process object old new process)
woken-own object old new None process = refl
woken-own object old new (Some own) process = refl

woken-all : (object : ℕ) (old new : LogicValue) (writes : ℕ → Option OwnWrites) (n : ℕ) (ps : List ProcessState) →
    map (woken_process object old new) (all_with writes n ps) ≡ all_with writes n (map (woken_process object old new) ps)
woken-all object old new writes n [] = refl
woken-all object old new writes n (x ∷ ps) = λ i. woken-own object old new (writes n) x i ∷ woken-all object old new writes (n + 1) ps i

changed-with : (change : ProcessState → ProcessState) (own : Option OwnWrites) (process : ProcessState) → own ≡ None → change (with_writes own process) ≡ with_writes own (change process)
changed-with change None process e = refl
changed-with change (Some own) process e = cc

changed-all : (change : ProcessState → ProcessState) (writes : ℕ → Option OwnWrites) (n : ℕ) (ps : List ProcessState) (p : ℕ) → writes (n + p) ≡ None →
    change_at (all_with writes n ps) p change ≡ all_with writes n (change_at ps p change)
changed-all change writes n [] p e = refl
changed-all change writes n (x ∷ ps) zero e = ap (λ y. y ∷ all_with writes (n + 1) ps) (changed-with change (writes n) x ((let z : n ≡ n + 0 = omega arith in ap writes z) ∙ e))
changed-all change writes n (x ∷ ps) (suc p) e =
    ap (λ l. with_writes (writes n) x ∷ l) (changed-all change writes (n + 1) ps p ((let z : n + 1 + p ≡ n + suc p = omega arith in ap writes z) ∙ e))

-- what looks at processes by what they do alone
numbered-all : {B : Type 0} (give : ℕ → ProcessState → B) → ((m : ℕ) (own : Option OwnWrites) (process : ProcessState) → give m (with_writes own process) ≡ give m process) →
    (writes : ℕ → Option OwnWrites) (m n : ℕ) (ps : List ProcessState) → map_numbered give m (all_with writes n ps) ≡ map_numbered give m ps
numbered-all give same writes m n [] = refl
numbered-all give same writes m n (x ∷ ps) = λ i. same m (writes n) x i ∷ numbered-all give same writes (m + 1) (n + 1) ps i

-- States

process-changed : (writes : ℕ → Option OwnWrites) (p : ℕ) (change : ProcessState → ProcessState) (state : State) → writes p ≡ None →
    with_process p change (with_own writes state) ≡ with_own writes (with_process p change state)
process-changed writes p change state e =
    ap (λ (ps : List ProcessState). record state { processes = ps })
    (changed-all change writes 0 state.processes p ((let z : 0 + p ≡ p = omega arith in ap writes z) ∙ e))

put-own : (machine : Machine) (writes : ℕ → Option OwnWrites) (object : ℕ) (new : LogicValue) (state : State) →
    with_value machine object new (with_own writes state) ≡ with_own writes (with_value machine object new state)
put-own machine writes object new state =
    ap (λ (ps : List ProcessState). record (with_value machine object new state) { processes = ps })
    (woken-all object (value_at state.values object) new writes 0 state.processes)

written-own : (machine : Machine) (writes : ℕ → Option OwnWrites) (update : Option ValueUpdate) (state : State) →
    written_if machine update (with_own writes state) ≡ with_own writes (written_if machine update state)
written-own machine writes None state = refl
written-own machine writes (Some update) state = put-own machine writes update.object (value_written machine state update) state

puts-own : (machine : Machine) (writes : ℕ → Option OwnWrites) (objects : List ℕ) (values : List LogicValue) (state : State) →
    with_values machine objects values (with_own writes state) ≡ with_own writes (with_values machine objects values state)
puts-own machine writes [] values state = refl
puts-own machine writes (object ∷ objects) [] state = refl
puts-own machine writes (object ∷ objects) (value ∷ values) state =
    ap (with_values machine objects values) (put-own machine writes object value state) ∙ puts-own machine writes objects values (with_value machine object value state)

activity-step-own : (machine : Machine) (writes : ℕ → Option OwnWrites) (state : State) (p : ℕ) (activity : Activity) →
    activity_step machine (with_own writes state) p activity ≡ activity_step machine state p activity
activity-step-own machine writes state p (Ready tasks operands) = refl
activity-step-own machine writes state p (Waiting place entries tasks) = refl
activity-step-own machine writes state p (Asleep time tasks) = refl
activity-step-own machine writes state p (Postponed tasks) = refl
activity-step-own machine writes state p Done = refl

step-own : (machine : Machine) (writes : ℕ → Option OwnWrites) (state : State) (p : ℕ) → step_of machine (with_own writes state) p ≡ step_of machine state p
step-own machine writes state p = ap (activity_step machine (with_own writes state) p) (activity-own writes state p) ∙ activity-step-own machine writes state p (process_at state p).activity

lane-own : (writes : ℕ → Option OwnWrites) (state : State) (p : ℕ) → writes p ≡ None → (process_at (with_own writes state) p).lane ≡ (process_at state p).lane
lane-own writes state p e = ap (λ (s : ProcessState). s.lane) (process-own writes state p e)

pub after-own : (machine : Machine) (writes : ℕ → Option OwnWrites) (state : State) (event : Event) → ActsElsewhere writes event →
    after machine (with_own writes state) event ≡ with_own writes (after machine state event)
after-own machine writes state (Step p) e =
    ap (λ (step : ProcessStep). stepped machine p step (with_own writes state)) (step-own machine writes state p)
    ∙ ap (written_if machine (write_of (step_of machine state p).action)) (process-changed writes p (after_step state (step_of machine state p)) state e)
    ∙ written-own machine writes (write_of (step_of machine state p).action) (with_process p (after_step state (step_of machine state p)) state)
after-own machine writes state (LaneStep p) e =
    ap (λ (lane : List ValueUpdate). lane_stepped machine p lane (with_own writes state)) (lane-own writes state p e)
    ∙ ap (written_if machine (first_update (process_at state p).lane)) (process-changed writes p after_lane_step state e)
    ∙ written-own machine writes (first_update (process_at state p).lane) (with_process p after_lane_step state)
after-own machine writes state (Evaluation number) e = go (slice_get machine.design.nodes number)
  where
    go : (found : Option FlatNode) → evaluated machine number found (with_own writes state) ≡ with_own writes (evaluated machine number found state)
    go None = refl
    go (Some node) = refl
after-own machine writes state (NetUpdate number) e = go (slice_get machine.design.nodes number) (node_at state number).pending
  where
    go : (found : Option FlatNode) (pending : Option (List LogicValue)) →
        nets_updated machine number found pending (with_own writes state) ≡ with_own writes (nets_updated machine number found pending state)
    go None pending = refl
    go (Some node) None = refl
    go (Some node) (Some values) = puts-own machine writes node.outputs values (with_node number (λ old. record old { pending = None }) state)

-- Accesses

ended-with : (object : ℕ) (old new : LogicValue) (m : ℕ) (own : Option OwnWrites) (process : ProcessState) → ended_by object old new m (with_writes own process) ≡ ended_by object old new m process
ended-with object old new m None process = refl
ended-with object old new m (Some own) process = refl

ended-own : (writes : ℕ → Option OwnWrites) (object : ℕ) (old new : LogicValue) (state : State) → ended_accesses object old new (with_own writes state) ≡ ended_accesses object old new state
ended-own writes object old new state =
    ap (λ (l : List (List ObjectAccess)). joined l) (numbered-all (ended_by object old new) (ended-with object old new) writes 0 0 state.processes)

write-own : (writes : ℕ → Option OwnWrites) (process line object : ℕ) (old new : LogicValue) (state : State) →
    write_accesses process line object old new (with_own writes state) ≡ write_accesses process line object old new state
write-own writes process line object old new state =
    ap (λ (l : List ObjectAccess). record { act = Writing old new; object = object; process = process; line = line } ∷ l) (ended-own writes object old new state)

action-own : (machine : Machine) (writes : ℕ → Option OwnWrites) (process line : ℕ) (action : Action) (state : State) →
    action_accesses machine process line action (with_own writes state) ≡ action_accesses machine process line action state
action-own machine writes process line (ReadsObject object) state = refl
action-own machine writes process line (WritesObject update) state =
    write-own writes process line update.object (value_at state.values update.object) (value_written machine state update) state
action-own machine writes process line (AppendsUpdate delay update) state = refl
action-own machine writes process line TouchesNothing state = refl

lane-accesses-own : (machine : Machine) (writes : ℕ → Option OwnWrites) (process : ℕ) (lane : List ValueUpdate) (state : State) →
    lane_accesses machine process lane (with_own writes state) ≡ lane_accesses machine process lane state
lane-accesses-own machine writes process [] state = refl
lane-accesses-own machine writes process (update ∷ lane) state =
    write-own writes process update.line update.object (value_at state.values update.object) (value_written machine state update) state

net-with : (before next : State) (objects : List ℕ) (m : ℕ) (own : Option OwnWrites) (process : ProcessState) →
    net_ended_by before next objects m (with_writes own process) ≡ net_ended_by before next objects m process
net-with before next objects m None process = refl
net-with before next objects m (Some own) process = refl

net-own : (design : FlatDesign) (writes : ℕ → Option OwnWrites) (process line : ℕ) (found : Option FlatNode) (state next : State) →
    net_accesses design process line found (with_own writes state) (with_own writes next) ≡ net_accesses design process line found state next
net-own design writes process line None state next = refl
net-own design writes process line (Some node) state next =
    ap (λ (l : List (List ObjectAccess)). joined (map (net_write process line state next) (filter (has node.outputs) (net_pieces design))) ++ joined l) (numbered-all (net_ended_by state next node.outputs) (net-with state next node.outputs) writes 0 0 state.processes)

accesses-own : (machine : Machine) (writes : ℕ → Option OwnWrites) (process line : ℕ) (state : State) (event : Event) → ActsElsewhere writes event →
    accesses_of machine process line (with_own writes state) event ≡ accesses_of machine process line state event
accesses-own machine writes process line state (Step p) e =
    ap (λ (step : ProcessStep). step_accesses machine p step (with_own writes state)) (step-own machine writes state p)
    ∙ ap (λ l. l ++ await_accesses p (step_of machine state p).line (step_of machine state p).next)
    (action-own machine writes p (step_of machine state p).line (step_of machine state p).action state)
accesses-own machine writes process line state (LaneStep p) e =
    ap (λ (lane : List ValueUpdate). lane_accesses machine p lane (with_own writes state)) (lane-own writes state p e)
    ∙ lane-accesses-own machine writes p (process_at state p).lane state
accesses-own machine writes process line state (Evaluation number) e = refl
accesses-own machine writes process line state (NetUpdate number) e =
    ap (λ (next : State). net_accesses machine.design process line (slice_get machine.design.nodes number) (with_own writes state) next) (after-own machine writes state (NetUpdate number) tt)
    ∙ net-own machine.design writes process line (slice_get machine.design.nodes number) state (after machine state (NetUpdate number))

-- what an event does alike in a state it does alike with own updates
pub does-own : (design : FlatDesign) (fault : StuckAt) (writes : ℕ → Option OwnWrites) (good state : State) (event : Event) → ActsElsewhere writes event →
    DoesAlike design fault good state event → DoesAlike design fault good (with_own writes state) event
does-own design fault writes good state event e alike = record {
  accesses = λ process line. alike.accesses process line ∙ sym (accesses-own (faulty_machine design fault) writes process line state event e);
  line = alike.line ∙ sym (line event e);
  waits = λ p.
      alike.waits p
      ∙ (λ i.
      is_waiting (sym (activity-own writes state p) i)
      && is_ready (sym (ap (λ (s : State). (process_at s p).activity) (after-own (faulty_machine design fault) writes state event e) ∙ activity-own writes (after (faulty_machine design fault) state event) p)
      i));
  changes = λ object.
      alike.changes object
      ∙ ap (λ (s : State). same_value (value_at state.values object) (value_at s.values object)) (sym (after-own (faulty_machine design fault) writes state event e));
}
  where
    line : (event : Event) → ActsElsewhere writes event → own_line (faulty_machine design fault) (with_own writes state) event ≡ own_line (faulty_machine design fault) state event
    line (Step p) e = ap (λ (step : ProcessStep). step.line) (step-own (faulty_machine design fault) writes state p)
    line (LaneStep p) e = ap lane_line (lane-own writes state p e)
    line (Evaluation number) e = refl
    line (NetUpdate number) e = refl
