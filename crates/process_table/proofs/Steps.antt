-- A step of the table is a step of the state (IEEE 1364-2001, clause 5).
use Rattle.std.proofs.Common.{◌≡◌, ℕ, ◌<◌, ◌≤◌, Bool, List, [], ◌∷◌, ◌++◌, length, map, refl, sym, ap, ◌∙◌, subst, arith}
use Rattle.std.specs.Prelude.{slice_get}
use Rattle.std.specs.Option.{option_map, option_to_list}
use Rattle.four_value.specs.Values.{LogicValue}
use Rattle.vf_base.specs.Lists.{AllHold, change_at}
use Rattle.v_design.specs.Trees.{Entry}
use Rattle.v_design.specs.Designs.{FlatDesign, FlatProcess, Machine}
use Rattle.v_design.specs.Processes.{Activity, Ready, Waiting, Asleep, Postponed, Done, Action, ReadsObject, WritesObject, AppendsUpdate, TouchesNothing, ProcessStep, process_step}
use Rattle.v_design.specs.States.{State, ProcessState, LaterUpdate, found_or, idle_process, is_ready, activity_step, step_of, process_at, after_step, next_activity}
use Rattle.v_design.specs.States.{appended, write_of}
use Rattle.v_design.specs.Accesses.{waiting_entries, is_waiting}
use Rattle.v_design.specs.Plain.{due_of}
use Rattle.event_queue.specs.declared.held.Holding.TheVariants as held
use Rattle.event_queue.specs.Queues.{HeldProcess, held_at, holding_of, WakesAfter}
use Rattle.process_code.specs.Points.{StepSaid, said_of}
use Rattle.process_code.specs.declared.state.Stage.{Stage}
use Rattle.process_table.specs.declared.row.Row.{Row}
use Rattle.process_table.specs.declared.deed.Stepped.{Stepped}
use Rattle.process_table.specs.Tables.{TableState, IsTableOf, process_in}
use Rattle.process_table.specs.Deeds.{IsStepOf, read_of, read_by, written_by, read_said, written_said}
use Rattle.process_table.specs.Waited.{IsWaitable, activity_entries, tasks_entries, waited_entries, body_of}
use Rattle.process_table.specs.WaitedLaws.{step-waits, hold-right}
use Rattle.process_table.proofs.Sleeps.{step-wakes}
use Rattle.process_table.specs.Rows.{RowState, row_states, row_text, state_at, text_at, step_from, step_at, after_row_step, readied, StepsRows}
use Rattle.process_table.specs.Arranged.{processes_of, row_ready, row_holding, IsTable, HasStage, stage_holding, later_by, held_so}
use Rattle.event_queue.specs.ChangeLaws.{at-change}
use Rattle.process_table.proofs.Changed.{processes-change, at-process, length-processes, queue-length, holding-at, changed, lanes-unseen, after-at, waits-at, no_row}

-- The step that comes next

activity-step-from : (machine : Machine) (state : State) (p : ℕ) (a : Activity) → activity_step machine state p a ≡ step_from (text_at machine.design.processes p) state.time a
activity-step-from machine state p (Ready tasks operands) = refl
activity-step-from machine state p (Waiting place entries tasks) = refl
activity-step-from machine state p (Asleep time tasks) = refl
activity-step-from machine state p (Postponed tasks) = refl
activity-step-from machine state p Done = refl

pub step-of : (machine : Machine) (state : State) (table : TableState) (p : ℕ) → IsTableOf machine state table →
    step_of machine state p ≡ step_from (text_at table.design.processes p) table.time (process_in table p).activity
step-of machine state table p t =
    activity-step-from machine state p (process_at state p).activity
    ∙ ap (λ (d : FlatDesign). step_from (text_at d.processes p) state.time (process_at state p).activity) (sym t.design)
    ∙ ap (λ time. step_from (text_at table.design.processes p) time (process_at state p).activity) (sym t.time)
    ∙ ap (λ ps. step_from (text_at table.design.processes p) table.time (found_or idle_process (slice_get ps p)).activity) (sym t.processes)

-- What a step says

pub read-said : (now : ℕ) (action : Action) (next : Activity) → read_said (said_of now action next) ≡ read_of action
read-said now (ReadsObject object) next = refl
read-said now (WritesObject update) next = refl
read-said now (AppendsUpdate delay update) next = refl
read-said now TouchesNothing (Ready tasks operands) = refl
read-said now TouchesNothing (Waiting place entries tasks) = refl
read-said now TouchesNothing (Asleep time tasks) = refl
read-said now TouchesNothing (Postponed tasks) = refl
read-said now TouchesNothing Done = refl

pub written-said : (now : ℕ) (action : Action) (next : Activity) → written_said (said_of now action next) ≡ write_of action
written-said now (ReadsObject object) next = refl
written-said now (WritesObject update) next = refl
written-said now (AppendsUpdate delay update) next = refl
written-said now TouchesNothing (Ready tasks operands) = refl
written-said now TouchesNothing (Waiting place entries tasks) = refl
written-said now TouchesNothing (Asleep time tasks) = refl
written-said now TouchesNothing (Postponed tasks) = refl
written-said now TouchesNothing Done = refl

pub later-said : (now : ℕ) (action : Action) (next : Activity) → later_by (said_of now action next) ≡ appended now action
later-said now (ReadsObject object) next = refl
later-said now (WritesObject update) next = refl
later-said now (AppendsUpdate delay update) next = refl
later-said now TouchesNothing (Ready tasks operands) = refl
later-said now TouchesNothing (Waiting place entries tasks) = refl
later-said now TouchesNothing (Asleep time tasks) = refl
later-said now TouchesNothing (Postponed tasks) = refl
later-said now TouchesNothing Done = refl

-- a value that is read leaves the entries of a wait
entries-next : (values : List LogicValue) (action : Action) (next : Activity) → waiting_entries (next_activity values action next) ≡ waiting_entries next
entries-next values (ReadsObject object) (Ready tasks operands) = refl
entries-next values (ReadsObject object) (Waiting place entries tasks) = refl
entries-next values (ReadsObject object) (Asleep time tasks) = refl
entries-next values (ReadsObject object) (Postponed tasks) = refl
entries-next values (ReadsObject object) Done = refl
entries-next values (WritesObject update) next = refl
entries-next values (AppendsUpdate delay update) next = refl
entries-next values TouchesNothing next = refl

waiting-next : (values : List LogicValue) (action : Action) (next : Activity) → is_waiting (next_activity values action next) ≡ is_waiting next
waiting-next values (ReadsObject object) (Ready tasks operands) = refl
waiting-next values (ReadsObject object) (Waiting place entries tasks) = refl
waiting-next values (ReadsObject object) (Asleep time tasks) = refl
waiting-next values (ReadsObject object) (Postponed tasks) = refl
waiting-next values (ReadsObject object) Done = refl
waiting-next values (WritesObject update) next = refl
waiting-next values (AppendsUpdate delay update) next = refl
waiting-next values TouchesNothing next = refl

ready-next : (values : List LogicValue) (action : Action) (next : Activity) → is_ready (next_activity values action next) ≡ is_ready next
ready-next values (ReadsObject object) (Ready tasks operands) = refl
ready-next values (ReadsObject object) (Waiting place entries tasks) = refl
ready-next values (ReadsObject object) (Asleep time tasks) = refl
ready-next values (ReadsObject object) (Postponed tasks) = refl
ready-next values (ReadsObject object) Done = refl
ready-next values (WritesObject update) next = refl
ready-next values (AppendsUpdate delay update) next = refl
ready-next values TouchesNothing next = refl

-- What comes after the present time

waitable-next : (P : Entry → Type 0) (values : List LogicValue) (action : Action) (next : Activity) → AllHold P (activity_entries next) →
    AllHold P (activity_entries (next_activity values action next))
waitable-next P values (ReadsObject object) (Ready tasks operands) h = h
waitable-next P values (ReadsObject object) (Waiting place entries tasks) h = h
waitable-next P values (ReadsObject object) (Asleep time tasks) h = h
waitable-next P values (ReadsObject object) (Postponed tasks) h = h
waitable-next P values (ReadsObject object) Done h = h
waitable-next P values (WritesObject update) next h = h
waitable-next P values (AppendsUpdate delay update) next h = h
waitable-next P values TouchesNothing next h = h

-- an update is due no earlier than now
later-after : (now : ℕ) (action : Action) → AllHold (λ (later : LaterUpdate). now ≤ later.time) (appended now action)
later-after now (ReadsObject object) = tt
later-after now (WritesObject update) = tt
later-after now (AppendsUpdate delay update) = (omega arith, tt)
later-after now TouchesNothing = tt

pub hold-more : {A : Type 0} (P : A → Type 0) (xs ys : List A) → AllHold P xs → AllHold P ys → AllHold P (xs ++ ys)
hold-more P [] ys h i = i
hold-more P (x ∷ xs) ys h i = (h.0, hold-more P xs ys h.1 i)

-- The entries for which a process may wait are those of its body
pub waitable-step : (P : Entry → Type 0) (process : FlatProcess) (now : ℕ) (values : List LogicValue) (activity : Activity) → AllHold P (waited_entries process.body) →
    AllHold P (activity_entries activity) →
    AllHold P (activity_entries (next_activity values (step_from process now activity).action (step_from process now activity).next))
waitable-step P process now values (Ready tasks operands) b h =
    waitable-next P values (process_step process now tasks operands).action (process_step process now tasks operands).next (step-waits P process now tasks operands b h)
waitable-step P process now values (Waiting place entries tasks) b h = h
waitable-step P process now values (Asleep time tasks) b h = h
waitable-step P process now values (Postponed tasks) b h = h
waitable-step P process now values Done b h = h

-- those of a process that is made ready are some of them
pub waitable-readied : (P : Entry → Type 0) (activity : Activity) → AllHold P (activity_entries activity) → AllHold P (activity_entries (readied activity))
waitable-readied P (Ready tasks operands) h = h
waitable-readied P (Waiting place entries tasks) h = hold-right P entries (tasks_entries tasks) h
waitable-readied P (Asleep time tasks) h = h
waitable-readied P (Postponed tasks) h = h
waitable-readied P Done h = h

-- A process that is made ready isn't held
pub readied-free : (activity : Activity) → held.Free ≡ holding_of (readied activity)
readied-free (Ready tasks operands) = refl
readied-free (Waiting place entries tasks) = refl
readied-free (Asleep time tasks) = refl
readied-free (Postponed tasks) = refl
readied-free Done = refl

-- The table after a step

module _ (design : FlatDesign) (time : ℕ) (rows : List Row) (index : List (List ℕ)) (ready lanes : List Bool) (queue : List HeldProcess) (table : IsTable design time rows index ready lanes queue)
    (bodies : (n : ℕ) → AllHold (IsWaitable design (body_of design n)) (waited_entries (body_of design n)))
    (p : ℕ) (values : List LogicValue) (rows1 : List Row) (line : ℕ) (said : StepSaid) (steps : StepsRows time values p rows rows1 line said) where
  -- the state of the row, and the step
  abbrev old : RowState
  old = state_at (row_states rows) p

  abbrev step : ProcessStep
  step = step_at time rows p

  abbrev after_it : RowState → RowState
  after_it = after_row_step values step

  laters : later_by said ≡ appended time step.action
  laters = ap later_by steps.said ∙ later-said time step.action step.next

  -- the text is that of the design
  text-same : text_at (map row_text rows) p ≡ text_at design.processes p
  text-same = ap (λ texts. text_at texts p) table.texts

  waits-now : AllHold (IsWaitable design (body_of design p)) (activity_entries (after_it old).activity)
  waits-now =
      waitable-step (IsWaitable design (body_of design p)) (text_at (map row_text rows) p) time values old.activity
      (subst (λ (t : FlatProcess). AllHold (IsWaitable design (body_of design p)) (waited_entries t.body)) (sym text-same) (bodies p))
      (waits-at design time rows index ready lanes queue table p)

  wakes-now : WakesAfter time (holding_of (after_it old).activity)
  wakes-now =
      step-wakes (text_at (map row_text rows) p) time values old.activity
      (subst (WakesAfter time) (holding-at design time rows index ready lanes queue table p) (after-at design time rows index ready lanes queue table p).0)

  due-later : AllHold (λ (later : LaterUpdate). time ≤ later.time) (later_by said)
  due-later = subst (AllHold (λ (later : LaterUpdate). time ≤ later.time)) (sym laters) (later-after time step.action)

  -- where the queue holds what the step left to it
  pub table-step : (stage : Stage) (is_ready' waits' : Bool) (ready1 : List Bool) (queue1 : List HeldProcess) → HasStage (state_at (row_states rows1) p).activity stage is_ready' waits' →
      p < length (row_states rows) →
      ready1 ≡ change_at ready p (λ member. is_ready') → queue1 ≡ change_at queue p (held_so (stage_holding stage) (later_by said)) →
      IsTable design time rows1 index ready1 lanes queue1
  table-step stage is_ready' waits' ready1 queue1 has low marked kept =
      let at : state_at (row_states rows1) p ≡ after_it old = ap (λ states. state_at states p) steps.rows.states ∙ at-change no_row (row_states rows) p after_it low in
      let hold : stage_holding stage ≡ row_holding (after_it old) = sym has.holding ∙ ap row_holding at in
      changed design time rows index ready lanes queue table rows1 ready1 lanes queue1 p after_it (held_so (stage_holding stage) (later_by said)) steps.rows
      (marked ∙ ap (λ (b : Bool). change_at ready p (λ (member : Bool). b)) (sym has.ready ∙ ap row_ready at))
      (lanes-unseen design time rows index ready lanes queue table p after_it refl)
      kept hold (
        subst (WakesAfter time) (sym hold) wakes-now,
        hold-more (λ (later : LaterUpdate). time ≤ later.time) (held_at queue p).later (later_by said) (after-at design time rows index ready lanes queue table p).1 due-later,
      )
      waits-now

  -- it is the step of each state
  pub is-step : (stage : Stage) (is_ready' waits' : Bool) (queue1 : List HeldProcess) (stepped : Stepped) → HasStage (state_at (row_states rows1) p).activity stage is_ready' waits' →
      p < length (row_states rows) →
      queue1 ≡ change_at queue p (held_so (stage_holding stage) (later_by said)) → stepped.line ≡ line → read_by stepped.act ≡ read_said said → written_by stepped.act ≡ written_said said →
      option_to_list (option_map due_of stepped.later) ≡ later_by said → stepped.waits ≡ waits' → stepped.ready ≡ is_ready' →
      (machine : Machine) (state : State) → IsTableOf machine state (record { design = design; time = time; processes = processes_of (row_states rows) queue }) → state.values ≡ values →
      IsStepOf machine state p stepped (record { design = design; time = time; processes = processes_of (row_states rows1) queue1 })
  is-step stage is_ready' waits' queue1 stepped has low kept lines reads writes latered waiting readied machine state of same_values =
      let long = queue-length design time rows index ready lanes queue table in
      let same : step_of machine state p ≡ step =
      step-of machine state (record { design = design; time = time; processes = processes_of (row_states rows) queue }) p of
      ∙ ap (λ (text : FlatProcess). step_from text time (found_or idle_process (slice_get (processes_of (row_states rows) queue) p)).activity) (sym text-same)
      ∙ ap (λ (process : ProcessState). step_from (text_at (map row_text rows) p) time process.activity) (at-process (row_states rows) queue p long) in
      let at : state_at (row_states rows1) p ≡ after_it old = ap (λ states. state_at states p) steps.rows.states ∙ at-change no_row (row_states rows) p after_it low in
      let hold : stage_holding stage ≡ row_holding (after_it old) = sym has.holding ∙ ap row_holding at in
      let changes : processes_of (row_states rows1) queue1 ≡ change_at (processes_of (row_states rows) queue) p (after_step state (step_of machine state p)) =
      ap (λ states. processes_of states queue1) steps.rows.states ∙ ap (processes_of (change_at (row_states rows) p after_it)) kept
      ∙ processes-change (row_states rows) queue p after_it (held_so (stage_holding stage) (later_by said)) (after_step state (step_of machine state p))
      (rw (same, same_values, sym of.time, laters) refl) in
      let does : (found_or idle_process (slice_get (processes_of (row_states rows1) queue1) p)).activity ≡ next_activity state.values (step_of machine state p).action (step_of machine state p).next =
      ap (λ ps. (found_or idle_process (slice_get ps p)).activity) changes
      ∙ ap (λ (r : ProcessState). r.activity) (at-change idle_process (processes_of (row_states rows) queue) p (after_step state (step_of machine state p))
      (omega (arith, low, length-processes (row_states rows) queue long))) in
      record {
        line = lines ∙ steps.line ∙ ap (λ (s : ProcessStep). s.line) (sym same);
        read = reads ∙ ap read_said steps.said ∙ read-said time step.action step.next ∙ ap (λ (s : ProcessStep). read_of s.action) (sym same);
        write = writes ∙ ap written_said steps.said ∙ written-said time step.action step.next ∙ ap (λ (s : ProcessStep). write_of s.action) (sym same);
        later = latered ∙ laters ∙ ap (λ now. appended now step.action) of.time ∙ ap (λ (s : ProcessStep). appended state.time s.action) (sym same);
        waits = waiting ∙ sym has.waits ∙ ap (λ (r : RowState). is_waiting r.activity) at ∙ waiting-next values step.action step.next ∙ ap (λ (s : ProcessStep). is_waiting s.next) (sym same);
        ready = readied ∙ sym has.ready ∙ ap row_ready at ∙ ready-next values step.action step.next ∙ ap (λ (s : ProcessStep). is_ready s.next) (sym same);
        activity = does;
        entries = ap waiting_entries does ∙ entries-next state.values (step_of machine state p).action (step_of machine state p).next;
        after = record {
          design = of.design;
          time = of.time;
          processes = changes ∙ ap (λ ps. change_at ps p (after_step state (step_of machine state p))) of.processes;
        };
      }
