-- A step that is known is the step that comes next (nothing of the language).
use Rattle.std.proofs.Common.{◌≡◌, ℕ, ◌<◌, true, Bool, List, ◌++◌, length, map, get_or, refl, sym, ap, ◌∙◌, subst, arith}
use Rattle.std.specs.Prelude.{Option, IfSome, slice_get}
use Rattle.std.specs.Option.{option_map, option_to_list}
use Rattle.vf_base.specs.Lists.{AllHold, change_at}
use Rattle.v_design.specs.Designs.{FlatDesign, FlatProcess, Machine}
use Rattle.v_design.specs.Plain.{due_of}
use Rattle.v_design.specs.PlainDesigns.{design_of}
use Rattle.v_design.specs.Processes.{Activity, Ready, Waiting, Asleep, Postponed, Done, Action, ReadsObject, WritesObject, AppendsUpdate, TouchesNothing, ProcessStep}
use Rattle.v_design.specs.States.{State, ProcessState, LaterUpdate, found_or, idle_process, is_ready, step_of, next_activity, appended}
use Rattle.event_queue.specs.Queues.{HeldProcess}
use Rattle.process_code.specs.Points.{StepSaid, activity_of, said_of}
use Rattle.process_code.specs.RunEnds.{ActTold, act_by, act_of}
use Rattle.process_code.specs.declared.state.ProcState.{ProcState}
use Rattle.process_code.specs.declared.state.Stage.{Stage}
use Rattle.process_code.specs.declared.state.StepAct.{StepAct}
use Rattle.run_ends.specs.RunEnds.{IsCodeAt}
use Rattle.process_table.specs.declared.row.Row.{Row}
use Rattle.process_table.specs.declared.table.ProcessTable.{ProcessTable}
use Rattle.process_table.specs.declared.deed.Stepped.{Stepped}
use Rattle.process_table.specs.Arranged.{IsKept, IsTable, HasStage, processes_of, table_of, later_by, held_so, stage_holding}
use Rattle.process_table.specs.Deeds.{IsStepOf, read_of, read_by, written_by, read_said, written_said}
use Rattle.process_table.specs.Known.{IsKnownStep, read_told, written_told, later_told}
use Rattle.process_table.specs.Puts.{PutsState}
use Rattle.process_table.specs.Rows.{RowState, row_states, row_text, state_at, text_at, step_from, step_at, RowsChange, StepsRows}
use Rattle.process_table.specs.Tables.{TableState, IsTableOf, process_in}
use Rattle.process_table.specs.Waited.{IsWaitable, waited_entries, body_of}
use Rattle.process_table.proofs.Changed.{ready-low, at-process, queue-length}
use Rattle.process_table.proofs.Steps.{step-of, later-said, read-said, written-said, table-step, is-step}
use Rattle.process_table.proofs.TableCalls.{process-row}

-- A ready process

-- the row of a ready process is ready
pub ready-row : (t : ProcessTable) → IsKept t → (p : ℕ) → is_ready (process_in (table_of t) p).activity ≡ true → is_ready (state_at (row_states t.rows.items) p).activity ≡ true
ready-row t kept p ready =
    ap (λ (process : ProcessState). is_ready process.activity) (sym (process-row (design_of t.design.now) t.time t.rows.items t.index t.ready t.lanes t.queue kept p)) ∙ ready

-- and there
pub low : (t : ProcessTable) → IsKept t → (p : ℕ) → is_ready (process_in (table_of t) p).activity ≡ true → p < length (row_states t.rows.items)
low t kept p ready = ready-low (row_states t.rows.items) p (ready-row t kept p ready)

-- What is told of a step

told-read : (now : ℕ) (action : Action) → read_told (act_of now action) ≡ read_said (said_of now action Done)
told-read now (ReadsObject object) = refl
told-read now (WritesObject update) = refl
told-read now (AppendsUpdate delay update) = refl
told-read now TouchesNothing = refl

pub told-action : (now : ℕ) (action : Action) → read_told (act_of now action) ≡ read_of action
told-action now (ReadsObject object) = refl
told-action now (WritesObject update) = refl
told-action now (AppendsUpdate delay update) = refl
told-action now TouchesNothing = refl

told-written : (now : ℕ) (action : Action) → written_told (act_of now action) ≡ written_said (said_of now action Done)
told-written now (ReadsObject object) = refl
told-written now (WritesObject update) = refl
told-written now (AppendsUpdate delay update) = refl
told-written now TouchesNothing = refl

told-later : (now : ℕ) (action : Action) → later_told (act_of now action) ≡ appended now action
told-later now (ReadsObject object) = refl
told-later now (WritesObject update) = refl
told-later now (AppendsUpdate delay update) = refl
told-later now TouchesNothing = refl

-- The table after a known step

module _ (design : FlatDesign) (time : ℕ) (rows : List Row) (index : List (List ℕ)) (ready lanes : List Bool) (queue : List HeldProcess) (table : IsTable design time rows index ready lanes queue)
    (bodies : (n : ℕ) → AllHold (IsWaitable design (body_of design n)) (waited_entries (body_of design n)))
    (p : ℕ) (line : ℕ) (act : StepAct) (next : ProcState) (row : Row) (is : row ≡ get_or rows p row) (at : IsCodeAt design p row.code) (rows1 : List Row) (puts : PutsState rows rows1 p next)
    (machine : Machine) (state : State) (of : IsTableOf machine state (record { design = design; time = time; processes = processes_of (row_states rows) queue }))
    (known : IsKnownStep machine state p line act next)
  where
    -- the step
    abbrev step : ProcessStep
    step = step_at time rows p

    abbrev said : StepSaid
    said = said_of time step.action step.next

    same : step_of machine state p ≡ step
    same =
        step-of machine state (record { design = design; time = time; processes = processes_of (row_states rows) queue }) p of
        ∙ ap (λ (texts : List FlatProcess). step_from (text_at texts p) time (found_or idle_process (slice_get (processes_of (row_states rows) queue) p)).activity) (sym table.texts)
        ∙ ap (λ (process : ProcessState). step_from (text_at (map row_text rows) p) time process.activity)
        (at-process (row_states rows) queue p (queue-length design time rows index ready lanes queue table))

    acts : act_by act ≡ act_of time step.action
    acts = known.act ∙ ap (λ (t : ℕ). act_of t (step_of machine state p).action) (sym of.time) ∙ ap (λ (s : ProcessStep). act_of time s.action) same

    stands : activity_of row.code next ≡ next_activity state.values step.action step.next
    stands =
        known.does row.code (subst (λ (d : FlatDesign). IsCodeAt d p row.code) of.design at)
        ∙ ap (λ (s : ProcessStep). next_activity state.values s.action s.next) same

    -- the row takes the step
    steps : StepsRows time state.values p rows rows1 line said
    steps = record {
      line = known.line ∙ ap (λ (s : ProcessStep). s.line) same;
      said = refl;
      rows = subst (λ (a : Activity). RowsChange rows rows1 p (λ (r : RowState). record r { activity = a })) stands (puts row is);
    }

    laters : later_told (act_by act) ≡ later_by said
    laters = ap later_told acts ∙ told-later time step.action ∙ sym (later-said time step.action step.next)

    held-as : (stage : Stage) (later : List LaterUpdate) (queue1 : List HeldProcess) → later ≡ later_told (act_by act) → queue1 ≡ change_at queue p (held_so (stage_holding stage) later) →
        queue1 ≡ change_at queue p (held_so (stage_holding stage) (later_by said))
    held-as stage later queue1 is_later kept = kept ∙ ap (λ (ls : List LaterUpdate). change_at queue p (held_so (stage_holding stage) ls)) (is_later ∙ laters)

    pub known-table : (stage : Stage) (told_ready told_waits : Bool) (ready1 : List Bool) (later : List LaterUpdate) (queue1 : List HeldProcess) →
        HasStage (state_at (row_states rows1) p).activity stage told_ready told_waits →
        p < length (row_states rows) →
        ready1 ≡ change_at ready p (λ member. told_ready) → later ≡ later_told (act_by act) → queue1 ≡ change_at queue p (held_so (stage_holding stage) later) →
        IsTable design time rows1 index ready1 lanes queue1
    known-table stage told_ready told_waits ready1 later queue1 has low marked is_later kept =
        table-step design time rows index ready lanes queue table bodies p state.values rows1 line said steps stage told_ready told_waits ready1 queue1 has low marked
        (held-as stage later queue1 is_later kept)

    pub known-step : (stage : Stage) (told_ready told_waits : Bool) (later : List LaterUpdate) (queue1 : List HeldProcess) (stepped : Stepped) →
        HasStage (state_at (row_states rows1) p).activity stage told_ready told_waits → p < length (row_states rows) → later ≡ later_told (act_by act) →
        queue1 ≡ change_at queue p (held_so (stage_holding stage) later) → stepped.line ≡ line → read_by stepped.act ≡ read_told (act_by act) →
        written_by stepped.act ≡ written_told (act_by act) →
        option_to_list (option_map due_of stepped.later) ≡ later_told (act_by act) → stepped.waits ≡ told_waits → stepped.ready ≡ told_ready →
        IsStepOf machine state p stepped (record { design = design; time = time; processes = processes_of (row_states rows1) queue1 })
    known-step stage told_ready told_waits later queue1 stepped has low is_later kept lines reads writes latered waiting readied =
        is-step design time rows index ready lanes queue table bodies p state.values rows1 line said steps stage told_ready told_waits queue1 stepped has low
        (held-as stage later queue1 is_later kept) lines
        (reads ∙ ap read_told acts ∙ told-read time step.action ∙ read-said time step.action Done ∙ sym (read-said time step.action step.next))
        (writes ∙ ap written_told acts ∙ told-written time step.action ∙ written-said time step.action Done ∙ sym (written-said time step.action step.next))
        (latered ∙ laters) waiting readied machine state of refl
