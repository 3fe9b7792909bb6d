-- The event of the least node, lane or process leads to the next moment (IEEE 1364-2001, clause 5).
use Rattle.std.proofs.Common.{◌≡◌, ℕ, ◌<◌, ◌≤◌, ◌^◌, List, length, refl, sym, ap, subst, ◌∙◌}
use Rattle.std.specs.Prelude.{Option, Some, None, IfSome, Bool, slice_get, true, false}
use Rattle.v_design.specs.PlainDesigns.{design_of}
use Rattle.v_design.specs.WellFormed.{KeepsRules}
use Rattle.v_design.specs.Designs.{FlatDesign, FlatNode, Machine}
use Rattle.v_design.specs.States.{State, ProcessState, Event, Step, LaneStep, Evaluation, idle_process, process_at, is_ready, is_any, first_update, step_of, write_of}
use Rattle.race_laws.specs.Writes.{WritesAreOf, WritesStay, NextWritesAreOf}
use Rattle.v_design.specs.Runs.{Happens as Makes, most_steps, work_of}
use Rattle.v_design.specs.Grades.{Phase}
use Rattle.v_design.specs.OwnSteps.{is_process_step}
use Rattle.causal_monitor.specs.declared.slot.Turn.{Turn}
use Rattle.causal_monitor.specs.declared.slot.SlotLog.{SlotLog}
use Rattle.machine_laws.specs.SlotLoop.{Moment, present_phase, ComesTo, NodesGoOn, LanesGoOn, StepsGoOn, NoNodeWorks, first_lane, first_ready, after_event, after_node}
use Rattle.slot_record.specs.SlotRecords.{one_more, state_in}
use Rattle.run_record.specs.RunRecords.{RecordsRuns, EventsNoteNothing}
use Rattle.run_record.specs.declared.record.RunRecord.{RunRecord}
use Rattle.net_state.specs.States.{values_in}
use Rattle.process_table.specs.declared.table.ProcessTable.{ProcessTable}
use Rattle.process_table.specs.declared.deed.Stepped.{Stepped}
use Rattle.process_table.specs.Deeds.{IsStepOf, read_by}
use Rattle.process_table.specs.Tables.{IsTableOf, process_in}
use Rattle.process_table.specs.Arranged.{IsKept, table_of}
use Rattle.machine_events.specs.Parts.{Leads}
use Rattle.machine_events.specs.StepDeeds.{IsStepped, FinishesStep}
use Rattle.machine_events.specs.There.{IsOfObjects, TouchesBelow, LaneIsThere, found-holds, touches-there}
use Rattle.machine_events.specs.PartLaws.{table-count}
use Rattle.machine.specs.declared.parts.Machine.{Machine as Simulated}
use Rattle.machine.specs.Standing.{machine_kept, state_kept, notes_runs}
use Rattle.machine.specs.Moments.{IsAt, IsMoving, GoesOn}
use Rattle.machine.specs.RunNotes.{NotesRun, StandsBefore}
use Rattle.process_code.specs.declared.state.ProcState.{ProcState}
use Rattle.machine.proofs.Places.{placed}
use Rattle.machine.proofs.Acts.{before-step}
use Rattle.machine.proofs.Moved.{amid-at, moved-amid, graph-of, rules-of}

-- the design of the machine at a moment keeps its rules
pub rules-at : (machine : Machine) (first : Turn) (at : Moment) (m : Simulated) (log : SlotLog) → IsAt machine first at m log → KeepsRules machine.design
rules-at machine first at m log is = subst KeepsRules (ap (λ (k : Machine). k.design) is.machine_is) (rules-of m)

-- the first order goes on
pub step-comes : StepsGoOn → (machine : Machine) (first : Turn) (at : Moment) (m : Simulated) (log : SlotLog) (process : ℕ) → IsAt machine first at m log → at.steps ≤ most_steps →
    NoNodeWorks (state_kept m) →
    first_lane (state_kept m) ≡ None → first_ready (state_kept m) ≡ Some process → ComesTo machine (after_event machine (Step process) at)
step-comes law machine first at m log process is few nodes lanes ready =
    law machine at process (rules-at machine first at m log is) is.comes few (subst NoNodeWorks is.state_is nodes) (subst (λ s. first_lane s ≡ None) is.state_is lanes)
    (subst (λ s. first_ready s ≡ Some process) is.state_is ready)

pub lane-comes : LanesGoOn → (machine : Machine) (first : Turn) (at : Moment) (m : Simulated) (log : SlotLog) (process : ℕ) → IsAt machine first at m log → at.steps ≤ most_steps →
    NoNodeWorks (state_kept m) →
    first_lane (state_kept m) ≡ Some process → ComesTo machine (after_event machine (LaneStep process) at)
lane-comes law machine first at m log process is few nodes lanes =
    law machine at process (rules-at machine first at m log is) is.comes few (subst NoNodeWorks is.state_is nodes) (subst (λ s. first_lane s ≡ Some process) is.state_is lanes)

pub node-comes : NodesGoOn → (machine : Machine) (first : Turn) (at : Moment) (m : Simulated) (log : SlotLog) (node : ℕ) (text : FlatNode) → IsAt machine first at m log → at.steps ≤ most_steps →
    slice_get machine.design.nodes node ≡ Some text → work_of 0 (state_kept m).nodes ≡ Some (Evaluation node) → ComesTo machine (after_node machine node at)
node-comes law machine first at m log node text is few here work =
    law machine at node text (rules-at machine first at m log is) is.comes few here (subst (λ (s : State). work_of 0 s.nodes ≡ Some (Evaluation node)) is.state_is work)

-- an event that is no process step leaves what is noted of runs
pub same-runs : EventsNoteNothing → (machine : Machine) (before : List Phase) (phase : Phase) (event : Event) (old new : RunRecord) (noted notes : Bool) → is_process_step (Makes event) ≡ false →
    new ≡ old → notes ≡ noted →
    (noted ≡ true → RecordsRuns machine before phase old) → notes ≡ true → RecordsRuns machine before (one_more event phase) new
same-runs law machine before phase event old new noted notes quiet same are kept on =
    subst (RecordsRuns machine before (one_more event phase)) (sym same) (law machine before phase event old quiet (kept (sym are ∙ on)))

-- a process step that is noted
pub noted-step : (machine : Machine) (first : Turn) (at : Moment) (m : Simulated) (log : SlotLog) (number process : ℕ) (found : Option ProcState) (stepped : Stepped) (table : ProcessTable)
    (runs : RunRecord) → IsAt machine first at m log → number ≡ m.record.number → IsStepOf machine (state_in machine (present_phase at)) process stepped (table_of table) →
    (m.noting ≡ true → StandsBefore (table_of m.table).design process (process_in (table_of m.table) process).activity found) →
    NotesRun number process found stepped (values_in m.nets) table m.runs runs → notes_runs m ≡ true → RecordsRuns machine at.ended (one_more (Step process) (present_phase at)) runs
noted-step machine first at m log number process found stepped table runs is numbered step stands notes on =
    let both = (amid-at machine first at m log is).both in
    let state = state_in machine (present_phase at) in
    notes machine at.ended (present_phase at) (is.runs on) (before-step machine state process (table_of m.table) found both.table_is (stands on)) (sym both.nets_are.values) step
    (numbered ∙ is.recorded.numbered)

-- The least ready process

-- it is ready, and one of the design
pub ready-there : (m : Simulated) (process : ℕ) → first_ready (state_kept m) ≡ Some process → is_ready (process_at (state_kept m) process).activity ≡ true
ready-there m process ready = (placed (λ (p : ProcessState). is_ready p.activity) idle_process (state_kept m).processes process ready).0

pub ready-low : (m : Simulated) (process : ℕ) → IsMoving m → first_ready (state_kept m) ≡ Some process → process < length (machine_kept m).design.processes
ready-low m process moving ready =
    subst (λ n. process < n) (table-count m.table moving.is.parts.table ∙ ap (λ (d : FlatDesign). length d.processes) moving.is.parts.design)
    (placed (λ (p : ProcessState). is_ready p.activity) idle_process (state_kept m).processes process ready).1

-- the processes stay as many as the design has
pub stepped-count : (m : Simulated) (table : ProcessTable) → IsKept table → (table_of table).design ≡ (machine_kept m).design →
    length (table_of table).processes ≡ length (machine_kept m).design.processes
stepped-count m table kept same = table-count table kept ∙ ap (λ (d : FlatDesign). length d.processes) same

-- the least lane has an update, and is one of the design
pub lane-there : (m : Simulated) (process : ℕ) → first_lane (state_kept m) ≡ Some process → is_any (process_at (state_kept m) process).lane ≡ true
lane-there m process lane = (placed (λ (p : ProcessState). is_any p.lane) idle_process (state_kept m).processes process lane).0

-- the time is that at which the slot began
pub time-low : (m : Simulated) (moving : IsMoving m) → (table_of m.table).time ≤ 2 ^ 63
time-low m moving = subst (λ t. t ≤ 2 ^ 63) (sym (ap (λ (s : State). s.time) moving.is.state_is ∙ moving.is.comes.same_time)) moving.is.in_time

-- Steps

-- the least ready process has taken a step in the present phase
pub stepped-at : (machine : Machine) (first : Turn) (at : Moment) (m : Simulated) (log : SlotLog) (process : ℕ) (stepped : Stepped) (table : ProcessTable) → IsAt machine first at m log →
    first_ready (state_kept m) ≡ Some process →
    ((machine : Machine) (state : State) → IsTableOf machine state (table_of m.table) → state.values ≡ values_in m.nets → IsStepOf machine state process stepped (table_of table)) →
    IsStepped machine (state_in machine (present_phase at)) process stepped m.nets table
stepped-at machine first at m log process stepped table is ready steps =
    let both = (amid-at machine first at m log is).both in
    record {
      ready = subst (λ s. is_ready (process_at s process).activity ≡ true) (is.state_is ∙ is.comes.happened_so_far) (ready-there m process ready);
      machine_is = both.machine_is;
      nets_are = both.nets_are;
      step = steps machine (state_in machine (present_phase at)) both.table_is (sym both.nets_are.values);
    }

-- What is written

-- what is still to be written in the present state is of the design
writes-now : WritesStay → (m : Simulated) (moving : IsMoving m) → WritesAreOf (machine_kept m).design moving.at.state
writes-now law m moving =
    subst (WritesAreOf (machine_kept m).design) (sym moving.is.comes.made_so_far) (law.after_moves (machine_kept m) moving.at.begins moving.is.comes.moves (rules-of m) moving.is.writes)

-- the object that it read has a value
pub read-there : (m : Simulated) (moving : IsMoving m) (stepped : Stepped) → IfSome (read_by stepped.act) (λ object. object < length (table_of m.table).design.objects) →
    IfSome (read_by stepped.act) (λ object. object < length (values_in m.nets))
read-there m moving stepped read =
    subst (λ n. IfSome (read_by stepped.act) (λ object. object < n)) (ap (λ (d : FlatDesign). length d.objects) moving.is.parts.design ∙ sym moving.is.parts.values) read

-- what a step of the least ready process did is to an object that has a value
pub step-there : WritesStay → NextWritesAreOf → (m : Simulated) (moving : IsMoving m) (process : ℕ) (stepped : Stepped) (table : ProcessTable) → first_ready (state_kept m) ≡ Some process →
    ((machine : Machine) (state : State) → IsTableOf machine state (table_of m.table) → state.values ≡ values_in m.nets → IsStepOf machine state process stepped (table_of table)) →
    IfSome (read_by stepped.act) (λ object. object < length (table_of m.table).design.objects) → IfSome stepped.act (TouchesBelow (length (values_in m.nets)))
step-there law next m moving process stepped table ready steps read =
    let machine = machine_kept m in
    let state = state_in machine (present_phase moving.at) in
    let step = stepped-at machine moving.first moving.at m moving.log process stepped table moving.is ready steps in
    let writes : WritesAreOf machine.design state = subst (WritesAreOf machine.design) moving.is.comes.happened_so_far (writes-now law m moving) in
    touches-there (length (values_in m.nets)) stepped.act (write_of (step_of machine state process).action)
    (read-there m moving stepped read) step.step.write
    (found-holds (IsOfObjects (length (values_in m.nets))) (write_of (step_of machine state process).action)
    (λ update e. subst (λ n. update.object < n) (sym moving.is.parts.values) (next.step machine state process update (rules-of m) writes e)))

-- so is the first update of a lane
pub lane-writes : WritesStay → NextWritesAreOf → (m : Simulated) (moving : IsMoving m) (process : ℕ) → LaneIsThere process m.nets m.table
lane-writes law next m moving process =
    let writes : WritesAreOf (machine_kept m).design (state_kept m) = subst (WritesAreOf (machine_kept m).design) (sym moving.is.state_is) (writes-now law m moving) in
    found-holds (IsOfObjects (length (values_in m.nets))) (first_update (process_at (state_kept m) process).lane)
    (λ update e. subst (λ n. update.object < n) (sym moving.is.parts.values) (next.lane (machine_kept m).design (state_kept m) process update writes e))

-- a step of the least ready process leads to the next moment
pub step-moved : StepsGoOn → (old new : Simulated) (process number : ℕ) (found : Option ProcState) (stepped : Stepped) (table : ProcessTable) → NoNodeWorks (state_kept old) → first_lane (state_kept old) ≡ None →
    first_ready (state_kept old) ≡ Some process →
    ((machine : Machine) (state : State) → IsTableOf machine state (table_of old.table) → state.values ≡ values_in old.nets → IsStepOf machine state process stepped (table_of table)) →
    FinishesStep process stepped old.nets new.nets table new.table old.record new.record → design_of new.graph.now.design.now ≡ design_of old.graph.now.design.now →
    number ≡ old.record.number →
    (old.noting ≡ true → StandsBefore (table_of old.table).design process (process_in (table_of old.table) process).activity found) →
    NotesRun number process found stepped (values_in old.nets) table old.runs new.runs → notes_runs new ≡ notes_runs old →
    GoesOn (λ machine at. after_event machine (Step process) at) old new
step-moved law old new process number found stepped table nodes lanes ready steps finishes graph numbered stands notes same = record {
  notes_are = same;
  leads = λ machine first at log is few.
      let step = stepped-at machine first at old log process stepped table is ready steps in
      moved-amid machine first (after_event machine (Step process) at) new log (step-comes law machine first at old log process is few nodes lanes ready)
      (finishes machine first at.ended (present_phase at) log step is.recorded) (graph ∙ graph-of machine first at old log is) is.in_time is.writes
      (λ on. noted-step machine first at old log number process found stepped table new.runs is numbered step.step stands notes (sym same ∙ on));
}

-- a step of the least lane leads to the next moment
pub lane-moved : LanesGoOn → EventsNoteNothing → (old new : Simulated) (process : ℕ) → NoNodeWorks (state_kept old) → first_lane (state_kept old) ≡ Some process →
    Leads (one_more (LaneStep process)) old.nets new.nets old.table new.table old.record new.record → design_of new.graph.now.design.now ≡ design_of old.graph.now.design.now →
    new.runs ≡ old.runs → notes_runs new ≡ notes_runs old → GoesOn (λ machine at. after_event machine (LaneStep process) at) old new
lane-moved law quiet old new process nodes lanes goes graph runs same = record {
  notes_are = same;
  leads = λ machine first at log is few.
      moved-amid machine first (after_event machine (LaneStep process) at) new log (lane-comes law machine first at old log process is few nodes lanes)
      (goes machine first at.ended (present_phase at) log (amid-at machine first at old log is)) (graph ∙ graph-of machine first at old log is) is.in_time is.writes
      (same-runs quiet machine at.ended (present_phase at) (LaneStep process) old.runs new.runs old.noting new.noting refl runs same is.runs);
}
