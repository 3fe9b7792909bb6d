-- An event that happened and is told is recorded, and leads on in the slot (IEEE 1364-2001, clause 5).
use Rattle.std.proofs.Common.{◌≡◌, ℕ, ◌+◌, ◌<◌, List, map, length, true, refl, sym, ap, subst, ◌∙◌}
use Rattle.std.specs.Prelude.{Some, slice_get}
use Rattle.std.specs.List.{All}
use Rattle.vf_base.specs.Base.{object_number, process_number}
use Rattle.vf_base.specs.Lists.{change_at}
use Rattle.vf_base.specs.declared.ids.ObjectId.{ObjectId}
use Rattle.vf_base.specs.declared.ids.ProcId.{ProcId}
use Rattle.causal_monitor.specs.Notes.{noted_access}
use Rattle.causal_monitor.specs.declared.noted.Noted.{Noted}
use Rattle.causal_monitor.specs.declared.slot.Turn.{Turn}
use Rattle.causal_monitor.specs.declared.slot.SlotLog.{SlotLog}
use Rattle.v_design.specs.RulesHold.{rules_hold}
use Rattle.v_design.specs.WellFormed.{KeepsRules}
use Rattle.v_design.specs.PlainDesigns.{design_of}
use Rattle.v_design.specs.Designs.{FlatDesign, Machine}
use Rattle.v_design.specs.Assignments.{ValueUpdate}
use Rattle.v_design.specs.States.{State, ProcessState, Event, Step, LaneStep, process_at, idle_process, found_or, is_ready, is_any, first_update, after_lane_step}
use Rattle.v_design.specs.PhaseLogs.{noted_events}
use Rattle.v_design.specs.Grades.{Phase}
use Rattle.slot_record.specs.Records.{IsRecord, process_count, object_count}
use Rattle.slot_record.specs.declared.record.SlotRecord.{SlotRecord}
use Rattle.slot_record.specs.SlotRecords.{RecordsSlot, AddsStep, one_more, state_in}
use Rattle.net_state.specs.declared.state.NetState.{NetState}
use Rattle.net_state.specs.States.{machine_in, nodes_in, values_in}
use Rattle.process_code.specs.declared.state.ProcState.{ProcState}
use Rattle.process_code.specs.declared.state.StepAct.{StepAct}
use Rattle.process_table.specs.declared.table.ProcessTable.{ProcessTable}
use Rattle.process_table.specs.declared.deed.Stepped.{Stepped}
use Rattle.process_table.specs.Deeds.{IsStepOf}
use Rattle.process_table.specs.Known.{IsKnownStep}
use Rattle.process_table.specs.Tables.{TableState, IsTableOf, process_in}
use Rattle.process_table.specs.Arranged.{IsKept, table_of}
use Rattle.machine_laws.specs.StepTells.{lane_gone_on, lane-after, lane-told}
use Rattle.machine_events.specs.declared.told.Told.{Told}
use Rattle.machine_events.specs.Alone.{AreOfOne}
use Rattle.machine_events.specs.Parts.{FitsDesign, FitsRecord, AreBothOf, WritesUpdate, Happens, IsAmid, IsInSlot}
use Rattle.machine_events.specs.StepDeeds.{IsStepped, CarriesOut, IsMidStep, FinishesStep}
use Rattle.machine_events.specs.PartLaws.{happened-more, table-count, passes-there}

-- The parts agree

-- the design keeps its rules
pub rules-of : (machine : Machine) (nets : NetState) → machine_in nets ≡ machine → KeepsRules machine.design
rules-of machine nets is =
    subst (λ (k : Machine). KeepsRules k.design) is (rules_hold (design_of nets.objects.settle.graph.now.design.now) nets.objects.settle.graph.now.design.now.rules)

-- there is a value for each object
pub values-count : (nets : NetState) → length (values_in nets) ≡ length (machine_in nets).design.objects
values-count nets = nets.objects.are.count

-- the processes are those of the design of the values
pub same-design : (nets : NetState) (table : ProcessTable) (kept : SlotRecord) → IsInSlot nets table kept → (table_of table).design ≡ (machine_in nets).design
same-design nets table kept s = s.is.both.table_is.design ∙ sym (ap (λ (k : Machine). k.design) s.is.both.machine_is)

-- a state that both are of
abbrev pub state_both : NetState → ProcessTable → State
state_both nets table = record { time = (table_of table).time; values = values_in nets; nodes = nodes_in nets; processes = (table_of table).processes }

pub both-of : (nets : NetState) (table : ProcessTable) → AreOfOne nets table → AreBothOf (machine_in nets) (state_both nets table) nets table
both-of nets table one = record { machine_is = refl; nets_are = record { values = refl; nodes = refl }; table_is = record { design = one.design; time = refl; processes = refl } }

-- what is of a state is of one machine
pub one-after : (machine : Machine) (state : State) (nets : NetState) (table : ProcessTable) → AreBothOf machine state nets table → IsKept table → AreOfOne nets table
one-after machine state nets table both kept = record { kept = kept; design = both.table_is.design ∙ sym (ap (λ (k : Machine). k.design) both.machine_is) }

-- in a slot, too
pub one-in-slot : (nets : NetState) (table : ProcessTable) (kept : SlotRecord) → IsInSlot nets table kept → AreOfOne nets table
one-in-slot nets table kept s = one-after s.machine (state_in s.machine s.phase) nets table s.is.both s.is.arranged

-- What is recorded

-- what is recorded stands for a phase
pub is-record : (machine : Machine) (first : Turn) (before : List Phase) (phase : Phase) (kept : SlotRecord) (log : SlotLog) → RecordsSlot machine first before phase kept log → IsRecord kept.phase
is-record machine first before phase kept log recorded = record {
  machine = machine;
  number = length before + 1;
  begins = phase.begins;
  noted = noted_events machine phase.begins phase.events;
  stands = recorded.present;
}

-- there is room for as many processes and objects as the design has
pub room-processes : (machine : Machine) (first : Turn) (before : List Phase) (phase : Phase) (kept : SlotRecord) (log : SlotLog) → RecordsSlot machine first before phase kept log →
    length machine.design.processes ≡ process_count kept.phase
room-processes machine first before phase kept log recorded = sym recorded.present.causes.processes

pub room-objects : (machine : Machine) (first : Turn) (before : List Phase) (phase : Phase) (kept : SlotRecord) (log : SlotLog) → RecordsSlot machine first before phase kept log →
    length machine.design.objects ≡ object_count kept.phase
room-objects machine first before phase kept log recorded = sym recorded.present.causes.objects

-- a process of the table has room in the record
pub process-room : (machine : Machine) (first : Turn) (before : List Phase) (phase : Phase) (table : ProcessTable) (kept : SlotRecord) (log : SlotLog) (process : ℕ) →
    RecordsSlot machine first before phase kept log → IsKept table → (table_of table).design ≡ machine.design → process < length (table_of table).processes → process < process_count kept.phase
process-room machine first before phase table kept log process recorded arranged same low =
    subst (λ n. process < n)
    (table-count table arranged ∙ ap (λ (d : FlatDesign). length d.processes) same ∙ room-processes machine first before phase kept log recorded) low

-- what fits the design has room in the record
pub fits-record : (machine : Machine) (first : Turn) (before : List Phase) (phase : Phase) (kept : SlotRecord) (log : SlotLog) (design : FlatDesign) (told : Told) →
    RecordsSlot machine first before phase kept log → design ≡ machine.design → FitsDesign design told → FitsRecord kept.phase told
fits-record machine first before phase kept log design told recorded same fits =
    let objects : length design.objects ≡ object_count kept.phase = ap (λ (d : FlatDesign). length d.objects) same ∙ room-objects machine first before phase kept log recorded in
    let processes : length design.processes ≡ process_count kept.phase = ap (λ (d : FlatDesign). length d.processes) same ∙ room-processes machine first before phase kept log recorded in
    record {
      noted = fits.noted.noted;
      objects = subst (λ n. All (λ (noted : Noted). object_number noted.access.object < n) told.accesses.items) objects fits.noted.objects;
      changed = subst (λ n. All (λ (object : ObjectId). object_number object < n) told.changed.items) objects fits.changed;
      ended = subst (λ n. All (λ (process : ProcId). process_number process < n) told.ended.items) processes fits.ended;
    }

-- Events

-- an event that happened and is recorded leads on
pub event-leads : (machine : Machine) (first : Turn) (before : List Phase) (phase : Phase) (log : SlotLog) (event : Event) (line : ℕ) (nets : NetState) (table : ProcessTable) (old new : SlotRecord)
    (told : Told) →
    Happens machine (state_in machine phase) event line nets table told → IsKept table →
    AddsStep event line (map noted_access told.accesses.items) (map object_number told.changed.items) (map process_number told.ended.items) old new →
    RecordsSlot machine first before phase old log → IsAmid machine first before (one_more event phase) nets table new log
event-leads machine first before phase log event line nets table old new told happens arranged adds recorded = record {
  both = subst (λ s. AreBothOf machine s nets table) (sym (happened-more machine phase.begins phase.events event)) happens.both;
  arranged = arranged;
  recorded = adds machine first before phase log recorded happens.tells.line_is happens.tells.accesses_are happens.tells.tells;
}

-- Lanes

-- a lane with an update is that of a process of the table
pub lane-low : (table : ProcessTable) (process : ℕ) → is_any (process_in (table_of table) process).lane ≡ true → process < length (table_of table).processes
lane-low table process any = passes-there (λ (p : ProcessState). is_any p.lane) idle_process (table_of table).processes process refl any

-- a step of a lane happens
pub lane-happens : (nets_old nets_new : NetState) (table_old table table_new : ProcessTable) (told : Told) (process : ℕ) (update : ValueUpdate) →
    Some update ≡ first_update (process_in (table_of table_old) process).lane → table_of table ≡ record (table_of table_old)
    { processes = change_at (table_of table_old).processes process after_lane_step } →
    WritesUpdate update process update.line nets_old nets_new table table_new told →
    (machine : Machine) (state : State) → AreBothOf machine state nets_old table_old → Happens machine state (LaneStep process) update.line nets_new table_new told
lane-happens nets_old nets_new table_old table table_new told process update found rest writes machine state both =
    let mid : AreBothOf machine (lane_gone_on process state) nets_old table = record {
      machine_is = both.machine_is;
      nets_are = record { values = both.nets_are.values; nodes = both.nets_are.nodes };
      table_is = record {
        design = ap (λ (t : TableState). t.design) rest ∙ both.table_is.design;
        time = ap (λ (t : TableState). t.time) rest ∙ both.table_is.time;
        processes = ap (λ (t : TableState). t.processes) rest ∙ ap (λ (ps : List ProcessState). change_at ps process after_lane_step) both.table_is.processes;
      };
    } in
    let first_is : first_update (process_at state process).lane ≡ Some update =
    sym (found ∙ ap (λ (ps : List ProcessState). first_update (found_or idle_process (slice_get ps process)).lane) both.table_is.processes) in
    record {
      both = subst (λ s. AreBothOf machine s nets_new table_new) (sym (lane-after machine state process update first_is)) (writes.both machine (lane_gone_on process state) mid);
      tells = lane-told machine state process update _ _ _ first_is (writes.tells machine (lane_gone_on process state) mid);
    }

-- Steps

-- a step that is carried out and recorded leads on
pub step-leads : (nets_old nets_new : NetState) (table_old table_new : ProcessTable) (kept_old kept_new : SlotRecord) (told : Told) (process : ℕ) (stepped : Stepped) →
    CarriesOut process stepped nets_old nets_new table_old table_new told →
    AddsStep (Step process) stepped.line (map noted_access told.accesses.items) (map object_number told.changed.items) (map process_number told.ended.items) kept_old kept_new →
    FinishesStep process stepped nets_old nets_new table_old table_new kept_old kept_new
step-leads nets_old nets_new table_old table_new kept_old kept_new told process stepped carries adds = λ machine first before phase log is recorded.
    event-leads machine first before phase log (Step process) stepped.line nets_new table_new kept_old kept_new told (carries.happens machine (state_in machine phase) is) carries.kept adds recorded

-- the processes that have the step are those of the design
pub mid-design : (process : ℕ) (stepped : Stepped) (nets : NetState) (table : ProcessTable) (kept : SlotRecord) → IsMidStep process stepped nets table kept →
    (table_of table).design ≡ (machine_in nets).design
mid-design process stepped nets table kept s = s.is.step.after.design ∙ sym (ap (λ (k : Machine). k.design) s.is.machine_is)

-- a ready process is one of the table
pub ready-low : (table : ProcessTable) (process : ℕ) → is_ready (process_in (table_of table) process).activity ≡ true → process < length (table_of table).processes
ready-low table process ready = passes-there (λ (p : ProcessState). is_ready p.activity) idle_process (table_of table).processes process refl ready

-- a ready process has taken a step in a state
pub stepped-both : (machine : Machine) (state : State) (nets : NetState) (old new : ProcessTable) (process : ℕ) (stepped : Stepped) →
    AreBothOf machine state nets old → is_ready (process_in (table_of old) process).activity ≡ true →
    ((machine : Machine) (state : State) → IsTableOf machine state (table_of old) → state.values ≡ values_in nets → IsStepOf machine state process stepped (table_of new)) →
    IsStepped machine state process stepped nets new
stepped-both machine state nets old new process stepped both ready steps = record {
  ready = subst (λ (ps : List ProcessState). is_ready (found_or idle_process (slice_get ps process)).activity ≡ true) both.table_is.processes ready;
  machine_is = both.machine_is;
  nets_are = both.nets_are;
  step = steps machine state both.table_is (sym both.nets_are.values);
}

-- the same where the step was known
pub followed-both : (machine : Machine) (state : State) (nets : NetState) (old new : ProcessTable) (process line : ℕ) (act : StepAct) (next : ProcState) (stepped : Stepped) →
    AreBothOf machine state nets old → is_ready (process_in (table_of old) process).activity ≡ true → IsKnownStep machine state process line act next →
    ((machine : Machine) (state : State) → IsTableOf machine state (table_of old) → IsKnownStep machine state process line act next → IsStepOf machine state process stepped (table_of new)) →
    IsStepped machine state process stepped nets new
followed-both machine state nets old new process line act next stepped both ready known steps = record {
  ready = subst (λ (ps : List ProcessState). is_ready (found_or idle_process (slice_get ps process)).activity ≡ true) both.table_is.processes ready;
  machine_is = both.machine_is;
  nets_are = both.nets_are;
  step = steps machine state both.table_is known;
}

-- the table has as many processes as before
pub stepped-low : (old new : ProcessTable) (process : ℕ) → IsKept old → IsKept new → (table_of new).design ≡ (table_of old).design → process < length (table_of old).processes →
    process < length (table_of new).processes
stepped-low old new process kept after same low =
    subst (λ n. process < n) (table-count old kept ∙ sym (ap (λ (d : FlatDesign). length d.processes) same) ∙ sym (table-count new after)) low
