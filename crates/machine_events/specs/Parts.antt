-- The parts of a machine in the midst of a slot: the values and the nodes, the processes, and the record of the slot; and what an event does to them and tells (IEEE 1364-2001, clause 5).
use Rattle.std.specs.Prelude.{◌≡◌, ℕ, ◌<◌, List, map, length}
use Rattle.std.specs.List.{All}
use Rattle.vf_base.specs.Base.{object_number, process_number}
use Rattle.vf_base.specs.Lists.{AllHold}
use Rattle.v_design.specs.Designs.{FlatDesign, Machine}
use Rattle.v_design.specs.Assignments.{ValueUpdate}
use Rattle.v_design.specs.States.{State, Event, after, written}
use Rattle.v_design.specs.Grades.{Phase}
use Rattle.causal_monitor.specs.Notes.{IsNoted, noted_access}
use Rattle.causal_monitor.specs.declared.slot.Turn.{Turn}
use Rattle.causal_monitor.specs.declared.slot.SlotLog.{SlotLog}
use Rattle.slot_record.specs.declared.phase.PhaseRecord.{PhaseRecord}
use Rattle.slot_record.specs.declared.record.SlotRecord.{SlotRecord}
use Rattle.slot_record.specs.Records.{process_count, object_count}
use Rattle.slot_record.specs.SlotRecords.{RecordsSlot, state_in}
use Rattle.net_state.specs.declared.state.NetState.{NetState}
use Rattle.net_state.specs.States.{machine_in, AreNetsOf}
use Rattle.process_table.specs.declared.table.ProcessTable.{ProcessTable}
use Rattle.process_table.specs.Tables.{IsTableOf}
use Rattle.process_table.specs.Arranged.{IsKept, table_of}
use Rattle.process_table.specs.Noted.{AreNoted}
use Rattle.machine_laws.specs.WriteTells.{TellsWrite}
use Rattle.machine_laws.specs.StepTells.{TellsStep}
use Rattle.machine_events.specs.declared.told.Told.{Told}

-- What an event tells

-- what is told names objects and processes of a design, and accesses that an event may have
pub record FitsDesign (design : FlatDesign) (told : Told) : Type 0 where
  pub noted : AreNoted design told.accesses.items
  pub changed : All (λ object. object_number object < length design.objects) told.changed.items
  pub ended : All (λ process. process_number process < length design.processes) told.ended.items

-- what is told has room in the record of a phase
pub record FitsRecord (kept : PhaseRecord) (told : Told) : Type 0 where
  pub noted : AllHold IsNoted told.accesses.items
  pub objects : All (λ noted. object_number noted.access.object < object_count kept) told.accesses.items
  pub changed : All (λ object. object_number object < object_count kept) told.changed.items
  pub ended : All (λ process. process_number process < process_count kept) told.ended.items

-- the values, the nodes and the processes are those of a state
pub record AreBothOf (machine : Machine) (state : State) (nets : NetState) (table : ProcessTable) : Type 0 where
  pub machine_is : machine_in nets ≡ machine
  pub nets_are : AreNetsOf nets state
  pub table_is : IsTableOf machine state (table_of table)

-- an update is written by a process and a line: to the values, to the nodes and to the processes that it wakes; and what it does is told
pub record WritesUpdate (update : ValueUpdate) (process line : ℕ) (nets_old nets_new : NetState) (table_old table_new : ProcessTable) (told : Told) : Type 0 where
  pub kept : IsKept table_new
  pub fits : FitsDesign (table_of table_old).design told
  pub both : (machine : Machine) (state : State) → AreBothOf machine state nets_old table_old → AreBothOf machine (written machine update state) nets_new table_new
  pub tells : (machine : Machine) (state : State) → AreBothOf machine state nets_old table_old →
      TellsWrite machine state update process line (map noted_access told.accesses.items) (map object_number told.changed.items) (map process_number told.ended.items)

-- an event happens to the values, the nodes and the processes of a state, and what it does is told, with the line of its statement
pub record Happens (machine : Machine) (state : State) (event : Event) (line : ℕ) (nets : NetState) (table : ProcessTable) (told : Told) : Type 0 where
  pub both : AreBothOf machine (after machine state event) nets table
  pub tells : TellsStep machine state event line (map noted_access told.accesses.items) (map object_number told.changed.items) (map process_number told.ended.items)

-- In a slot

-- the parts stand in a slot: in the state to which the events of its present phase led, and its phases are recorded so far
pub record IsAmid (machine : Machine) (first : Turn) (before : List Phase) (phase : Phase) (nets : NetState) (table : ProcessTable) (kept : SlotRecord) (log : SlotLog) : Type 0 where
  pub both : AreBothOf machine (state_in machine phase) nets table
  pub arranged : IsKept table
  pub recorded : RecordsSlot machine first before phase kept log

-- the same of some slot of some machine
pub record IsInSlot (nets : NetState) (table : ProcessTable) (kept : SlotRecord) : Type 0 where
  pub machine : Machine
  pub first : Turn
  pub before : List Phase
  pub phase : Phase
  pub log : SlotLog
  pub is : IsAmid machine first before phase nets table kept log

-- from wherever the parts stood in a slot, they come to stand in it with more events in its present phase
abbrev pub Leads : (more : Phase → Phase) (nets_old nets_new : NetState) (table_old table_new : ProcessTable) (kept_old kept_new : SlotRecord) → Type 0
Leads more nets_old nets_new table_old table_new kept_old kept_new =
    (machine : Machine) (first : Turn) (before : List Phase) (phase : Phase) (log : SlotLog) →
    IsAmid machine first before phase nets_old table_old kept_old log →
    IsAmid machine first before (more phase) nets_new table_new kept_new log
