-- What a step of a process does to the parts of a machine, and what it tells (IEEE 1364-2001, clauses 5 and 9).
use Rattle.std.specs.Prelude.{◌≡◌, ℕ, true, List, [], ◌∷◌, ◌++◌, map, Option, Some, None}
use Rattle.v_design.specs.Trees.{Entry}
use Rattle.v_design.specs.Designs.{Machine}
use Rattle.v_design.specs.States.{State, Step, is_ready, next_activity, process_at, step_of}
use Rattle.v_design.specs.Grades.{Phase}
use Rattle.v_design.specs.Accesses.{ObjectAccess, Reading, Awaiting}
use Rattle.causal_monitor.specs.Notes.{noted_access}
use Rattle.causal_monitor.specs.declared.slot.Turn.{Turn}
use Rattle.causal_monitor.specs.declared.slot.SlotLog.{SlotLog}
use Rattle.net_state.specs.declared.state.NetState.{NetState}
use Rattle.net_state.specs.States.{machine_in, AreNetsOf}
use Rattle.process_table.specs.declared.table.ProcessTable.{ProcessTable}
use Rattle.process_table.specs.declared.deed.Stepped.{Stepped}
use Rattle.process_code.specs.Points.{activity_of}
use Rattle.process_code.specs.RunEnds.{act_of}
use Rattle.process_code.specs.StatesOf.{IsStateOf}
use Rattle.process_code.specs.declared.code.Code.{Code}
use Rattle.process_code.specs.declared.state.ProcState.{ProcState}
use Rattle.run_ends.specs.RunEnds.{IsCodeAt}
use Rattle.process_table.specs.Deeds.{IsStepOf}
use Rattle.process_table.specs.Known.{told_act}
use Rattle.process_table.specs.Arranged.{IsKept, table_of}
use Rattle.slot_record.specs.declared.record.SlotRecord.{SlotRecord}
use Rattle.slot_record.specs.SlotRecords.{RecordsSlot, one_more, state_in}
use Rattle.machine_events.specs.declared.told.Told.{Told}
use Rattle.machine_events.specs.Parts.{FitsDesign, Happens, IsAmid}

-- the access of a read, if there is one
abbrev pub read_accesses : ℕ → ℕ → Option ℕ → List ObjectAccess
read_accesses process line None = []
read_accesses process line (Some object) = record { act = Reading; object = object; process = process; line = line } ∷ []

-- the accesses of a wait for some entries
abbrev pub entry_accesses : ℕ → ℕ → List Entry → List ObjectAccess
entry_accesses process line entries = map (λ (entry : Entry). record { act = Awaiting entry; object = entry.object; process = process; line = line }) entries

-- what a step tells that writes nothing: its read, if it reads, and the wait for some entries that it begins
pub record TellsQuiet (process line : ℕ) (read : Option ℕ) (entries : List Entry) (told : Told) : Type 0 where
  pub accesses : map noted_access told.accesses.items ≡ read_accesses process line read ++ entry_accesses process line entries
  pub changed : told.changed.items ≡ []
  pub ended : told.ended.items ≡ []

-- the step that a process takes next in a state, as it is told: its line, what it did, and where the process stands behind it
pub record TellsStepTaken (machine : Machine) (state : State) (process : ℕ) (stepped : Stepped) (behind : ProcState) : Type 0 where
  pub line : stepped.line ≡ (step_of machine state process).line
  pub act : told_act stepped.act stepped.later ≡ act_of state.time (step_of machine state process).action
  pub stands : (code : Code) → IsCodeAt machine.design process code → IsStateOf code behind
  pub does : (code : Code) → IsCodeAt machine.design process code → activity_of code behind ≡ next_activity state.values (step_of machine state process).action (step_of machine state process).next

-- a ready process has taken a step in a state: the processes have it, and the values and the nodes are still those of the state
pub record IsStepped (machine : Machine) (state : State) (process : ℕ) (stepped : Stepped) (nets : NetState) (table : ProcessTable) : Type 0 where
  pub ready : is_ready (process_at state process).activity ≡ true
  pub machine_is : machine_in nets ≡ machine
  pub nets_are : AreNetsOf nets state
  pub step : IsStepOf machine state process stepped (table_of table)

-- the step is done to the values and the nodes, too, and told
pub record CarriesOut (process : ℕ) (stepped : Stepped) (nets_old nets_new : NetState) (table_old table_new : ProcessTable) (told : Told) : Type 0 where
  pub kept : IsKept table_new
  pub fits : FitsDesign (table_of table_old).design told
  pub happens : (machine : Machine) (state : State) → IsStepped machine state process stepped nets_old table_old → Happens machine state (Step process) stepped.line nets_new table_new told

-- a ready process has taken a step in some slot, and the processes alone have it yet
pub record IsMidStep (process : ℕ) (stepped : Stepped) (nets : NetState) (table : ProcessTable) (kept : SlotRecord) : Type 0 where
  pub machine : Machine
  pub first : Turn
  pub before : List Phase
  pub phase : Phase
  pub log : SlotLog
  pub is : IsStepped machine (state_in machine phase) process stepped nets table
  pub recorded : RecordsSlot machine first before phase kept log

-- from wherever the parts stood before the step, they come to stand in the slot with the step in its present phase
abbrev pub FinishesStep : (process : ℕ) (stepped : Stepped) (nets_old nets_new : NetState) (table_old table_new : ProcessTable) (kept_old kept_new : SlotRecord) → Type 0
FinishesStep process stepped nets_old nets_new table_old table_new kept_old kept_new =
    (machine : Machine) (first : Turn) (before : List Phase) (phase : Phase) (log : SlotLog) →
    IsStepped machine (state_in machine phase) process stepped nets_old table_old → RecordsSlot machine first before phase kept_old log →
    IsAmid machine first before (one_more (Step process) phase) nets_new table_new kept_new log
