-- How a table arranges the processes of a state: rows by process, sets of those that have an event, and a queue of turns (nothing of the language).
use Rattle.std.specs.Prelude.{◌≡◌, ℕ, Bool, List, [], ◌∷◌, ◌++◌, map}
use Rattle.vf_base.specs.Lists.{AllHold, zip_with}
use Rattle.v_design.specs.Designs.{FlatDesign}
use Rattle.v_design.specs.Processes.{Activity}
use Rattle.v_design.specs.States.{ProcessState, LaterUpdate, is_ready, is_any}
use Rattle.v_design.specs.Accesses.{is_waiting}
use Rattle.event_queue.specs.declared.held.Holding.{Holding}
use Rattle.event_queue.specs.declared.held.Holding.TheVariants.{Free, Asleep, Postponed}
use Rattle.event_queue.specs.Queues.{HeldProcess, holding_of, ComesAfter}
use Rattle.process_code.specs.declared.state.Stage.{Stage}
use Rattle.process_code.specs.declared.state.Stage.TheVariants as at
use Rattle.process_code.specs.Points.{StepSaid, SaysRead, SaysWrite, SaysLater, SaysAwait, SaysSleep, SaysZero, SaysFinished, SaysInner}
use Rattle.wait_index.specs.Waits.{IsIndexOf}
use Rattle.v_design.specs.PlainDesigns.{design_of}
use Rattle.process_table.specs.declared.row.Row.{Row}
use Rattle.process_table.specs.declared.table.ProcessTable.{ProcessTable}
use Rattle.process_table.specs.Tables.{TableState}
use Rattle.process_table.specs.Rows.{RowState, row_states, row_text, IsGoodRow}
use Rattle.process_table.specs.Waited.{WaitsAreWaitable}

-- the state of a process, of its row and what is held of it
abbrev pub with_held : RowState → HeldProcess → ProcessState
with_held row held = record { activity = row.activity; later = held.later; lane = row.lane }

-- the states of the processes
abbrev pub processes_of : List RowState → List HeldProcess → List ProcessState
processes_of states queue = zip_with with_held states queue

-- whether the process of a row is ready
abbrev pub row_ready : RowState → Bool
row_ready row = is_ready row.activity

-- whether the lane of a row has an update
abbrev pub row_busy : RowState → Bool
row_busy row = is_any row.lane

-- how the process of a row is held
abbrev pub row_holding : RowState → Holding
row_holding row = holding_of row.activity

-- what the process of a row does
abbrev pub row_activity : RowState → Activity
row_activity row = row.activity

-- the parts of a table agree
pub record IsTable (design : FlatDesign) (time : ℕ) (rows : List Row) (waiters : List (List ℕ)) (ready_set lane_set : List Bool) (queue : List HeldProcess) : Type 0 where
  pub texts : map row_text rows ≡ design.processes
  pub good : AllHold IsGoodRow rows
  pub index : IsIndexOf design waiters
  pub ready : ready_set ≡ map row_ready (row_states rows)
  pub lanes : lane_set ≡ map row_busy (row_states rows)
  pub holdings : map (λ (h : HeldProcess). h.holding) queue ≡ map row_holding (row_states rows)
  pub after : AllHold (ComesAfter time) queue
  pub waits : WaitsAreWaitable design (map row_activity (row_states rows))

-- a table, as contracts see it
abbrev pub table_of : ProcessTable → TableState
table_of table = record { design = design_of table.design.now; time = table.time; processes = processes_of (row_states table.rows.items) table.queue }

-- the parts of a table agree
abbrev pub IsKept : ProcessTable → Type 0
IsKept table = IsTable (design_of table.design.now) table.time table.rows.items table.index table.ready table.lanes table.queue

-- Stages

-- how a process is held at a stage
abbrev pub stage_holding : Stage → Holding
stage_holding at.Ready = Free
stage_holding (at.Waiting position) = Free
stage_holding (at.Asleep time) = Asleep time
stage_holding at.Postponed = Postponed
stage_holding at.Done = Free

-- a process that does this holds so
pub record HasStage (activity : Activity) (stage : Stage) (told_ready told_waits : Bool) : Type 0 where
  pub holding : holding_of activity ≡ stage_holding stage
  pub ready : is_ready activity ≡ told_ready
  pub waits : is_waiting activity ≡ told_waits

-- What a step leaves to the queue

-- the update that a step says it appended
abbrev pub later_by : StepSaid → List LaterUpdate
later_by (SaysRead object) = []
later_by (SaysWrite update) = []
later_by (SaysLater update time) = record { time = time; update = update } ∷ []
later_by SaysAwait = []
later_by (SaysSleep time) = []
later_by SaysZero = []
later_by SaysFinished = []
later_by SaysInner = []

-- a process that is held so, with more nonblocking updates
abbrev pub held_so : Holding → List LaterUpdate → HeldProcess → HeldProcess
held_so holding laters held = record { holding = holding; later = held.later ++ laters }
