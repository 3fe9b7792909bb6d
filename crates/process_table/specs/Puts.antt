-- A table put into a given state: where its processes may stand (IEEE 1364-2001, clauses 5 and 9).
use Rattle.std.specs.Prelude.{◌≡◌, ℕ, List, [], map, get_or}
use Rattle.vf_base.specs.Lists.{AllHold}
use Rattle.v_design.specs.Designs.{FlatDesign}
use Rattle.v_design.specs.Processes.{Activity}
use Rattle.v_design.specs.States.{ProcessState, LaterUpdate}
use Rattle.event_queue.specs.Queues.{held_of, ComesAfter}
use Rattle.process_code.specs.Points.{activity_of}
use Rattle.process_code.specs.StatesOf.{IsStateOf}
use Rattle.process_code.specs.declared.code.Code.{Code}
use Rattle.process_code.specs.declared.state.ProcState.{ProcState}
use Rattle.process_table.specs.declared.row.Row.{Row}
use Rattle.process_table.specs.Rows.{RowState, row_states, row_text, idle_row, IsGoodRow, RowsChange}
use Rattle.process_table.specs.Waited.{IsWaitable, activity_entries, body_of}

-- the process with a number may stand so at a time: it waits, and may wait yet, for entries of its body alone, it wakes after the time, and no update of it is due before that
pub record MayStand (design : FlatDesign) (time number : ℕ) (process : ProcessState) : Type 0 where
  pub waits : AllHold (IsWaitable design (body_of design number)) (activity_entries process.activity)
  pub after : ComesAfter time (held_of process)

-- a process at a state of its code, with these updates pending and nothing in its lane
abbrev pub process_at_state : Code → ProcState → List LaterUpdate → ProcessState
process_at_state code state later = record { activity = activity_of code state; later = later; lane = [] }

-- a state of a code, at which the process with a number may stand with these updates pending
pub record StandsAt (design : FlatDesign) (time number : ℕ) (state : ProcState) (later : List LaterUpdate) (code : Code) : Type 0 where
  pub is_state : IsStateOf code state
  pub may : MayStand design time number (process_at_state code state later)

-- Rows

-- a row whose process does this
abbrev pub doing : Activity → RowState → RowState
doing activity row = record row { activity = activity }

-- a state is one of the code of the row with a number
abbrev pub IsStateAt : List Row → ℕ → ProcState → Type 0
IsStateAt rows number state = (row : Row) → row ≡ get_or rows number row → IsStateOf row.code state

-- the process of the row with a number comes to stand at a state
abbrev pub PutsState : List Row → List Row → ℕ → ProcState → Type 0
PutsState old new number state = (row : Row) → row ≡ get_or old number row → RowsChange old new number (doing (activity_of row.code state))

-- all rows are idle, and stay good rows of the same processes
pub record ClearsRows (old new : List Row) : Type 0 where
  pub texts : map row_text new ≡ map row_text old
  pub good : AllHold IsGoodRow old → AllHold IsGoodRow new
  pub states : row_states new ≡ map (λ (row : RowState). idle_row) (row_states old)
