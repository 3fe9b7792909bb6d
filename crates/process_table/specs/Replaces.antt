-- Processes that come to stand elsewhere, with other updates, or ready (nothing of the language).
use Rattle.std.specs.Prelude.{◌≡◌, ℕ, List, get_or}
use Rattle.v_design.specs.Assignments.{ValueUpdate}
use Rattle.v_design.specs.Processes.{Activity}
use Rattle.v_design.specs.States.{ProcessState, LaterUpdate}
use Rattle.process_code.specs.Points.{activity_of}
use Rattle.process_code.specs.declared.code.Code.{Code}
use Rattle.process_code.specs.declared.state.ProcState.{ProcState}
use Rattle.process_table.specs.declared.row.Row.{Row}
use Rattle.process_table.specs.Rows.{RowState, RowsChange, readied}

-- a row whose process does this, with this lane
abbrev pub row_of : Activity → List ValueUpdate → RowState
row_of activity lane = record { activity = activity; lane = lane }

-- the process of the row with a number comes to stand at a state, with this lane
abbrev pub ReplacesRow : List Row → List Row → ℕ → ProcState → List ValueUpdate → Type 0
ReplacesRow old new number state lane = (row : Row) → row ≡ get_or old number row → RowsChange old new number (λ (before : RowState). row_of (activity_of row.code state) lane)

-- a process at a state of its code, with these updates pending and these in its lane
abbrev pub state_with : Code → ProcState → List LaterUpdate → List ValueUpdate → ProcessState
state_with code state later lane = record { activity = activity_of code state; later = later; lane = lane }

-- a process with these updates pending and these in its lane, which does what it did
abbrev pub with_pending : List LaterUpdate → List ValueUpdate → ProcessState → ProcessState
with_pending later lane process = record process { later = later; lane = lane }

-- a process that waits becomes ready
abbrev pub process_readied : ProcessState → ProcessState
process_readied process = record process { activity = readied process.activity }
