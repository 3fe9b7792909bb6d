-- What a row of a table holds of its process: what it does, and its lane (IEEE 1364-2001, clause 9).
use Rattle.std.specs.Prelude.{◌≡◌, ℕ, false, List, [], map, drop, slice_get}
use Rattle.four_value.specs.Values.{LogicValue}
use Rattle.vf_base.specs.Lists.{AllHold, change_at}
use Rattle.v_design.specs.Plain.{process_of, update_of}
use Rattle.v_design.specs.declared.plan.Update.{Update}
use Rattle.v_design.specs.Trees.{Null}
use Rattle.v_design.specs.Designs.{FlatProcess}
use Rattle.v_design.specs.Assignments.{ValueUpdate}
use Rattle.v_design.specs.Processes.{Activity, Ready, Waiting, Asleep, Postponed, Done, ProcessStep, opened, goes_on, process_step}
use Rattle.v_design.specs.States.{found_or, rest_of, next_activity}
use Rattle.process_code.specs.Codes.{IsCodeOf}
use Rattle.process_code.specs.Points.{StepSaid, activity_of, said_of}
use Rattle.process_code.specs.StatesOf.{IsStateOf, HasRoom}
use Rattle.process_table.specs.declared.row.Row.{Row}

-- what a process does, and its lane
pub record RowState : Type 0 where
  pub activity : Activity
  pub lane : List ValueUpdate

-- the updates of a lane of which some are taken
abbrev pub lane_left : ℕ → List Update → List ValueUpdate
lane_left taken lane = drop taken (map update_of lane)

-- the state of a row
abbrev pub row_state : Row → RowState
row_state row = record { activity = activity_of row.code row.state; lane = lane_left row.taken row.lane }

-- the text of a row's process
abbrev pub row_text : Row → FlatProcess
row_text row = process_of row.code.process.now

-- the states and the texts of some rows
abbrev pub row_states : List Row → List RowState
row_states rows = map row_state rows

-- a row whose process is done, with an empty lane
abbrev pub idle_row : RowState
idle_row = record { activity = Done; lane = [] }

-- the row state with a number; a number with nothing behind it stands for a process that is done
abbrev pub state_at : List RowState → ℕ → RowState
state_at states number = found_or (record { activity = Done; lane = [] }) (slice_get states number)

-- the text of the process with a number
abbrev pub text_at : List FlatProcess → ℕ → FlatProcess
text_at texts number = found_or (record { always = false; body = Null; place = record { line = 0; column = 0 } }) (slice_get texts number)

-- the state in which a process begins
abbrev pub new_state : FlatProcess → RowState
new_state process = record { activity = Ready (opened process.body []) []; lane = [] }

-- a row's code stands for its process, and its state is one of the code, with room for its steps
pub record IsGoodRow (row : Row) : Type 0 where
  pub code : IsCodeOf row.code.process.now row.code
  pub state : IsStateOf row.code row.state
  pub room : HasRoom row.code row.state

-- a row gets a state, and stays a good row of the same process
pub record RowChanges (old new : Row) (becomes : RowState) : Type 0 where
  pub text : row_text new ≡ row_text old
  pub good : IsGoodRow old → IsGoodRow new
  pub state : row_state new ≡ becomes

-- the row with a number is changed, and all rows stay good rows of the same processes
pub record RowsChange (old new : List Row) (number : ℕ) (change : RowState → RowState) : Type 0 where
  pub texts : map row_text new ≡ map row_text old
  pub good : AllHold IsGoodRow old → AllHold IsGoodRow new
  pub states : row_states new ≡ change_at (row_states old) number change

-- a process that waits, sleeps or is postponed becomes ready
abbrev pub readied : Activity → Activity
readied (Ready tasks operands) = Ready tasks []
readied (Waiting place entries tasks) = Ready tasks []
readied (Asleep time tasks) = Ready tasks []
readied (Postponed tasks) = Ready tasks []
readied Done = Done

-- the same of a row
abbrev pub made_ready : RowState → RowState
made_ready row = record row { activity = readied row.activity }

-- the step that a process takes next
abbrev pub step_from : FlatProcess → ℕ → Activity → ProcessStep
step_from process now (Ready tasks operands) = process_step process now tasks operands
step_from process now (Waiting place entries tasks) = goes_on place.line (Waiting place entries tasks)
step_from process now (Asleep time tasks) = goes_on 0 (Asleep time tasks)
step_from process now (Postponed tasks) = goes_on 0 (Postponed tasks)
step_from process now Done = goes_on 0 Done

-- a lane without its first update
abbrev pub after_update : RowState → RowState
after_update row = record row { lane = rest_of row.lane }

-- a lane in the place of another
abbrev pub with_lane : List ValueUpdate → RowState → RowState
with_lane lane row = record row { lane = lane }

-- a process after a step
abbrev pub after_row_step : List LogicValue → ProcessStep → RowState → RowState
after_row_step values step row = record row { activity = next_activity values step.action step.next }

-- a row takes the step that comes next, in a line, and says what it did
pub record StepsRow (now : ℕ) (values : List LogicValue) (old new : Row) (told_line : ℕ) (told : StepSaid) : Type 0 where
  pub line : told_line ≡ (step_from (row_text old) now (row_state old).activity).line
  pub said : told ≡ said_of now (step_from (row_text old) now (row_state old).activity).action (step_from (row_text old) now (row_state old).activity).next
  pub row : RowChanges old new (after_row_step values (step_from (row_text old) now (row_state old).activity) (row_state old))

-- the step that the process with a number takes next
abbrev pub step_at : ℕ → List Row → ℕ → ProcessStep
step_at now rows number = step_from (text_at (map row_text rows) number) now (state_at (row_states rows) number).activity

-- the row with a number takes the step that comes next
pub record StepsRows (now : ℕ) (values : List LogicValue) (number : ℕ) (old new : List Row) (told_line : ℕ) (told : StepSaid) : Type 0 where
  pub line : told_line ≡ (step_at now old number).line
  pub said : told ≡ said_of now (step_at now old number).action (step_at now old number).next
  pub rows : RowsChange old new number (after_row_step values (step_at now old number))
