-- What the end of a process run tells (IEEE 1364-2001, clauses 5 and 9).
use Rattle.std.specs.Prelude.{◌≡◌, ℕ, ◌+◌, List, map, Option}
use Rattle.std.specs.List.{All}
use Rattle.vf_base.specs.Base.{object_number}
use Rattle.four_value.specs.Values.{LogicValue}
use Rattle.v_design.specs.Assignments.{ValueUpdate}
use Rattle.v_design.specs.Processes.{Activity, Action, ReadsObject, WritesObject, AppendsUpdate, TouchesNothing}
use Rattle.v_design.specs.States.{LaterUpdate}
use Rattle.v_design.specs.Plain.{due_of, update_of}
use Rattle.process_code.specs.Points.{activity_of, point_of}
use Rattle.process_code.specs.StatesOf.{IsStateOf}
use Rattle.process_code.specs.declared.code.Code.{Code}
use Rattle.process_code.specs.declared.state.RunEnd.{RunEnd}
use Rattle.process_code.specs.declared.state.StepAct.{StepAct}
use Rattle.process_code.specs.declared.state.StepAct.TheVariants.{Read, Write, Append, Inner}
use Rattle.process_code.specs.declared.state.StepTaken.{StepTaken}

-- Steps

-- what a step did, as plain data
pub data ActTold : Type 0 where
  TellsRead : (object : ℕ) → ActTold
  TellsWrite : (update : ValueUpdate) → ActTold
  TellsAppend : (update : LaterUpdate) → ActTold
  TellsInner : ActTold

-- what is kept of a step's act
abbrev pub act_by : StepAct → ActTold
act_by (Read object) = TellsRead (object_number object)
act_by (Write update) = TellsWrite (update_of update)
act_by (Append due) = TellsAppend (due_of due)
act_by Inner = TellsInner

-- what a step with this action does at a time
abbrev pub act_of : ℕ → Action → ActTold
act_of time (ReadsObject object) = TellsRead object
act_of time (WritesObject update) = TellsWrite update
act_of time (AppendsUpdate delay update) = TellsAppend (record { time = time + delay; update = update })
act_of time TouchesNothing = TellsInner

-- what the process does before a step, the step's line, what it did, and the value that it read, if it read one
pub record StepTold : Type 0 where
  pub stands : Activity
  pub line : ℕ
  pub act : ActTold
  pub read : Option LogicValue

-- what a step tells, before which the process is in a state of this code
abbrev pub step_told_by : Code → StepTaken → StepTold
step_told_by code step = record { stands = activity_of code step.state; line = step.line; act = act_by step.act; read = step.read }

-- the same step, before which the process stands at the same point
pub record IsSameStep (one other : StepTaken) : Type 0 where
  pub line : other.line ≡ one.line
  pub act : other.act ≡ one.act
  pub read : other.read ≡ one.read
  pub point : point_of other.state ≡ point_of one.state
  pub state : (code : Code) → IsStateOf code one.state → IsStateOf code other.state

-- before each of some steps, the process is in a state of this code
abbrev pub StepsStandIn : Code → List StepTaken → Type 0
StepsStandIn code steps = All (λ (step : StepTaken). IsStateOf code step.state) steps

-- Runs

-- what the process does at the end of a run, the updates that the run appended, those that it wrote, and what its steps tell, in order
pub record RunTold : Type 0 where
  pub activity : Activity
  pub later : List LaterUpdate
  pub writes : List ValueUpdate
  pub steps : List StepTold

-- what the end of a run tells, whose states are of this code
abbrev pub told_by : Code → RunEnd → RunTold
told_by code run =
    record { activity = activity_of code run.state; later = map due_of run.later; writes = map update_of run.writes; steps = map (step_told_by code) run.steps }

-- at the end of a run, and before each of its steps, the process is in a state of this code
abbrev pub StandsIn : Code → RunEnd → Type 0
StandsIn code run = IsStateOf code run.state × StepsStandIn code run.steps
