-- A step of a run that has ended, which a process would take too (processes by IEEE 1364-2001, clause 9).
use Rattle.std.specs.Prelude.{◌≡◌, ℕ, ◌+◌, List, Option, Some, None, slice_get}
use Rattle.std.specs.Option.{option_map}
use Rattle.four_value.specs.Values.{LogicValue}
use Rattle.v_design.specs.Assignments.{value_at}
use Rattle.v_design.specs.States.{found_or}
use Rattle.process_code.specs.RunEnds.{ActTold, TellsRead, TellsWrite, TellsAppend, TellsInner, act_by}
use Rattle.process_code.specs.declared.state.ProcState.{ProcState}
use Rattle.process_code.specs.declared.state.RunEnd.{RunEnd}
use Rattle.process_code.specs.declared.state.StepAct.{StepAct}
use Rattle.process_code.specs.declared.state.StepTaken.{StepTaken}

-- the value that a step reads, among the values of all objects
abbrev pub read_now : List LogicValue → ActTold → Option LogicValue
read_now values (TellsRead object) = Some (value_at values object)
read_now values (TellsWrite update) = None
read_now values (TellsAppend later) = None
read_now values TellsInner = None

-- a step that was taken reads now what it read then
abbrev pub ReadsAlike : List LogicValue → StepTaken → Type 0
ReadsAlike values one = read_now values (act_by one.act) ≡ one.read

-- where the process stood behind the step of a place
abbrev pub stands_behind : RunEnd → ℕ → ProcState
stands_behind run place = found_or run.state (option_map (λ (step : StepTaken). step.state) (slice_get run.steps (place + 1)))

-- the step of a place has this line, does this, reads now what it read then, and leaves the process there
pub record IsKnownAt (values : List LogicValue) (run : RunEnd) (place told_line : ℕ) (told_act : StepAct) (next : ProcState) : Type 0 where
  pub one : StepTaken
  pub at : slice_get run.steps place ≡ Some one
  pub alike : ReadsAlike values one
  pub line : told_line ≡ one.line
  pub act : told_act ≡ one.act
  pub behind : next ≡ stands_behind run place

-- there is no step of that place, or it would read another value
pub data PartsAt (values : List LogicValue) (run : RunEnd) (place : ℕ) : Type 0 where
  HasEnded : slice_get run.steps place ≡ None → PartsAt values run place
  ReadsOther : (one : StepTaken) → slice_get run.steps place ≡ Some one → (ReadsAlike values one → ⊥) → PartsAt values run place
