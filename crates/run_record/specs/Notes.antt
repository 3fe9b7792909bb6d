-- What is noted of the process runs of a slot so far (phases by IEEE 1364-2001, clause 5; processes by clause 9).
use Rattle.std.specs.Prelude.{◌≡◌, ℕ, ◌+◌, ◌<◌, ◌≤◌, Bool, true, false, List, [], ◌∷◌, ◌++◌, map, length, get_or, Some, slice_get}
use Rattle.std.specs.List.{All}
use Rattle.vf_base.specs.Base.{process_number}
use Rattle.v_design.specs.Designs.{FlatDesign, Machine}
use Rattle.v_design.specs.Assignments.{ValueUpdate}
use Rattle.v_design.specs.States.{State, LaterUpdate, process_at, step_of, next_activity}
use Rattle.v_design.specs.Grades.{Phase}
use Rattle.v_design.specs.OwnSteps.{StepSeen, ProcessRun, value_read, process_runs}
use Rattle.process_code.specs.Points.{activity_of}
use Rattle.process_code.specs.RunEnds.{ActTold, TellsRead, TellsWrite, TellsAppend, TellsInner, StepTold, StepsStandIn, act_by, act_of, step_told_by, told_by}
use Rattle.process_code.specs.StatesOf.{IsStateOf}
use Rattle.process_code.specs.declared.code.Code.{Code}
use Rattle.process_code.specs.declared.state.ProcState.{ProcState}
use Rattle.process_code.specs.declared.state.RunEnd.{RunEnd}
use Rattle.process_code.specs.declared.state.StepTaken.{StepTaken}
use Rattle.copy_laws.specs.OwnRuns.{is_going}
use Rattle.copy_laws.specs.SharedRuns.{appended_by, written_by}
use Rattle.run_ends.specs.RunEnds.{IsCodeAt, steps_told, told_of, ends_of, ender_told, slot_enders}

-- The runs of a process in a phase so far

-- those that ended: all but the last, where that one goes on
abbrev pub run_unless : Bool → ProcessRun → List ProcessRun
run_unless true run = []
run_unless false run = run ∷ []

abbrev pub ended_runs : List ProcessRun → List ProcessRun
ended_runs [] = []
ended_runs (run ∷ []) = run_unless (is_going run.steps) run
ended_runs (run ∷ next ∷ rest) = run ∷ ended_runs (next ∷ rest)

-- the steps of the one that goes on, if one does
abbrev pub steps_if : Bool → List StepSeen → List StepSeen
steps_if true steps = steps
steps_if false steps = []

abbrev pub present_steps : List ProcessRun → List StepSeen
present_steps [] = []
present_steps (run ∷ []) = steps_if (is_going run.steps) run.steps
present_steps (run ∷ next ∷ rest) = present_steps (next ∷ rest)

-- and what they tell
abbrev pub told_if : Bool → List StepTold → List StepTold
told_if true told = told
told_if false told = []

abbrev pub present_told : ℕ → List ProcessRun → List StepTold
present_told time [] = []
present_told time (run ∷ []) = told_if (is_going run.steps) (steps_told time run.begins run.steps)
present_told time (run ∷ next ∷ rest) = present_told time (next ∷ rest)

-- Steps

-- what is kept of a present run: what its steps appended and wrote so far, and the steps
pub record SoFar : Type 0 where
  pub later : List LaterUpdate
  pub writes : List ValueUpdate
  pub steps : List StepTaken

-- nothing, where a process is in no run
abbrev pub nothing_so_far : SoFar
nothing_so_far = record { later = []; writes = []; steps = [] }

-- the update that an act appended, and the one that it wrote
abbrev pub appends_told : ActTold → List LaterUpdate
appends_told (TellsRead object) = []
appends_told (TellsWrite update) = []
appends_told (TellsAppend update) = update ∷ []
appends_told TellsInner = []

abbrev pub writes_told : ActTold → List ValueUpdate
writes_told (TellsRead object) = []
writes_told (TellsWrite update) = update ∷ []
writes_told (TellsAppend update) = []
writes_told TellsInner = []

-- the same with what an act more appended and wrote, and with a step more
abbrev pub with_act : ActTold → SoFar → SoFar
with_act act run = record { later = run.later ++ appends_told act; writes = run.writes ++ writes_told act; steps = run.steps }

abbrev pub with_step : StepTaken → SoFar → SoFar
with_step step run =
    record { later = run.later ++ appends_told (act_by step.act); writes = run.writes ++ writes_told (act_by step.act); steps = run.steps ++ step ∷ [] }

-- this is kept of the present run of a process in a phase of a time, where the process has these runs there
pub record IsSoFar (design : FlatDesign) (process time : ℕ) (runs : List ProcessRun) (kept : SoFar) : Type 0 where
  pub later_is : kept.later ≡ appended_by time (present_steps runs)
  pub writes_are : kept.writes ≡ written_by (present_steps runs)
  pub count : length kept.steps ≡ length (present_steps runs)
  pub told : (code : Code) → IsCodeAt design process code → map (step_told_by code) kept.steps ≡ present_told time runs
  pub stand : (code : Code) → IsCodeAt design process code → StepsStandIn code kept.steps

-- this is the step of a process in a state, whichever code of it one has
pub record StepSays (machine : Machine) (state : State) (process : ℕ) (step : StepTaken) : Type 0 where
  pub line_is : step.line ≡ (step_of machine state process).line
  pub act_is : act_by step.act ≡ act_of state.time (step_of machine state process).action
  pub read_is : step.read ≡ value_read state (step_of machine state process).action
  pub state_of : (code : Code) → IsCodeAt machine.design process code → IsStateOf code step.state
  pub activity : (code : Code) → IsCodeAt machine.design process code → activity_of code step.state ≡ (process_at state process).activity

-- where a process stands after its step in a state, whichever code of it one has
pub record StandsAfter (machine : Machine) (state : State) (process : ℕ) (stands : ProcState) : Type 0 where
  pub state_of : (code : Code) → IsCodeAt machine.design process code → IsStateOf code stands
  pub activity : (code : Code) → IsCodeAt machine.design process code →
      activity_of code stands ≡ next_activity state.values (step_of machine state process).action (step_of machine state process).next

-- Notes

-- a run that ended, in one of so many phases, is of a process of the design, and in a state of each code of that process, as it was before each of its steps
pub record IsNotedIn (design : FlatDesign) (phases : ℕ) (run : RunEnd) : Type 0 where
  pub first : 1 ≤ run.phase
  pub last : run.phase ≤ phases
  pub process : process_number run.process < length design.processes
  pub state : (code : Code) → IsCodeAt design (process_number run.process) code → IsStateOf code run.state
  pub steps : (code : Code) → IsCodeAt design (process_number run.process) code → StepsStandIn code run.steps

-- the present run of each process, and the ends of all runs that ended so far, in phases that ended and in the present one
pub record AreNotes (machine : Machine) (before : List Phase) (phase : Phase) (present : List SoFar) (ended : List RunEnd) : Type 0 where
  pub count : length present ≡ length machine.design.processes
  pub present_are : (process : ℕ) → process < length present →
      IsSoFar machine.design process phase.begins.time (process_runs machine process phase) (get_or present process nothing_so_far)
  pub within : All (IsNotedIn machine.design (length before + 1)) ended
  pub order : map ender_told ended ≡ slot_enders machine (before ++ phase ∷ [])
  pub told_before : (number process : ℕ) (one : Phase) (code : Code) → slice_get before number ≡ Some one → IsCodeAt machine.design process code →
      map (told_by code) (ends_of (number + 1) process ended) ≡ map (told_of one.begins.time) (process_runs machine process one)
  pub told_now : (process : ℕ) (code : Code) → IsCodeAt machine.design process code →
      map (told_by code) (ends_of (length before + 1) process ended) ≡ map (told_of phase.begins.time) (ended_runs (process_runs machine process phase))
