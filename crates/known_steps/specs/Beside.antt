-- A run of a machine beside one of the good machine's, step by step (steps by IEEE 1364-2001, clause 9; runs are own or shared by whole runs).
use Rattle.std.specs.Prelude.{◌≡◌, ◌≢◌, ℕ, List, [], ◌∷◌, ◌++◌, length, Option, Some, None, slice_get}
use Rattle.v_design.specs.Designs.{Machine}
use Rattle.v_design.specs.States.{State, process_at, source_at, step_of}
use Rattle.v_design.specs.OwnSteps.{StepSeen, ProcessRun, seen_step}
use Rattle.process_code.specs.Points.{activity_of}
use Rattle.process_code.specs.RunEnds.{StandsIn, act_by, act_of, told_by}
use Rattle.process_code.specs.StatesOf.{IsStateOf}
use Rattle.process_code.specs.declared.code.Code.{Code}
use Rattle.process_code.specs.declared.state.ProcState.{ProcState}
use Rattle.process_code.specs.declared.state.RunEnd.{RunEnd}
use Rattle.process_code.specs.declared.state.StepAct.{StepAct}
use Rattle.process_code.specs.declared.state.StepTaken.{StepTaken}
use Rattle.run_ends.specs.RunEnds.{IsCodeAt, told_of}
use Rattle.process_table.specs.Known.{IsKnownStep}
use Rattle.copy_laws.specs.SharedRuns.{IsRunFrom, activity_at_end}
use Rattle.copy_overlay.specs.Statuses.{AllCount, gone_on}
use Rattle.known_steps.specs.Known.{IsKnownAt, PartsAt}

-- a run as far as it went is the beginning of the good machine's run
pub record FollowsSoFar (good : Option ProcessRun) (run : ProcessRun) : Type 0 where
  pub one : ProcessRun
  pub is : good ≡ Some one
  pub begins : one.begins ≡ run.begins
  pub later : List StepSeen
  pub steps : one.steps ≡ run.steps ++ later

-- a process in the midst of a run, which may have no steps yet: it does what the run's steps left it doing
abbrev pub IsInRun : Machine → State → ℕ → ProcessRun → Type 0
IsInRun machine state process run = (process_at state process).activity ≡ activity_at_end run.begins run.steps

-- the run with the next step of the process
abbrev pub run_behind : Machine → State → ℕ → ProcessRun → ProcessRun
run_behind machine state process run = gone_on run (seen_step machine state process ∷ [])

-- what was found tells, by each code of the process, of a run of the good machine, of the process's text at the present time
pub record TellsRunHere (machine : Machine) (state : State) (process : ℕ) (good : ProcessRun) (found : RunEnd) : Type 0 where
  pub code : Code
  pub is_code : IsCodeAt machine.design process code
  pub told : (code : Code) → IsCodeAt machine.design process code → told_by code found ≡ told_of state.time good
  pub stand : (code : Code) → IsCodeAt machine.design process code → StandsIn code found
  pub of_text : IsRunFrom (source_at machine process) state.time good

-- The laws
pub record KnownStepsGoOn : Type 0 where
  -- where the run found begins
  pub first : (machine : Machine) (state : State) (process : ℕ) (good : ProcessRun) (found : RunEnd) (one : StepTaken) → TellsRunHere machine state process good found →
      slice_get found.steps 0 ≡ Some one → (code : Code) → IsCodeAt machine.design process code → (activity_of code one.state ≡ good.begins) × IsStateOf code one.state
  -- a run that follows so far: the step of its place is the next step, so it does what that does
  pub acts : (machine : Machine) (state : State) (process : ℕ) (run good : ProcessRun) (found : RunEnd) (one : StepTaken) → TellsRunHere machine state process good found →
      IsInRun machine state process run → FollowsSoFar (Some good) run → slice_get found.steps (length run.steps) ≡ Some one →
      act_by one.act ≡ act_of state.time (step_of machine state process).action
  -- where it is known, it is the step of the definition, and the run follows on
  pub known : (machine : Machine) (state : State) (process : ℕ) (run good : ProcessRun) (found : RunEnd) (line : ℕ) (act : StepAct) (next : ProcState) →
      TellsRunHere machine state process good found → IsInRun machine state process run → FollowsSoFar (Some good) run → IsKnownAt state.values found (length run.steps) line act next →
      IsKnownStep machine state process line act next × ((code : Code) → IsCodeAt machine.design process code → IsStateOf code next) ×
      FollowsSoFar (Some good) (run_behind machine state process run)
  -- where they part, all its steps count
  pub parts : (machine : Machine) (state : State) (process : ℕ) (run good : ProcessRun) (found : RunEnd) → TellsRunHere machine state process good found →
      IsInRun machine state process run → FollowsSoFar (Some good) run → PartsAt state.values found (length run.steps) → AllCount (Some good) (run_behind machine state process run)
  -- so do those where the run found has no steps at all
  pub stepless : (machine : Machine) (state : State) (process : ℕ) (run good : ProcessRun) (found : RunEnd) → TellsRunHere machine state process good found →
      slice_get found.steps 0 ≡ None → AllCount (Some good) (run_behind machine state process run)
  -- and those of a run of which the good machine has none, and of one that begins otherwise
  pub alone : (run : ProcessRun) → AllCount None run
  pub other : (good run : ProcessRun) → good.begins ≢ run.begins → AllCount (Some good) run
  -- and they count still, however it goes on
  pub stays : (good : Option ProcessRun) (run : ProcessRun) (more : List StepSeen) → AllCount good run → AllCount good (gone_on run more)
