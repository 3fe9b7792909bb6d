-- The ends of the process runs in some events of a phase, and how they are parted at a moment between runs (phases by IEEE 1364-2001, clause 5; processes by clause 9; nonblocking updates by clause
-- 9.2.2).
use Rattle.std.specs.Prelude.{◌≡◌, ℕ, ◌+◌, List, [], ◌∷◌, ◌++◌, map, length, take, drop, Some, slice_get}
use Rattle.std.specs.List.{All}
use Rattle.vf_base.specs.Lists.{joined}
use Rattle.v_design.specs.Designs.{Machine}
use Rattle.v_design.specs.States.{State, Event}
use Rattle.v_design.specs.Runs.{happened}
use Rattle.v_design.specs.Grades.{Phase}
use Rattle.v_design.specs.OwnSteps.{ProcessRun, steps_in, runs_of}
use Rattle.process_code.specs.Points.{activity_of}
use Rattle.process_code.specs.RunEnds.{told_by}
use Rattle.process_code.specs.StatesOf.{IsStateOf}
use Rattle.process_code.specs.declared.code.Code.{Code}
use Rattle.process_code.specs.declared.state.ProcState.{ProcState}
use Rattle.process_code.specs.declared.state.RunEnd.{RunEnd}
use Rattle.copy_laws.specs.SharedRuns.{appended_by}
use Rattle.run_ends.specs.RunEnds.{told_of, enders_in, AreRunEnds}
use Rattle.between_slots.specs.Between.{activity_after_runs}
use Rattle.window_runs.specs.RunsByProcess.{run_process, runs_of_process}
use Rattle.window_runs.specs.Standing.{standing_after, last_run}
use Rattle.window_runs.specs.Through.{runs_through, appended_of}
use Rattle.phase_blocks.specs.Blocks.{IsBetweenRuns}

-- a run ended in a state of each code of its process
abbrev pub EndsInState : List Code → RunEnd → Type 0
EndsInState codes run = (code : Code) → slice_get codes (run_process run) ≡ Some code → IsStateOf code run.state

-- the ends of the runs in some events of one phase, from a state on, in the order in which the runs end: those of each process tell of its runs there, in their order
pub record AreEndsIn (codes : List Code) (machine : Machine) (begins : State) (events : List Event) (runs : List RunEnd) : Type 0 where
  pub states : All (EndsInState codes) runs
  pub order : map run_process runs ≡ enders_in machine begins events
  pub told : (process : ℕ) (code : Code) → slice_get codes process ≡ Some code →
      map (told_by code) (runs_of_process process runs) ≡ map (told_of begins.time) (runs_of (steps_in machine process begins events))

-- The laws

-- between the ends in the phases up to one and those in the phases up to the next are those of the next phase's runs
abbrev pub PhaseEndsStand : Type 0
PhaseEndsStand =
    (codes : List Code) (machine : Machine) (phases more : List Phase) (phase : Phase) (runs between : List RunEnd) → AreRunEnds codes machine ((phases ++ phase ∷ []) ++ more) runs →
    runs_through (length phases) runs ++ between ≡ runs_through (length phases + 1) runs → AreEndsIn codes machine phase.begins phase.events between

-- at a moment between runs they are parted: as many as end before it are those of the events before it, and the others those of the events behind
pub record ArePartedEnds (codes : List Code) (machine : Machine) (begins : State) (before behind : List Event) (runs : List RunEnd) : Type 0 where
  pub front : AreEndsIn codes machine begins before (take (length (enders_in machine begins before)) runs)
  pub rest : AreEndsIn codes machine (happened machine begins before) behind (drop (length (enders_in machine begins before)) runs)

abbrev pub EndsPartBetweenRuns : Type 0
EndsPartBetweenRuns =
    (codes : List Code) (machine : Machine) (begins : State) (before behind : List Event) (runs : List RunEnd) → IsBetweenRuns machine begins before →
    AreEndsIn codes machine begins (before ++ behind) runs → ArePartedEnds codes machine begins before behind runs

-- what they tell of a process that stood in a state before
pub record TellProcess (code : Code) (machine : Machine) (begins : State) (events : List Event) (runs : List RunEnd) (process : ℕ) (state : ProcState) : Type 0 where
  -- what its runs leave it doing
  pub activity : activity_of code (standing_after state (last_run process runs)) ≡ activity_after_runs (activity_of code state) (runs_of (steps_in machine process begins events))
  -- in a state of its code
  pub state_of : IsStateOf code state → IsStateOf code (standing_after state (last_run process runs))
  -- and what they append
  pub appended : appended_of (runs_of_process process runs) ≡ joined (map (λ (run : ProcessRun). appended_by begins.time run.steps) (runs_of (steps_in machine process begins events)))

abbrev pub EndsTellProcesses : Type 0
EndsTellProcesses =
    (codes : List Code) (machine : Machine) (begins : State) (events : List Event) (runs : List RunEnd) (process : ℕ) (code : Code) (state : ProcState) →
    AreEndsIn codes machine begins events runs → slice_get codes process ≡ Some code → TellProcess code machine begins events runs process state
