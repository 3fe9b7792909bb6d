-- What a process does while a run of it goes on (phases by IEEE 1364-2001, clause 5; processes by clause 9).
use Rattle.std.specs.Prelude.{◌≡◌, ℕ, true, List, [], ◌∷◌, ◌++◌}
use Rattle.v_design.specs.Designs.{Machine}
use Rattle.v_design.specs.States.{State, Event, process_at}
use Rattle.v_design.specs.Runs.{happened}
use Rattle.v_design.specs.OwnSteps.{ProcessRun, steps_in, runs_of}
use Rattle.copy_laws.specs.OwnRuns.{is_going}
use Rattle.copy_laws.specs.SharedRuns.{activity_at_end}

-- a process whose last run goes on does what the run's steps left it doing
abbrev pub PresentRunsLead : Type 0
PresentRunsLead =
    (machine : Machine) (process : ℕ) (state : State) (events : List Event) (before : List ProcessRun) (run : ProcessRun) →
    runs_of (steps_in machine process state events) ≡ before ++ run ∷ [] → is_going run.steps ≡ true →
    (process_at (happened machine state events) process).activity ≡ activity_at_end run.begins run.steps
