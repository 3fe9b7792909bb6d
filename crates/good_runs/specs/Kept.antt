-- Steps that a machine took itself beside the good machine's runs (steps by IEEE 1364-2001, clause 9; phases by clause 5).
use Rattle.std.specs.Prelude.{◌≡◌, ◌⊎◌, ℕ, ◌+◌, ◌<◌, List, [], ◌∷◌, ◌++◌, drop, length, if◌then◌else◌}
use Rattle.vf_base.specs.Base.{process_number}
use Rattle.v_design.specs.Designs.{Machine}
use Rattle.v_design.specs.OwnSteps.{ProcessRun, runs_of, steps_in}
use Rattle.v_design.specs.Runs.{happened}
use Rattle.v_design.specs.States.{State, Event, Step, next_activity, step_of}
use Rattle.process_code.specs.Points.{activity_of}
use Rattle.process_code.specs.RunEnds.{act_by, act_of}
use Rattle.process_code.specs.StatesOf.{IsStateOf}
use Rattle.process_code.specs.declared.code.Code.{Code}
use Rattle.run_ends.specs.RunEnds.{IsCodeAt}
use Rattle.copy_laws.specs.OwnRuns.{is_going}
use Rattle.own_counts.specs.Counts.{OwnLast}
use Rattle.good_runs.specs.declared.tried.TriedStep.{TriedStep}

-- the place of a process's next step behind some of its runs, the first of which has a number: the number of its run, and how many steps of it come before
pub record StepPlace : Type 0 where
  pub number : ℕ
  pub taken : ℕ

abbrev pub next_place : ℕ → List ProcessRun → StepPlace
next_place number [] = record { number = number; taken = 0 }
next_place number (run ∷ []) = if is_going run.steps then record { number = number; taken = length run.steps } else record { number = number + 1; taken = 0 }
next_place number (run ∷ next ∷ runs) = next_place (number + 1) (next ∷ runs)

-- the place that is told of a step
abbrev pub place_of : TriedStep → StepPlace
place_of one = record { number = one.number; taken = one.taken }

-- behind some events from a state on the next step of a process is told so, of the phase of a number, where before that state so many runs of each process ended; and beside the good machine's runs all steps of its run count
-- as own, however the run goes on
pub record KeptAt (goods : ℕ → List ProcessRun) (numbers : ℕ → ℕ) (machine : Machine) (phase : ℕ) (begins : State) (before : List Event) (process : ℕ) (one : TriedStep) : Type 0 where
  pub there : process < length machine.design.processes
  pub own : OwnLast (drop (numbers process) (goods process)) (runs_of (steps_in machine process begins (before ++ Step process ∷ [])))
  pub phase_is : one.phase ≡ phase
  pub process_is : process_number one.process ≡ process
  pub place : place_of one ≡ next_place (numbers process) (runs_of (steps_in machine process begins before))
  pub line : one.line ≡ (step_of machine (happened machine begins before) process).line
  pub act : act_by one.act ≡ act_of begins.time (step_of machine (happened machine begins before) process).action
  pub stands : (code : Code) → IsCodeAt machine.design process code → IsStateOf code one.state
  pub does : (code : Code) → IsCodeAt machine.design process code → activity_of code one.state ≡ next_activity (happened machine begins before).values
      (step_of machine (happened machine begins before) process).action (step_of machine (happened machine begins before) process).next

-- of some events behind others some steps are told so, in their order
abbrev pub Keeps : (ℕ → List ProcessRun) → (ℕ → ℕ) → Machine → ℕ → State → List Event → List Event → List TriedStep → Type 0
Keeps goods numbers machine phase begins before [] [] = Unit {0}
Keeps goods numbers machine phase begins before [] (one ∷ tried) = ⊥
Keeps goods numbers machine phase begins before (event ∷ events) [] = Keeps goods numbers machine phase begins (before ++ event ∷ []) events []
Keeps goods numbers machine phase begins before (event ∷ events) (one ∷ tried) =
    Keeps goods numbers machine phase begins (before ++ event ∷ []) events (one ∷ tried)
    ⊎ ((event ≡ Step (process_number one.process)) × KeptAt goods numbers machine phase begins before (process_number one.process) one ×
    Keeps goods numbers machine phase begins (before ++ event ∷ []) events tried)
