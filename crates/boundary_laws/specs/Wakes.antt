-- Which event ended a wait, told by the causes of later steps (causes by IEEE 1364-2001, clause 5; waits by clause 9.7).
use Rattle.std.specs.Prelude.{◌≡◌, ℕ, true, false, List, take, Some, slice_get}
use Rattle.v_design.specs.Designs.{Machine}
use Rattle.v_design.specs.States.{State, Event, Step, process_at, is_ready}
use Rattle.v_design.specs.Runs.{happened}
use Rattle.v_design.specs.Logs.{cause_at}
use Rattle.v_design.specs.PhaseLogs.{is_step_of, log_of}
use Rattle.copy_laws.specs.QuietPhases.{ends_its_wait}

-- the event of a number in a phase ends the wait of a process
pub record EndsWaitAt (machine : Machine) (begins : State) (events : List Event) (number process : ℕ) : Type 0 where
  pub event : Event
  pub there : slice_get events number ≡ Some event
  pub ends : ends_its_wait machine (happened machine begins (take number events)) event process ≡ true

-- a later event is a step of the process, and has its cause in that one
pub record IsCauseOfStep (machine : Machine) (begins : State) (events : List Event) (number later process : ℕ) : Type 0 where
  pub step : slice_get events later ≡ Some (Step process)
  pub cause : cause_at (log_of machine begins events) later ≡ Some number

-- The laws
pub record CausesTellWakes : Type 0 where
  -- a process whose wait an event ends takes a step later that has its cause there, where it isn't ready in the end
  pub steps : (machine : Machine) (begins : State) (events : List Event) (number process : ℕ) → is_ready (process_at (happened machine begins events) process).activity ≡ false →
      EndsWaitAt machine begins events number process → (later : ℕ) × IsCauseOfStep machine begins events number later process
  -- and the cause of a step, where it isn't itself a step of the process, ended its wait
  pub ends : (machine : Machine) (begins : State) (events : List Event) (number later process : ℕ) (event : Event) → IsCauseOfStep machine begins events number later process →
      slice_get events number ≡ Some event → is_step_of process event ≡ false → EndsWaitAt machine begins events number process
