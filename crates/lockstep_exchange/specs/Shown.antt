-- A state that is shown part by part (nothing of the language).
use Rattle.std.specs.Prelude.{ℕ, ◌<◌, length}
use Rattle.v_design.specs.States.{State}

-- a state that is shown has an object of a number
pub record ShowsObject (shows : State → Type 0) (object : ℕ) : Type 0 where
  pub state : State
  pub shown : shows state
  pub there : object < length state.values

-- a state that is shown has a process of a number
pub record ShowsProcess (shows : State → Type 0) (process : ℕ) : Type 0 where
  pub state : State
  pub shown : shows state
  pub there : process < length state.processes
