-- Copies of what is kept (nothing of the language).
use Rattle.std.specs.Prelude.{◌≡◌, ℕ}
use Rattle.std.specs.List.{AllZip}
use Rattle.process_code.specs.Points.{point_of}
use Rattle.process_code.specs.StatesOf.{IsStateOf}
use Rattle.process_code.specs.declared.code.Code.{Code}
use Rattle.process_code.specs.declared.state.ProcState.{ProcState}
use Rattle.copy_state.specs.Kept.{CopyKept}

-- the state of the same process, which stands where the old one does
pub record IsSameState (old new : ℕ × ProcState) : Type 0 where
  pub process : new.0 ≡ old.0
  pub point : point_of new.1 ≡ point_of old.1
  pub state : (code : Code) → IsStateOf code old.1 → IsStateOf code new.1

-- the same is kept
pub record KeepsSame (old new : CopyKept) : Type 0 where
  pub fault : new.fault ≡ old.fault
  pub values : new.values ≡ old.values
  pub states : AllZip IsSameState old.states new.states
  pub updates : new.updates ≡ old.updates
