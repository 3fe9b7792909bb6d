-- Where the processes stand at the start (IEEE 1364-2001, clause 9).
use Rattle.std.specs.Prelude.{◌≡◌, ℕ, List, [], length, Some, slice_get}
use Rattle.v_design.specs.Plain.{statement_of}
use Rattle.v_design.specs.Processes.{Ready, opened}
use Rattle.process_code.specs.Points.{activity_of}
use Rattle.process_code.specs.StatesOf.{IsStateOf}
use Rattle.process_code.specs.declared.code.Code.{Code}
use Rattle.process_code.specs.declared.state.ProcState.{ProcState}

-- a process is ready at its beginning, in a state of this code
pub record IsFirstState (code : Code) (state : ProcState) : Type 0 where
  pub state_of : IsStateOf code state
  pub does : activity_of code state ≡ Ready (opened (statement_of code.process.now.body) []) []

-- the processes of some codes, by their numbers
pub record AreFirstStates (codes : List Code) (states : List ProcState) : Type 0 where
  pub count : length states ≡ length codes
  pub each : (number : ℕ) (code : Code) (state : ProcState) → slice_get codes number ≡ Some code → slice_get states number ≡ Some state → IsFirstState code state
