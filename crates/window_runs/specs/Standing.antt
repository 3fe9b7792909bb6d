-- Where the processes stand after a window's runs (processes by IEEE 1364-2001, clause 9).
use Rattle.std.specs.Prelude.{◌≡◌, ℕ, ◌-◌, List, length, Option, Some, None, slice_get}
use Rattle.process_code.specs.Points.{point_of}
use Rattle.process_code.specs.StatesOf.{IsStateOf}
use Rattle.process_code.specs.declared.code.Code.{Code}
use Rattle.process_code.specs.declared.state.ProcState.{ProcState}
use Rattle.process_code.specs.declared.state.RunEnd.{RunEnd}
use Rattle.window_runs.specs.RunsByProcess.{runs_of_process}

-- where a process stands after a run, if it had one
abbrev pub standing_after : ProcState → Option RunEnd → ProcState
standing_after state None = state
standing_after state (Some run) = run.state

-- the last run of a process
abbrev pub last_run : ℕ → List RunEnd → Option RunEnd
last_run process runs = slice_get (runs_of_process process runs) (length (runs_of_process process runs) - 1)

-- a state is the same as another for each code
pub record IsCopyOf (state copy : ProcState) : Type 0 where
  pub point : point_of copy ≡ point_of state
  pub state_of : (code : Code) → IsStateOf code state → IsStateOf code copy

-- of each process, by number, where it stands after its last run, or stood before, if it had none
pub record AreStatesAfter (states : List ProcState) (runs : List RunEnd) (later : List ProcState) : Type 0 where
  pub count : length later ≡ length states
  pub each : (process : ℕ) (state own : ProcState) → slice_get states process ≡ Some state → slice_get later process ≡ Some own → IsCopyOf (standing_after state (last_run process runs)) own
