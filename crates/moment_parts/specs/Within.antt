-- Those of a window's changes that come from one moment to before another, and what they leave (events by IEEE 1364-2001, clause 5).
use Rattle.std.specs.Prelude.{◌≡◌, ℕ, Bool, true, false, List, [], ◌∷◌, filter, length, set, Some, slice_get}
use Rattle.vf_base.specs.Lists.{has}
use Rattle.four_value.specs.Values.{LogicValue}
use Rattle.process_code.specs.Points.{point_of}
use Rattle.process_code.specs.StatesOf.{IsStateOf}
use Rattle.process_code.specs.declared.code.Code.{Code}
use Rattle.process_code.specs.declared.state.ProcState.{ProcState}
use Rattle.process_code.specs.declared.state.Stage.TheVariants as stages
use Rattle.moment_slices.specs.Within.{comes_within}
use Rattle.trace_window.specs.Writes.{Written}

abbrev pub written_within : ℕ → ℕ → List Written → List Written
written_within first limit writes = filter (λ (write : Written). comes_within first limit write.moment) writes

-- the values of all objects behind some writes
abbrev pub put_all : List Written → List LogicValue → List LogicValue
put_all [] values = values
put_all (write ∷ writes) values = put_all writes (set values write.object write.value)

-- a process is ready now where it was woken, and stands as it stood else
pub record IsReadied (old new : ProcState) : Type 0 where
  pub point : point_of new ≡ record (point_of old) { stage = stages.Ready }
  pub state_of : (code : Code) → IsStateOf code old → IsStateOf code new

abbrev pub IsWokenIf : Bool → ProcState → ProcState → Type 0
IsWokenIf true old new = IsReadied old new
IsWokenIf false old new = new ≡ old

-- just these of all processes are woken
pub record AreWoken (processes : List ℕ) (old new : List ProcState) : Type 0 where
  pub count : length new ≡ length old
  pub each : (process : ℕ) (before behind : ProcState) → slice_get old process ≡ Some before → slice_get new process ≡ Some behind → IsWokenIf (has processes process) before behind
