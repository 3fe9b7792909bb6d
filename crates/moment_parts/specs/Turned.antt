-- What a turn makes of the processes as they are kept (turns by IEEE 1364-2001, clauses 5.3 and 5.4; nonblocking updates by clause 9.2.2).
use Rattle.std.specs.Prelude.{◌≡◌, ℕ, Bool, true, false, not, List, map, filter, length, nat_le, Some, slice_get}
use Rattle.v_design.specs.Assignments.{ValueUpdate}
use Rattle.v_design.specs.States.{LaterUpdate, is_due}
use Rattle.process_code.specs.declared.state.ProcState.{ProcState}
use Rattle.process_code.specs.declared.state.Stage.{Stage}
use Rattle.process_code.specs.declared.state.Stage.TheVariants.{Ready, Waiting, Asleep, Postponed, Done}
use Rattle.moment_parts.specs.Within.{IsWokenIf}

-- whether a process is postponed, and whether it sleeps until a time that has come
abbrev pub at_postponed : Stage → Bool
at_postponed Ready = false
at_postponed (Waiting at) = false
at_postponed (Asleep time) = false
at_postponed Postponed = true
at_postponed Done = false

abbrev pub at_end_of_sleep : ℕ → Stage → Bool
at_end_of_sleep now Ready = false
at_end_of_sleep now (Waiting at) = false
at_end_of_sleep now (Asleep time) = nat_le time now
at_end_of_sleep now Postponed = false
at_end_of_sleep now Done = false

-- just the processes are woken that stand at such a stage
pub record AreWokenWhere (test : Stage → Bool) (old new : List ProcState) : Type 0 where
  pub count : length new ≡ length old
  pub each : (process : ℕ) (before behind : ProcState) → slice_get old process ≡ Some before → slice_get new process ≡ Some behind → IsWokenIf (test before.stage) before behind

-- the updates that are due go from those that are pending into the lanes, in order
abbrev pub left_pending : ℕ → List LaterUpdate → List LaterUpdate
left_pending now later = filter (λ update. not (is_due now update)) later

abbrev pub activated : ℕ → List LaterUpdate → List ValueUpdate
activated now later = map (λ (update : LaterUpdate). update.update) (filter (is_due now) later)
