-- What a copy keeps, and the differences for which it stands (nothing of the language).
use Rattle.std.specs.Prelude.{◌≡◌, ◌≢◌, ℕ, List, [], map, if◌then◌else◌, Option, Some, None, slice_get}
use Rattle.vf_base.specs.Lists.{AllHold}
use Rattle.four_value.specs.Values.{LogicValue, same_value}
use Rattle.v_design.specs.Places.{PlacesDiffer}
use Rattle.v_design.specs.Plain.{due_of, statement_of}
use Rattle.v_design.specs.Processes.{Activity, Done}
use Rattle.v_design.specs.States.{LaterUpdate}
use Rattle.v_design.specs.declared.plan.Due.{Due}
use Rattle.process_code.specs.Codes.{IsCodeOf}
use Rattle.process_code.specs.Points.{activity_of}
use Rattle.process_code.specs.StatesOf.{IsStateOf}
use Rattle.process_code.specs.declared.code.Code.{Code}
use Rattle.process_code.specs.declared.state.ProcState.{ProcState}
use Rattle.copy_laws.specs.Differences.{Differences, own_of}
use Rattle.copy_state.specs.Entries.{with_entry, without_entry, each_by}

-- what a copy keeps: the place of its fault in the plan; its own values, each by its object; and its own states and updates, each by its process; all in ascending order
pub record CopyKept : Type 0 where
  pub fault : ℕ
  pub values : List (ℕ × LogicValue)
  pub states : List (ℕ × ProcState)
  pub updates : List (ℕ × List LaterUpdate)

-- a copy of a fault that keeps nothing
abbrev pub nothing_kept : ℕ → CopyKept
nothing_kept fault = record { fault = fault; values = []; states = []; updates = [] }

-- the updates of each process
abbrev pub updates_of : List (ℕ × List Due) → List (ℕ × List LaterUpdate)
updates_of entries = each_by (λ (process : ℕ) (own : List Due). map due_of own) entries

-- an own value under an object, where it isn't the good one
abbrev pub with_own_value : ℕ → LogicValue → LogicValue → List (ℕ × LogicValue) → List (ℕ × LogicValue)
with_own_value object good own entries = if same_value good own then without_entry object entries else with_entry object own entries

-- what a process does in a state of some code; nothing where there is no code
abbrev pub done_by : Option Code → ProcState → Activity
done_by None state = Done
done_by (Some code) state = activity_of code state

-- what the processes do in some states, with the code of each process
abbrev pub activities_of : List Code → List (ℕ × ProcState) → List (ℕ × Activity)
activities_of codes states = each_by (λ (process : ℕ) (state : ProcState). done_by (slice_get codes process) state) states

-- the differences for which a copy stands, with the code of each process
abbrev pub differences_of : List Code → CopyKept → Differences
differences_of codes kept = record { values = kept.values; activities = activities_of codes kept.states; updates = kept.updates }

-- each state that is kept is one of its process's code
abbrev pub AreStatesOf : List Code → List (ℕ × ProcState) → Type 0
AreStatesOf codes states = AllHold (λ (entry : ℕ × ProcState). (code : Code) → slice_get codes entry.0 ≡ Some code → IsStateOf code entry.1) states

-- two states are of a code in which no two statements stand at one place
pub record AreOfCode (code : Code) (good own : ProcState) : Type 0 where
  pub places : PlacesDiffer (statement_of code.process.now.body)
  pub code_is : IsCodeOf code.process.now code
  pub good_is : IsStateOf code good
  pub own_is : IsStateOf code own

-- a process stands in a state of its own, which is kept just where the process doesn't do in it what it does in the good machine's
pub record StandsIn (process : ℕ) (good own : ProcState) (old new : CopyKept) : Type 0 where
  pub rest : new ≡ record old { states = new.states }
  pub others : (other : ℕ) → process ≢ other → own_of new.states other ≡ own_of old.states other
  pub kept : (state : ProcState) → own_of new.states process ≡ Some state → state ≡ own
  pub alike : (code : Code) → AreOfCode code good own → own_of new.states process ≡ None → activity_of code own ≡ activity_of code good
  pub differs : (code : Code) (state : ProcState) → AreOfCode code good own → own_of new.states process ≡ Some state → activity_of code own ≢ activity_of code good
