-- What a copy keeps of a faulty machine's state beside the good one's (what a state has, by IEEE 1364-2001, clauses 5 and 9).
use Rattle.std.specs.Prelude.{◌≡◌, ℕ, ◌≤◌, List, length, Option, None, Some, option_map}
use Rattle.v_design.specs.Assignments.{value_at}
use Rattle.v_design.specs.Designs.{FlatDesign}
use Rattle.v_design.specs.Processes.{Activity}
use Rattle.v_design.specs.States.{State, process_at}
use Rattle.process_code.specs.Points.{activity_of}
use Rattle.process_code.specs.StatesOf.{IsStateOf}
use Rattle.process_code.specs.declared.code.Code.{Code}
use Rattle.process_code.specs.declared.state.ProcState.{ProcState}
use Rattle.run_ends.specs.RunEnds.{IsCodeAt, AreCodesOf}
use Rattle.copy_laws.specs.Differences.{own_of, Ascend, StandsFor, KeepsNothingEqual}
use Rattle.copy_state.specs.Kept.{CopyKept, differences_of, AreStatesOf}
use Rattle.copy_between.specs.Differing.{IsDifference, AreKeptBelow}

-- a copy stands for a state beside a good one: what it keeps, with the code of each process, is what differs, and nothing that is kept is equal
pub record IsCopyOf (codes : List Code) (good own : State) (kept : CopyKept) : Type 0 where
  pub stands : StandsFor (differences_of codes kept) good own
  pub nothing_equal : KeepsNothingEqual (differences_of codes kept) good
  pub states : AreStatesOf codes kept.states

-- nothing is kept but of so many objects and so many processes
pub record KeepsWithin (objects processes : ℕ) (kept : CopyKept) : Type 0 where
  pub values : (object : ℕ) → objects ≤ object → own_of kept.values object ≡ None
  pub states : (process : ℕ) → processes ≤ process → own_of kept.states process ≡ None
  pub updates : (process : ℕ) → processes ≤ process → own_of kept.updates process ≡ None

-- the state that is kept of a process, if one is, is one of its codes, in which it does its own beside what it does in the good machine
pub record TellsOwn (design : FlatDesign) (process : ℕ) (good own : Activity) (found : Option ProcState) : Type 0 where
  pub does : (code : Code) → IsCodeAt design process code → IsDifference good own (option_map (activity_of code) found)
  pub state_of : (code : Code) (state : ProcState) → IsCodeAt design process code → found ≡ Some state → IsStateOf code state

-- a copy was gone through: of each object and each process it keeps what isn't the same in an own state and in a good one, and else what it kept
pub record AreKept (design : FlatDesign) (good own : State) (old new : CopyKept) : Type 0 where
  pub values : AreKeptBelow (λ object. IsDifference (value_at good.values object) (value_at own.values object)) (length design.objects) old.values new.values
  pub states : AreKeptBelow (λ process. TellsOwn design process (process_at good process).activity (process_at own process).activity) (length design.processes) old.states new.states
  pub updates : AreKeptBelow (λ process. IsDifference (process_at good process).later (process_at own process).later) (length design.processes) old.updates new.updates

-- two states have a part for each part of a design, and the same nodes
pub record AreAlike (design : FlatDesign) (good own : State) : Type 0 where
  pub good_values : length good.values ≡ length design.objects
  pub own_values : length own.values ≡ length design.objects
  pub good_processes : length good.processes ≡ length design.processes
  pub own_processes : length own.processes ≡ length design.processes
  pub nodes : own.nodes ≡ good.nodes

-- entries in ascending order, each number once
pub record KeepsAscending (kept : CopyKept) : Type 0 where
  pub values : Ascend kept.values
  pub states : Ascend kept.states
  pub updates : Ascend kept.updates

-- a copy that kept nothing else, and was gone through, stands for the own state beside the good one
abbrev pub DifferencesStand : Type 0
DifferencesStand =
    (codes : List Code) (design : FlatDesign) (good own : State) (old new : CopyKept) → AreCodesOf design codes → AreAlike design good own →
    KeepsWithin (length design.objects) (length design.processes) old → AreKept design good own old new → KeepsAscending new → IsCopyOf codes good own new
