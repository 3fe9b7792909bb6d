-- A faulty machine in lockstep that differs in values, and in what some of its processes have yet to write: events that touch no own value, and are no steps of these processes or of their lanes
-- (IEEE 1364-2001, clause 5; nonblocking updates by clause 9.2.2).
use Rattle.std.specs.Prelude.{◌≡◌, ℕ, List, Option, Some, None}
use Rattle.std.specs.Option.{option_map}
use Rattle.four_value.specs.Values.{LogicValue}
use Rattle.vf_base.specs.Lists.{AllHold}
use Rattle.v_design.specs.Designs.{FlatDesign, StuckAt, good_machine, faulty_machine}
use Rattle.v_design.specs.Assignments.{ValueUpdate}
use Rattle.v_design.specs.States.{State, ProcessState, LaterUpdate, Event, Step, LaneStep, Evaluation, NetUpdate, process_at}
use Rattle.v_design.specs.Runs.{happened}
use Rattle.v_design.specs.WellFormed.{KeepsRules}
use Rattle.copy_laws.specs.Beside.{AreFirst}
use Rattle.copy_laws.specs.Moves.{Within}
use Rattle.copy_laws.specs.QuietPhases.{AllDoAlike}
use Rattle.lockstep_laws.specs.Lockstep.{AreInLockstep}
use Rattle.lockstep_laws.specs.Passing.{AreFree}
use Rattle.lockstep_laws.specs.Phases.{IsInPhase}
use Rattle.lockstep_index.specs.Alone.{apart_values}

-- what a process has yet to write: its pending updates, and those in its lane
pub record OwnWrites : Type 0 where
  pub later : List LaterUpdate
  pub lane : List ValueUpdate

-- a process with own ones, if it has them
abbrev pub with_writes : Option OwnWrites → ProcessState → ProcessState
with_writes None process = process
with_writes (Some own) process = record process { later = own.later; lane = own.lane }

-- own values, and processes that do what the good ones do and have own updates
abbrev pub within_writes : (ℕ → Option LogicValue) → (ℕ → Option OwnWrites) → State → Within
within_writes values writes good = record {
  values = values;
  nodes = λ number. None;
  processes = λ process. option_map (λ (own : OwnWrites). with_writes (Some own) (process_at good process)) (writes process);
}

-- an event is no step of a process with own updates, nor of its lane
abbrev pub ActsElsewhere : (ℕ → Option OwnWrites) → Event → Type 0
ActsElsewhere writes (Step process) = writes process ≡ None
ActsElsewhere writes (LaneStep process) = writes process ≡ None
ActsElsewhere writes (Evaluation number) = Unit {0}
ActsElsewhere writes (NetUpdate number) = Unit {0}

-- the faulty machine's first order takes the events too, each does alike, and behind them the own values and updates are the same, whatever the processes that have them do then
pub record PassWithWrites (design : FlatDesign) (fault : StuckAt) (values : ℕ → Option LogicValue) (writes : ℕ → Option OwnWrites) (good faulty : State) (events : List Event) : Type 0 where
  pub first : AreFirst (faulty_machine design fault) faulty events
  pub lockstep : AreInLockstep (within_writes values writes (happened (good_machine design) good events)) (happened (good_machine design) good events)
      (happened (faulty_machine design fault) faulty events)
  pub alike : AllDoAlike design fault good faulty events

-- events of the first order that touch no own value pass, also those that end a wait of a process with own updates
abbrev pub WritesPass : Type 0
WritesPass =
    (design : FlatDesign) (fault : StuckAt) (values : ℕ → Option LogicValue) (writes : ℕ → Option OwnWrites) (good faulty : State) (events : List Event) → KeepsRules design →
    AreInLockstep (within_writes values writes good) good faulty → IsInPhase (good_machine design) good → IsInPhase (faulty_machine design fault) faulty →
    AreFirst (good_machine design) good events → AreFree design fault (apart_values values) good events → AllHold (ActsElsewhere writes) events →
    PassWithWrites design fault values writes good faulty events
