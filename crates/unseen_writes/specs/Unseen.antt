-- Two states that differ in nothing but what processes have yet to write (events by IEEE 1364-2001, clause 5; nonblocking updates by clause 9.2.2).
use Rattle.std.specs.Prelude.{◌≡◌, ℕ, Bool, true, false, List, length}
use Rattle.vf_base.specs.Lists.{AllHold}
use Rattle.v_design.specs.Designs.{Machine}
use Rattle.v_design.specs.States.{State, ProcessState, Event, Step, LaneStep, Evaluation, NetUpdate, after, process_at}
use Rattle.v_design.specs.Runs.{first_event, happened}
use Rattle.machine_laws.specs.SlotLoop.{first_lane}
use Rattle.copy_laws.specs.Beside.{AreFirst}
use Rattle.block_told.specs.Blocks.{AreBlock}
use Rattle.block_told.specs.Tells.{TellsBlock}
use Rattle.block_told.specs.declared.told.BlockTold.{BlockTold}

-- a process does the same in both states, and as many updates are in its lane; it may be that it is in the same state
pub record IsAlike (same : Bool) (one other : ProcessState) : Type 0 where
  pub activity : other.activity ≡ one.activity
  pub lane : length other.lane ≡ length one.lane
  pub kept : same ≡ true → other ≡ one

-- so it is with each process, and some processes are in the same states
pub record AreAlike (parts : ℕ → Bool) (one other : State) : Type 0 where
  pub time : other.time ≡ one.time
  pub values : other.values ≡ one.values
  pub nodes : other.nodes ≡ one.nodes
  pub count : length other.processes ≡ length one.processes
  pub each : (process : ℕ) → IsAlike (parts process) (process_at one process) (process_at other process)

-- an event is a step of no other lane
abbrev pub StepsLane : (ℕ → Bool) → Event → Type 0
StepsLane parts (Step process) = Unit {0}
StepsLane parts (LaneStep process) = parts process ≡ true
StepsLane parts (Evaluation node) = Unit {0}
StepsLane parts (NetUpdate node) = Unit {0}

-- The laws
pub record WritesAreUnseen : Type 0 where
  -- the same lane is the first one where as many updates are in each
  pub lanes : (one other : State) → length other.processes ≡ length one.processes →
      ((process : ℕ) → length (process_at other process).lane ≡ length (process_at one process).lane) → first_lane other ≡ first_lane one
  -- the first order takes the same event in both
  pub first : (parts : ℕ → Bool) (one other : State) → AreAlike parts one other → first_event other ≡ first_event one
  -- behind an event they are alike again
  pub goes : (machine : Machine) (parts : ℕ → Bool) (one other : State) (event : Event) → AreAlike parts one other → StepsLane parts event →
      AreAlike parts (after machine one event) (after machine other event)
  -- so it is with events of the first order
  pub events : (machine : Machine) (parts : ℕ → Bool) (one other : State) (events : List Event) → AreAlike parts one other → AllHold (StepsLane parts) events →
      AreFirst machine other events → AreFirst machine one events × AreAlike parts (happened machine one events) (happened machine other events)
  -- a block of the one is one of the other
  pub block : (machine : Machine) (parts : ℕ → Bool) (one other : State) (events : List Event) → AreAlike parts one other → AllHold (StepsLane parts) events →
      AreBlock machine other events → AreBlock machine one events
  -- and what is told of it is told of both
  pub tells : (machine : Machine) (parts : ℕ → Bool) (one other : State) (events : List Event) (told : BlockTold) → AreAlike parts one other → AllHold (StepsLane parts) events →
      TellsBlock machine other events told → TellsBlock machine one events told
