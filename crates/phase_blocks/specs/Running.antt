-- A block as it is run, event by event: it ends where the process whose step it began with stops (events by IEEE 1364-2001, clause 5; processes by clause 9).
use Rattle.std.specs.Prelude.{◌≡◌, ◌≢◌, ℕ, suc, ◌<◌, ◌≤◌, true, false, List, [], ◌∷◌, ◌++◌, length, take, Some}
use Rattle.vf_base.specs.Lists.{AllHold}
use Rattle.v_design.specs.Designs.{Machine}
use Rattle.v_design.specs.States.{State, Event, Step, LaneStep, is_process_event, is_ready, step_of, some_in}
use Rattle.v_design.specs.Runs.{first_event, happened}
use Rattle.copy_laws.specs.Beside.{AreFirst}
use Rattle.machine_laws.specs.SlotLoop.{NoNodeWorks}
use Rattle.phase_blocks.specs.Blocks.{run_goes_on, IsBetweenRuns, IsWholeBlock, is_step_from}

-- an event is one of a node
abbrev pub IsOfNode : Event → Type 0
IsOfNode event = is_process_event event ≡ false

-- events of the first order, at least one, that a block has begun with and that don't end it
pub record IsInBlock (machine : Machine) (begins : State) (events : List Event) : Type 0 where
  pub some : 0 < length events
  pub first : AreFirst machine begins events
  pub none : (number : ℕ) → 0 < number → number ≤ length events → IsBetweenRuns machine begins (take number events) → ⊥

-- the block began with a step of a process, which is in the midst of its run; no greater process took a step
pub record IsInRun (machine : Machine) (begins : State) (process : ℕ) (events : List Event) : Type 0 where
  pub block : IsInBlock machine begins events
  pub goes_on : run_goes_on machine begins events process ≡ true
  pub within : some_in (is_step_from (suc process)) events ≡ false

-- a block that begins with a step of a process
pub record RunsFillBlocks : Type 0 where
  -- it goes on where that leaves the process ready
  pub begins : (machine : Machine) (begins : State) (process : ℕ) → first_event begins ≡ Some (Step process) → is_ready (step_of machine begins process).next ≡ true →
      IsInRun machine begins process (Step process ∷ [])
  -- else it is over
  pub sole : (machine : Machine) (begins : State) (process : ℕ) → first_event begins ≡ Some (Step process) → is_ready (step_of machine begins process).next ≡ false →
      IsWholeBlock machine begins (Step process ∷ [])
  -- it goes on with whatever other event the first order takes, and with the process's steps that leave it ready
  pub others : (machine : Machine) (begins : State) (process : ℕ) (events : List Event) (event : Event) → IsInRun machine begins process events →
      first_event (happened machine begins events) ≡ Some event → event ≢ Step process → IsInRun machine begins process (events ++ event ∷ [])
  pub steps : (machine : Machine) (begins : State) (process : ℕ) (events : List Event) → IsInRun machine begins process events →
      first_event (happened machine begins events) ≡ Some (Step process) → is_ready (step_of machine (happened machine begins events) process).next ≡ true →
      IsInRun machine begins process (events ++ Step process ∷ [])
  -- and is over with the one that doesn't
  pub ends : (machine : Machine) (begins : State) (process : ℕ) (events : List Event) → IsInRun machine begins process events →
      first_event (happened machine begins events) ≡ Some (Step process) → is_ready (step_of machine (happened machine begins events) process).next ≡ false →
      IsWholeBlock machine begins (events ++ Step process ∷ [])

-- a step of a lane with the node events behind it, until no node has work
abbrev pub LanesFillBlocks : Type 0
LanesFillBlocks =
    (machine : Machine) (begins : State) (process : ℕ) (events : List Event) → AreFirst machine begins (LaneStep process ∷ events) → AllHold IsOfNode events →
    NoNodeWorks (happened machine begins (LaneStep process ∷ events)) → IsWholeBlock machine begins (LaneStep process ∷ events)
