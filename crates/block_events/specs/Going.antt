-- A runner in the midst of a block (IEEE 1364-2001, clause 5).
use Rattle.std.specs.Prelude.{◌≡◌, ◌≤◌, ◌<◌, ◌+◌, ◌-◌, ◌^◌, ◌++◌, ◌∷◌, ℕ, Bool, true, false, List, [], length, take, map}
use Rattle.vf_base.specs.Base.{process_number}
use Rattle.vf_base.specs.Lists.{AllHold, has}
use Rattle.v_design.specs.Designs.{Machine}
use Rattle.v_design.specs.States.{State, Event, Step, LaneStep, Evaluation, NetUpdate, next_activity, process_at, step_of, is_ready, is_process_event}
use Rattle.v_design.specs.Runs.{happened}
use Rattle.machine_laws.specs.SlotLoop.{NoNodeWorks}
use Rattle.copy_laws.specs.Beside.{AreFirst}
use Rattle.process_code.specs.Points.{activity_of}
use Rattle.process_code.specs.RunEnds.{act_by, act_of}
use Rattle.process_code.specs.StatesOf.{IsStateOf}
use Rattle.process_code.specs.declared.code.Code.{Code}
use Rattle.run_ends.specs.RunEnds.{IsCodeAt}
use Rattle.block_events.specs.declared.events.TakenStep.{TakenStep}
use Rattle.block_events.specs.declared.runner.Runner.{Runner}
use Rattle.block_told.specs.declared.told.BlockTold.{BlockTold}
use Rattle.block_events.specs.Runners.{machine_of, state_of, IsWhole}
use Rattle.block_told.specs.Running.{running_of, is_innermost, runs_after}
use Rattle.block_told.specs.Tells.{TellsBlock}

-- the events of the work on a node
abbrev pub node_events : ℕ → List Event
node_events node = Evaluation node ∷ NetUpdate node ∷ []

-- where some events of a block are told, so are they with some more, from the state behind them on
abbrev pub TellsMore : Machine → State → List Event → BlockTold → BlockTold → Type 0
TellsMore machine state more old new =
    (begins : State) (events : List Event) → happened machine begins events ≡ state → TellsBlock machine begins events old → TellsBlock machine begins (events ++ more) new

-- a runner took some events of the first order, and is in the state behind them
pub record TakesEvents (events : List Event) (old new : Runner) : Type 0 where
  pub in_order : AreFirst (machine_of old) (state_of old) events
  pub whole : IsWhole new
  pub machine_is : machine_of new ≡ machine_of old
  pub state_is : state_of new ≡ happened (machine_of old) (state_of old) events

-- work on nodes: before each of the events some node has work
pub record WorksOn (events : List Event) (old new : Runner) (told_old told_new : BlockTold) : Type 0 where
  pub takes : TakesEvents events old new
  pub of_nodes : AllHold (λ event. is_process_event event ≡ false) events
  pub busy : (count : ℕ) → count < length events → NoNodeWorks (happened (machine_of old) (state_of old) (take count events)) → ⊥
  pub running : running_of new.running.items ≡ running_of old.running.items
  pub stepped : told_new.stepped.items ≡ told_old.stepped.items
  pub steps : told_new.steps ≡ told_old.steps
  pub tells : TellsMore (machine_of old) (state_of old) events told_old told_new

-- work on nodes until none has work, or as long as may be counted
pub record Settles (quiet : Bool) (old new : Runner) (told_old told_new : BlockTold) : Type 0 where
  pub events : List Event
  pub works : WorksOn events old new told_old told_new
  pub rests : quiet ≡ true → NoNodeWorks (state_of new)
  pub many : quiet ≡ false → 2 ^ 64 - 1 ≤ length events

-- a step of a process: it begins a run, or is one of the innermost run, whose process is told already
pub record StepsOn (process : ℕ) (old new : Runner) (told_old told_new : BlockTold) : Type 0 where
  pub takes : TakesEvents (Step process ∷ []) old new
  pub running : running_of new.running.items ≡ runs_after process (is_ready (process_at (state_of new) process).activity) (running_of old.running.items)
  pub stepped : (other : ℕ) → has (map process_number told_old.stepped.items) other ≡ true → has (map process_number told_new.stepped.items) other ≡ true
  pub begun : is_innermost (running_of old.running.items) process ≡ false → has (map process_number told_new.stepped.items) process ≡ true
  pub count : told_new.steps ≡ told_old.steps + 1
  pub tells : (is_innermost (running_of old.running.items) process ≡ true → has (map process_number told_old.stepped.items) process ≡ true) →
      TellsMore (machine_of old) (state_of old) (Step process ∷ []) told_old told_new

-- the step that a process takes next in a state, as it was taken: its line, what it did, and where the process stands behind it
pub record IsTakenStep (machine : Machine) (state : State) (process : ℕ) (taken : TakenStep) : Type 0 where
  pub line : taken.line ≡ (step_of machine state process).line
  pub act : act_by taken.act ≡ act_of state.time (step_of machine state process).action
  pub stands : (code : Code) → IsCodeAt machine.design process code → IsStateOf code taken.state
  pub does : (code : Code) → IsCodeAt machine.design process code →
      activity_of code taken.state ≡ next_activity state.values (step_of machine state process).action (step_of machine state process).next

-- a step of a lane, the first event of a block
pub record LaneStepsOn (process : ℕ) (old new : Runner) (told : BlockTold) : Type 0 where
  pub takes : TakesEvents (LaneStep process ∷ []) old new
  pub tells : TellsBlock (machine_of old) (state_of old) (LaneStep process ∷ []) told
