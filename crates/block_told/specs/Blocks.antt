-- Blocks: stretches of the first order from one moment between runs to the next (IEEE 1364-2001, clause 5).
use Rattle.std.specs.Prelude.{◌≡◌, ◌<◌, ℕ, Bool, true, false, cond, List, [], ◌∷◌, length, take, nat_eq}
use Rattle.vf_base.specs.Lists.{AllHold}
use Rattle.v_design.specs.Designs.{Machine}
use Rattle.v_design.specs.States.{State, Event, Step, LaneStep, Evaluation, NetUpdate, after, process_at, is_ready, is_process_event}
use Rattle.v_design.specs.Runs.{happened}
use Rattle.machine_laws.specs.SlotLoop.{NoNodeWorks}
use Rattle.copy_laws.specs.Beside.{AreFirst}
use Rattle.block_causes.specs.Caused.{IsFollowing}

-- whether a process is in the midst of a run behind an event, if it was or wasn't before it: a step of the process leaves it so where it leaves it ready
abbrev pub in_run_after : Machine → State → Event → ℕ → Bool → Bool
in_run_after machine state (Step number) process before = cond (nat_eq process number) (is_ready (process_at (after machine state (Step number)) process).activity) before
in_run_after machine state (LaneStep number) process before = before
in_run_after machine state (Evaluation node) process before = before
in_run_after machine state (NetUpdate node) process before = before

abbrev pub in_run_from : Machine → State → List Event → ℕ → Bool → Bool
in_run_from machine state [] process before = before
in_run_from machine state (event ∷ events) process before = in_run_from machine (after machine state event) events process (in_run_after machine state event process before)

-- whether a process is in the midst of a run behind some events from a moment between runs on: its latest step among them left it ready
abbrev pub in_run : Machine → State → List Event → ℕ → Bool
in_run machine state events process = in_run_from machine state events process false

-- a moment between runs: no node has work, and no process is in the midst of a run
pub record IsBetweenRuns (machine : Machine) (state : State) (events : List Event) : Type 0 where
  pub nodes : NoNodeWorks (happened machine state events)
  pub runs : (process : ℕ) → in_run machine state events process ≡ false

-- a block that a process event begins: events of the first order, each of which follows the first one, to the first moment between runs
pub record IsBlock (machine : Machine) (state : State) (first : Event) (rest : List Event) : Type 0 where
  pub in_order : AreFirst machine state (first ∷ rest)
  pub begins : is_process_event first ≡ true
  pub follows : AllHold (IsFollowing state first) rest
  pub ends : IsBetweenRuns machine state (first ∷ rest)
  pub no_sooner : (count : ℕ) → 0 < count → count < length (first ∷ rest) → IsBetweenRuns machine state (take count (first ∷ rest)) → ⊥

-- some events are a block
pub record AreBlock (machine : Machine) (state : State) (events : List Event) : Type 0 where
  pub first : Event
  pub rest : List Event
  pub are : events ≡ first ∷ rest
  pub block : IsBlock machine state first rest
