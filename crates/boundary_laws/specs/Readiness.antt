-- Which processes are ready, and which lanes have updates, at a moment between runs of a phase: told by the blocks that come behind it in the phase (events and phases by IEEE 1364-2001, clause 5).
use Rattle.std.specs.Prelude.{◌≡◌, ◌↔◌, ℕ, true, false, List, ◌∷◌, ◌++◌, length, count_by}
use Rattle.v_design.specs.Designs.{Machine}
use Rattle.v_design.specs.States.{State, Event, Step, process_at, is_ready}
use Rattle.v_design.specs.Runs.{happened}
use Rattle.v_design.specs.PhaseLogs.{is_lane_of}
use Rattle.copy_laws.specs.Beside.{AreFirst}
use Rattle.machine_laws.specs.SlotLoop.{IsIdle}
use Rattle.phase_blocks.specs.Blocks.{IsBetweenRuns, begins_block}
use Rattle.block_changes.specs.Changes.{ends_wait_of}

-- a block of a process begins behind some events of a phase, and nothing between ends its wait
pub record BeginsOwnBlock (machine : Machine) (begins : State) (before behind : List Event) (process : ℕ) : Type 0 where
  pub earlier : List Event
  pub later : List Event
  pub parts : behind ≡ earlier ++ Step process ∷ later
  pub begins_there : begins_block (before ++ earlier) (Step process) ≡ true
  pub not_woken : ends_wait_of machine (happened machine begins before) earlier process ≡ false

-- The laws

-- between runs a process is ready just where a block of its own comes in the phase before which nothing ends its wait: no process that is ready there steps within a block of another
abbrev pub ReadyBeginBlocks : Type 0
ReadyBeginBlocks =
    (machine : Machine) (begins : State) (before behind : List Event) (process : ℕ) → AreFirst machine begins (before ++ behind) → IsBetweenRuns machine begins before →
    IsIdle (happened machine begins (before ++ behind)) →
    (is_ready (process_at (happened machine begins before) process).activity ≡ true) ↔ BeginsOwnBlock machine begins before behind process

-- a lane has as many updates as it takes steps until no event is possible
abbrev pub LanesAreTaken : Type 0
LanesAreTaken =
    (machine : Machine) (state : State) (events : List Event) (process : ℕ) → AreFirst machine state events → IsIdle (happened machine state events) →
    length (process_at state process).lane ≡ count_by (is_lane_of process) events
