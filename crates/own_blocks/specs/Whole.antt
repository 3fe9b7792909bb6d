-- A block by the steps of its processes is one by their runs (blocks of the first order of IEEE 1364-2001, clause 5).
use Rattle.std.specs.Prelude.{◌≡◌, ℕ, List}
use Rattle.v_design.specs.Designs.{Machine}
use Rattle.v_design.specs.States.{State, Event}
use Rattle.block_told.specs.Blocks.{in_run, AreBlock}
use Rattle.phase_blocks.specs.Blocks.{run_goes_on, IsWholeBlock}

-- The laws

pub record RunBlocksAreWhole : Type 0 where
  -- a process is in the midst of a run by the step that it took last just where it is by its runs
  pub runs : (machine : Machine) (begins : State) (events : List Event) (process : ℕ) → in_run machine begins events process ≡ run_goes_on machine begins events process
  -- so what is told to be a block is one
  pub blocks : (machine : Machine) (begins : State) (events : List Event) → AreBlock machine begins events → IsWholeBlock machine begins events
