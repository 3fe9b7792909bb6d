-- Which process runs end in a block (phases by IEEE 1364-2001, clause 5; processes by clause 9).
use Rattle.std.specs.Prelude.{◌≡◌, ℕ, false, List, [], ◌∷◌, ◌++◌}
use Rattle.vf_base.specs.Lists.{has}
use Rattle.v_design.specs.Designs.{Machine}
use Rattle.v_design.specs.States.{State, Event, Step, LaneStep}
use Rattle.run_ends.specs.RunEnds.{enders_in}
use Rattle.phase_blocks.specs.Blocks.{IsWholeBlock}

-- a process is the last of some, and stands there once
pub record IsLastOf (process : ℕ) (enders : List ℕ) : Type 0 where
  pub others : List ℕ
  pub are : enders ≡ others ++ process ∷ []
  pub once : has others process ≡ false

pub record EndsOfBlocks : Type 0 where
  -- the process with whose step a block begins is the last whose run ends in it, and no other run of it does
  pub runs : (machine : Machine) (begins : State) (process : ℕ) (events : List Event) → IsWholeBlock machine begins (Step process ∷ events) →
      IsLastOf process (enders_in machine begins (Step process ∷ events))
  -- where a lane's step begins it none ends
  pub lanes : (machine : Machine) (begins : State) (process : ℕ) (events : List Event) → IsWholeBlock machine begins (LaneStep process ∷ events) →
      enders_in machine begins (LaneStep process ∷ events) ≡ []
