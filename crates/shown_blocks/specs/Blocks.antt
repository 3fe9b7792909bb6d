-- The next block at a place that is shown, by what a window's tables tell (blocks and phases by IEEE 1364-2001, clause 5).
use Rattle.std.specs.Prelude.{◌≡◌, ℕ, ◌+◌, ◌<◌, true, List, ◌∷◌, ◌++◌, length, get_or}
use Rattle.vf_base.specs.Lists.{has}
use Rattle.v_design.specs.Designs.{FlatDesign, Machine, TestPlan, good_machine}
use Rattle.v_design.specs.States.{Event}
use Rattle.copy_laws.specs.Beside.{AreFirst}
use Rattle.causal_monitor.specs.declared.slot.Actor.{Actor}
use Rattle.between_slots.specs.Between.{window_phases}
use Rattle.slot_record.specs.Records.{event_of}
use Rattle.phase_blocks.specs.Blocks.{IsBetweenRuns, IsWholeBlock}
use Rattle.window_blocks.specs.Kept.{BlocksKept, AreBlocksOf}
use Rattle.moment_laws.specs.lockstep_slots.Places.{Place, state_there}
use Rattle.shown_blocks.specs.Ahead.{IsAhead}
use Rattle.moment_laws.specs.Places.{IsShownAt}
use Rattle.moment_laws.specs.Shown.{MomentKept}

-- the block at a place: the events up to its end, and those behind it in the phase
pub record BlockAt (machine : Machine) (place : Place) (block rest : List Event) : Type 0 where
  pub parts : place.left ≡ block ++ rest
  pub first : AreFirst machine place.phase.begins place.phase.events
  pub between : IsBetweenRuns machine place.phase.begins place.passed
  pub ends : IsBetweenRuns machine place.phase.begins (place.passed ++ block)
  pub whole : IsWholeBlock machine (state_there machine place) block

-- blocks are those of the window of a state that is shown
pub record AreItsBlocks (design : FlatDesign) (plan : TestPlan) (kept : MomentKept) (blocks : BlocksKept) : Type 0 where
  pub before_is : blocks.before ≡ kept.before
  pub through_is : blocks.through ≡ kept.through
  pub are : AreBlocksOf design plan blocks

-- the tables have the moment with which a block begins, and the end of its phase
pub record IsBlockTold (kept : MomentKept) (blocks : BlocksKept) : Type 0 where
  pub begins : has blocks.moments kept.moment ≡ true
  pub phase : kept.phase < length blocks.ends
  pub within : kept.moment < get_or blocks.ends kept.phase 0

-- the block ends at a moment, and this acts in its first event
pub record HasBlockTo (machine : Machine) (place : Place) (moment end : ℕ) (actor : Actor) : Type 0 where
  pub block : List Event
  pub rest : List Event
  pub at : BlockAt machine place block rest
  pub end_is : end ≡ moment + length block
  pub more : List Event
  pub begins : block ≡ event_of actor ∷ more

pub record BlocksAreAhead : Type 0 where
  -- where events of the phase are left, a block begins
  pub told : (design : FlatDesign) (plan : TestPlan) (place : Place) (kept : MomentKept) (blocks : BlocksKept) → IsShownAt design plan place kept → 0 < length place.left →
      AreItsBlocks design plan kept blocks → IsBlockTold kept blocks
  -- and the tables tell where it ends
  pub there : (design : FlatDesign) (plan : TestPlan) (place : Place) (kept : MomentKept) (blocks : BlocksKept) (end : ℕ) (actor : Actor) → IsShownAt design plan place kept →
      AreItsBlocks design plan kept blocks →
      IsAhead (window_phases design plan blocks.before blocks.through) blocks.moments (get_or blocks.ends kept.phase 0) kept.moment end actor →
      HasBlockTo (good_machine design) place kept.moment end actor
