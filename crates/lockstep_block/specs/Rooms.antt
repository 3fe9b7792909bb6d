-- Room for faults in lockstep: one runner, and the good machine's state before a block and behind it (slots and blocks by IEEE 1364-2001, clause 5).
use Rattle.std.specs.Prelude.{◌≡◌, ◌++◌, ℕ, List}
use Rattle.v_design.specs.Designs.{FlatDesign, TestPlan, good_machine}
use Rattle.v_design.specs.Laws.{BeginsPhase}
use Rattle.v_design.specs.States.{Event}
use Rattle.phase_blocks.specs.Blocks.{IsWholeBlock}
use Rattle.faulty_block.specs.block_events.declared.runner.Runner.{Runner}
use Rattle.faulty_block.specs.block_events.Runners.{IsWhole, machine_of, state_of}
use Rattle.good_moment.specs.moment_laws.Passing.{SameSlot, TellsPassed}
use Rattle.good_moment.specs.moment_laws.Places.{IsShownAt}
use Rattle.good_moment.specs.moment_laws.Shown.{MomentKept}
use Rattle.good_moment.specs.moment_laws.Shown as moments
use Rattle.faulty_block.specs.lockstep_room.declared.counts.Counts.{Counts}
use Rattle.faulty_block.specs.lockstep_room.Rooms.{AreCounts}
use Rattle.lockstep_steps.specs.lockstep_slots.Places.{Place, state_there, behind_events}
use Rattle.moments_stand.specs.Standing.{AllMayStand}

-- between two slots a room may stand anywhere: its runner and its moments are whole, and of the design
pub record IsLockstepRoom (design : FlatDesign) (runner : Runner) (before behind : MomentKept) (counts : Counts) : Type 0 where
  pub whole : IsWhole runner
  pub design_is : machine_of runner ≡ good_machine design
  pub before_is : moments.IsWhole design before
  pub behind_is : moments.IsWhole design behind
  pub counts_are : AreCounts design counts

-- at a place of a phase that began as the laws ask the runner is the good machine in its state there, in which each process may stand where it does
pub record IsRunnerAt (design : FlatDesign) (place : Place) (runner : Runner) : Type 0 where
  pub whole : IsWhole runner
  pub machine_is : machine_of runner ≡ good_machine design
  pub state_is : state_of runner ≡ state_there (good_machine design) place
  pub asked : BeginsPhase (good_machine design) place.phase.begins
  pub may : AllMayStand design (state_there (good_machine design) place)

-- a moment shows a place at a time, which comes in a phase that began as the laws ask, and in which each process may stand where it does
pub record MayStandThere (design : FlatDesign) (plan : TestPlan) (time : ℕ) (good : MomentKept) : Type 0 where
  pub place : Place
  pub shown : IsShownAt design plan place good
  pub asked : BeginsPhase (good_machine design) place.phase.begins
  pub time_is : (state_there (good_machine design) place).time ≡ time
  pub may : AllMayStand design (state_there (good_machine design) place)

-- a room is at a place: the runner, and both moments
pub record IsRoomAt (design : FlatDesign) (plan : TestPlan) (place : Place) (runner : Runner) (before behind : MomentKept) : Type 0 where
  pub runs : IsRunnerAt design place runner
  pub before_at : IsShownAt design plan place before
  pub behind_at : IsShownAt design plan place behind
  pub same : SameSlot before behind

-- the later moment is a block behind, and tells it
pub record IsBesideBlock (design : FlatDesign) (plan : TestPlan) (place : Place) (block rest : List Event) (runner : Runner) (before behind : MomentKept) : Type 0 where
  pub runs : IsRunnerAt design place runner
  pub before_at : IsShownAt design plan place before
  pub parts : place.left ≡ block ++ rest
  pub whole : IsWholeBlock (good_machine design) (state_there (good_machine design) place) block
  pub behind_at : IsShownAt design plan (behind_events block rest place) behind
  pub told : TellsPassed design place block behind
  pub same : SameSlot before behind

-- the runner may follow over the block that a moment tells
pub record CanFollow (design : FlatDesign) (plan : TestPlan) (runner : Runner) (behind : MomentKept) : Type 0 where
  pub place : Place
  pub block : List Event
  pub rest : List Event
  pub before : MomentKept
  pub beside : IsBesideBlock design plan place block rest runner before behind
