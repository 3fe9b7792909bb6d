-- How a state that is shown is moved on: over a block, and over a turn within a slot (blocks, phases and turns by IEEE 1364-2001, clause 5).
use Rattle.std.specs.Prelude.{◌≡◌, ℕ, ◌+◌, ◌<◌, ◌||◌, true, List, [], ◌++◌, length}
use Rattle.std.specs.List.{All, list_any}
use Rattle.vf_base.specs.Lists.{has}
use Rattle.v_design.specs.Designs.{FlatDesign, TestPlan, good_machine}
use Rattle.v_design.specs.States.{Event}
use Rattle.v_design.specs.Runs.{happened}
use Rattle.v_design.specs.Grades.{Phase}
use Rattle.copy_laws.specs.Moves.{ChangesOnly}
use Rattle.trace_window.specs.Moments.{seen_from}
use Rattle.trace_window.specs.Touched.{event_writes}
use Rattle.phase_blocks.specs.Blocks.{IsWholeBlock}
use Rattle.block_changes.specs.Changes.{ends_wait_of, steps_process, steps_lane}
use Rattle.lockstep_slots.specs.Places.{Place, state_there, behind_events, next_phase}
use Rattle.moment_laws.specs.Shown.{MomentKept, is_lane, parts_told}
use Rattle.moment_laws.specs.Places.{IsShownAt}

-- it stays in the slot and the phase
pub record SameSlot (old new : MomentKept) : Type 0 where
  pub before : new.before ≡ old.before
  pub through : new.through ≡ old.through
  pub slot : new.slot ≡ old.slot

-- a place has a block before it that can be passed
pub record HasBlock (design : FlatDesign) (plan : TestPlan) (kept : MomentKept) : Type 0 where
  pub place : Place
  pub shown : IsShownAt design plan place kept
  pub some : 0 < length place.left

-- what is told of a block that was passed: just the objects that it wrote, the processes that it stepped or whose waits it ended, and whose lane it stepped; nothing else has changed
pub record TellsPassed (design : FlatDesign) (place : Place) (block : List Event) (new : MomentKept) : Type 0 where
  pub changed : (object : ℕ) →
      has new.changed object ≡ list_any (event_writes (good_machine design) object) (seen_from (good_machine design) (state_there (good_machine design) place) block)
  pub acted : (process : ℕ) →
      has new.acted process ≡ (steps_process block process || ends_wait_of (good_machine design) (state_there (good_machine design) place) block process)
  pub lane : (process : ℕ) → is_lane new.lane process ≡ steps_lane block process
  pub processes_there : All (λ process. process < length new.states) new.acted
  pub lane_there : (process : ℕ) → is_lane new.lane process ≡ true → process < length new.states
  pub changes_only : ChangesOnly (parts_told new) (state_there (good_machine design) place) (happened (good_machine design) (state_there (good_machine design) place) block)

-- the next block was passed
pub record PassesBlock (design : FlatDesign) (plan : TestPlan) (place : Place) (old new : MomentKept) : Type 0 where
  pub block : List Event
  pub rest : List Event
  pub parts : place.left ≡ block ++ rest
  pub whole : IsWholeBlock (good_machine design) (state_there (good_machine design) place) block
  pub shown : IsShownAt design plan (behind_events block rest place) new
  pub moment : new.moment ≡ old.moment + length block
  pub phase : new.phase ≡ old.phase
  pub stays : SameSlot old new
  pub told : TellsPassed design place block new

-- a phase has ended, and another one of the slot comes
pub record HasTurn (design : FlatDesign) (plan : TestPlan) (kept : MomentKept) : Type 0 where
  pub place : Place
  pub shown : IsShownAt design plan place kept
  pub ended : place.left ≡ []
  pub more : 0 < length place.later

-- the turn to the next phase was taken
pub record TakesTurn (design : FlatDesign) (plan : TestPlan) (place : Place) (next : Phase) (later : List Phase) (old new : MomentKept) : Type 0 where
  pub shown : IsShownAt design plan (next_phase next later place) new
  pub moment : new.moment ≡ old.moment
  pub phase : new.phase ≡ old.phase + 1
  pub stays : SameSlot old new
