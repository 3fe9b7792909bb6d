-- Accesses of the good machine's block that are told by a window and by the state behind the block (accesses and waits by IEEE 1364-2001, clauses 5 and 9.7).
use Rattle.std.specs.Prelude.{◌≡◌, ◌+◌, ℕ, Bool, false, List, ◌++◌, length}
use Rattle.v_design.specs.Trees.{Entry}
use Rattle.v_design.specs.Designs.{FlatDesign, TestPlan, good_machine}
use Rattle.v_design.specs.States.{State, Event, process_at}
use Rattle.v_design.specs.Runs.{happened}
use Rattle.v_design.specs.Accesses.{ObjectAccess, waiting_entries}
use Rattle.v_design.specs.PhaseLogs.{log_of}
use Rattle.copy_laws.specs.Filter.{IsIn}
use Rattle.trace_window.specs.Moments.{Seen as SeenEvent}
use Rattle.trace_window.specs.Acted.{stepped_at}
use Rattle.block_filter.specs.Blocks.{all_accesses}
use Rattle.block_changes.specs.Changes.{steps_lane}
use Rattle.block_told.specs.Tells.{Seen}
use Rattle.window_tests.specs.Between.{SomeMoment}
use Rattle.window_tests.specs.lockstep_slots.Places.{Place, state_there}
use Rattle.window_tests.specs.window_places.Windows.{IsAtMoment}

-- some access does the same to the same object
pub record LikeSeen (ones : List ObjectAccess) (seen : Seen) : Type 0 where
  pub one : ObjectAccess
  pub is_in : IsIn one ones
  pub object_is : one.object ≡ seen.object
  pub act_is : one.act ≡ seen.act

-- a block of the good machine, between two moments of a window, behind which a state is shown; it is one of a lane, or no lane takes a step in it
pub record IsBlockBetween (design : FlatDesign) (plan : TestPlan) (begins ends first end : ℕ) (lane : Bool) (shows : State → Type 0) (place : Place) (ones more : List Event) : Type 0 where
  pub at : IsAtMoment design plan begins ends first place
  pub left : place.left ≡ ones ++ more
  pub end_is : end ≡ first + length ones
  pub shown : shows (happened (good_machine design) (state_there (good_machine design) place) ones)
  pub no_lane : lane ≡ false → (process : ℕ) → steps_lane ones process ≡ false

-- whatever block of the good machine's it is, if the state that is shown is one of the design's, it has the like of an access
abbrev pub HasLikeBetween : FlatDesign → TestPlan → ℕ → ℕ → ℕ → ℕ → Bool → FlatDesign → (State → Type 0) → Seen → Type 0
HasLikeBetween design plan begins ends first end lane shown shows seen =
    (place : Place) (ones more : List Event) → shown ≡ design → IsBlockBetween design plan begins ends first end lane shows place ones more →
    LikeSeen (all_accesses (log_of (good_machine design) (state_there (good_machine design) place) ones)) seen

-- between two moments a process or its lane takes a step, and in the state that is shown the process waits on an entry
pub record IsWaiting (design : FlatDesign) (events : List SeenEvent) (first end : ℕ) (shown : FlatDesign) (shows : State → Type 0) (process : ℕ) (entry : Entry) : Type 0 where
  pub stepped : SomeMoment (stepped_at events process) first end
  pub waits : shown ≡ design → (state : State) → shows state → IsIn entry (waiting_entries (process_at state process).activity)
