-- With which events of a slot blocks begin, by the moments of its window (slots and phases by IEEE 1364-2001, clause 5).
use Rattle.std.specs.Prelude.{◌≡◌, ℕ, ◌+◌, ◌<◌, ◌≤◌, ◌++◌, length, take, Some, slice_get}
use Rattle.v_design.specs.Designs.{FlatDesign, TestPlan, good_machine}
use Rattle.v_design.specs.Runs.{FirstSlot}
use Rattle.copy_laws.specs.Windows.{good_slots}
use Rattle.between_slots.specs.Between.{window_phases}
use Rattle.phase_blocks.specs.Blocks.{IsBetweenRuns}
use Rattle.trace_window.specs.Moments.{window_events}
use Rattle.window_blocks.specs.Blocks.{BlockBeginsIn}
use Rattle.lockstep_slots.specs.Places.{Place, IsPlaceOf}
use Rattle.window_places.specs.Passing.{events_before}

-- a place of a slot of a window, and the moment of the event that comes so many events behind it in the phase
pub record IsPlaceIn (design : FlatDesign) (plan : TestPlan) (begins ends number : ℕ) (slot : FirstSlot) (place : Place) (more : ℕ) : Type 0 where
  pub low : begins ≤ number
  pub high : number < ends
  pub stands : slice_get (good_slots design plan) number ≡ Some slot
  pub place_is : IsPlaceOf (good_machine design) slot place
  pub within : more < length place.left

abbrev pub moment_of : FlatDesign → TestPlan → ℕ → ℕ → Place → ℕ → ℕ
moment_of design plan begins number place more = length (window_events design plan begins number) + events_before place + more

-- a block begins with the event of that moment just where it comes between runs
pub record BlocksAtPlaces : Type 0 where
  pub between : (design : FlatDesign) (plan : TestPlan) (begins ends number : ℕ) (slot : FirstSlot) (place : Place) (more : ℕ) → IsPlaceIn design plan begins ends number slot place more →
      BlockBeginsIn (good_machine design) 0 (window_phases design plan begins ends) (moment_of design plan begins number place more) →
      IsBetweenRuns (good_machine design) place.phase.begins (place.passed ++ take more place.left)
  pub begins : (design : FlatDesign) (plan : TestPlan) (begins ends number : ℕ) (slot : FirstSlot) (place : Place) (more : ℕ) → IsPlaceIn design plan begins ends number slot place more →
      IsBetweenRuns (good_machine design) place.phase.begins (place.passed ++ take more place.left) →
      BlockBeginsIn (good_machine design) 0 (window_phases design plan begins ends) (moment_of design plan begins number place more)
