-- Places of the good machine's slots among the phases of a window, and what the moments tell there with which blocks begin (slots, phases and events by IEEE 1364-2001, clause 5).
use Rattle.std.specs.Prelude.{◌≡◌, ℕ, ◌+◌, ◌<◌, ◌≤◌, true, false, List, [], ◌∷◌, ◌++◌, length, take, Some, slice_get}
use Rattle.vf_base.specs.Lists.{has}
use Rattle.v_design.specs.Designs.{FlatDesign, TestPlan, Machine, good_machine}
use Rattle.v_design.specs.States.{Event}
use Rattle.v_design.specs.Runs.{FirstSlot}
use Rattle.v_design.specs.Grades.{Phase, phases}
use Rattle.copy_laws.specs.Beside.{AreFirst}
use Rattle.copy_laws.specs.Windows.{good_slots}
use Rattle.between_slots.specs.Between.{window_phases}
use Rattle.trace_window.specs.Moments.{window_events}
use Rattle.phase_blocks.specs.Blocks.{IsBetweenRuns, IsWholeBlock}
use Rattle.window_blocks.specs.Blocks.{events_in, AreBlockMoments, ArePhaseEnds}
use Rattle.lockstep_slots.specs.Places.{Place, state_there, first_place, behind_events, next_phase}

-- a place of a slot is in the phase before which so many of some phases come, and its next event has a moment, where the events of all phases are numbered through; then come the later phases of the slot,
-- and others
pub record IsPlaceIn (phases : List Phase) (number moment : ℕ) (place : Place) : Type 0 where
  pub before : List Phase
  pub others : List Phase
  pub phases_are : phases ≡ before ++ place.phase ∷ (place.later ++ others)
  pub number_is : number ≡ length before
  pub moment_is : moment ≡ events_in before + length place.passed
  pub events_are : place.phase.events ≡ place.passed ++ place.left

-- The laws

pub record PlacesTold : Type 0 where
  -- a slot of a window begins behind the phases and the events of those before it
  pub begins : (design : FlatDesign) (plan : TestPlan) (begins ends number : ℕ) (slot : FirstSlot) (phase : Phase) (later : List Phase) → begins ≤ number → number < ends →
      slice_get (good_slots design plan) number ≡ Some slot → phases (good_machine design) slot ≡ phase ∷ later →
      IsPlaceIn (window_phases design plan begins ends) (length (window_phases design plan begins number)) (length (window_events design plan begins number)) (first_place phase later)
  -- each event is one moment
  pub goes_on : (phases : List Phase) (number moment : ℕ) (place : Place) (events more : List Event) → IsPlaceIn phases number moment place → place.left ≡ events ++ more →
      IsPlaceIn phases number (moment + length events) (behind_events events more place)
  -- a turn is none, and leads to the next phase
  pub turns : (phases : List Phase) (number moment : ℕ) (place : Place) (next : Phase) (later : List Phase) → IsPlaceIn phases number moment place → place.left ≡ [] → place.later ≡ next ∷ later →
      IsPlaceIn phases (number + 1) moment (next_phase next later place)
  -- the phase is one of them, and its end is told
  pub within : (phases : List Phase) (number moment : ℕ) (place : Place) → IsPlaceIn phases number moment place → number < length phases
  pub ends : (phases : List Phase) (number moment : ℕ) (place : Place) (told : List ℕ) (end : ℕ) → IsPlaceIn phases number moment place → ArePhaseEnds phases told →
      slice_get told number ≡ Some end → end ≡ moment + length place.left
  -- where a block begins with a later event of the phase, it is between runs before it
  pub between : (machine : Machine) (phases : List Phase) (number moment : ℕ) (place : Place) (moments : List ℕ) (count : ℕ) → IsPlaceIn phases number moment place →
      AreBlockMoments machine phases moments → has moments (moment + count) ≡ true → count < length place.left →
      IsBetweenRuns machine place.phase.begins (place.passed ++ take count place.left)
  -- from a moment between runs to the next such moment, where no block begins between, the events are a block
  pub whole : (machine : Machine) (phases : List Phase) (number moment : ℕ) (place : Place) (moments : List ℕ) (count : ℕ) → IsPlaceIn phases number moment place →
      AreBlockMoments machine phases moments → AreFirst machine place.phase.begins place.phase.events → IsBetweenRuns machine place.phase.begins place.passed → 0 < count →
      count ≤ length place.left → IsBetweenRuns machine place.phase.begins (place.passed ++ take count place.left) →
      ((other : ℕ) → moment < other → other < moment + count → has moments other ≡ false) → IsWholeBlock machine (state_there machine place) (take count place.left)
