-- The place of a slot at which a state is shown (slots and phases by IEEE 1364-2001, clause 5).
use Rattle.std.specs.Prelude.{◌≡◌, ℕ, ◌+◌, ◌<◌, false, List, ◌∷◌, length, get_or, map, Some, slice_get}
use Rattle.vf_base.specs.Lists.{joined}
use Rattle.v_design.specs.Designs.{FlatDesign, Machine, TestPlan, good_machine}
use Rattle.v_design.specs.Runs.{FirstSlot, is_hyper}
use Rattle.v_design.specs.Grades.{Phase, phases}
use Rattle.v_design.specs.Laws.{BeginsPhase}
use Rattle.v_design.specs.OwnSteps.{steps_in, runs_of}
use Rattle.v_design.specs.WellFormed.{KeepsRules}
use Rattle.machine_laws.specs.SlotLoop.{slot_from}
use Rattle.copy_laws.specs.Windows.{good_slots}
use Rattle.run_ends.specs.RunEnds.{enders_in}
use Rattle.between_slots.specs.Between.{window_phases}
use Rattle.trace_window.specs.Moments.{window_events}
use Rattle.phase_blocks.specs.Blocks.{IsBetweenRuns}
use Rattle.lockstep_slots.specs.Places.{Place, IsPlaceOf, state_there, first_place}
use Rattle.lockstep_places.specs.Places.{IsPlaceIn}
use Rattle.window_places.specs.Passing.{events_before}
use Rattle.window_places.specs.Windows.{IsAtMoment}
use Rattle.moment_laws.specs.Shown.{MomentKept, ShowsState}

-- a slot of the first order that begins as the laws ask, and isn't hyperactive
pub record IsSlotInOrder (machine : Machine) (slot : FirstSlot) : Type 0 where
  pub rules : KeepsRules machine.design
  pub is : slot ≡ slot_from machine slot.begins
  pub asked : BeginsPhase machine slot.begins
  pub few_steps : is_hyper slot ≡ false

-- how many runs of processes end in the slot before a place
abbrev pub runs_before : Machine → Place → ℕ
runs_before machine place =
    length (joined (map (λ (phase : Phase). enders_in machine phase.begins phase.events) place.ended)) + length (enders_in machine place.phase.begins place.passed)

-- as many runs as are told have ended in the slot before a place, and of each process in its phase
pub record CountsRuns (design : FlatDesign) (place : Place) (kept : MomentKept) : Type 0 where
  pub runs : kept.runs ≡ runs_before (good_machine design) place
  pub ran : (process : ℕ) → process < length design.processes → get_or kept.ran process 0 ≡ length (runs_of (steps_in (good_machine design) process place.phase.begins place.passed))

-- the state at a place of a slot of a window is shown, which comes between two blocks
pub record IsShownAt (design : FlatDesign) (plan : TestPlan) (place : Place) (kept : MomentKept) : Type 0 where
  pub slot : FirstSlot
  pub within : kept.before + kept.slot < kept.through
  pub stands : slice_get (good_slots design plan) (kept.before + kept.slot) ≡ Some slot
  pub in_order : IsSlotInOrder (good_machine design) slot
  pub place_is : IsPlaceOf (good_machine design) slot place
  pub in_window : IsPlaceIn (window_phases design plan kept.before kept.through) kept.phase kept.moment place
  pub at_moment : IsAtMoment design plan kept.before kept.through kept.moment place
  -- in the slot
  pub phase_is : kept.phase ≡ length (window_phases design plan kept.before (kept.before + kept.slot)) + length place.ended
  pub moment_is : kept.moment ≡ length (window_events design plan kept.before (kept.before + kept.slot)) + events_before place
  pub between : IsBetweenRuns (good_machine design) place.phase.begins place.passed
  pub process_count : length place.phase.begins.processes ≡ length design.processes
  pub shows : ShowsState design (state_there (good_machine design) place) kept
  pub counts : CountsRuns design place kept

-- the window is one of slots from a number to before another
pub record IsInWindow (before through : ℕ) (kept : MomentKept) : Type 0 where
  pub before_is : kept.before ≡ before
  pub through_is : kept.through ≡ through

-- the state is shown in which the slot of a number of a window begins
pub record IsAtSlot (design : FlatDesign) (plan : TestPlan) (before through number : ℕ) (kept : MomentKept) : Type 0 where
  pub window : IsInWindow before through kept
  pub number_is : kept.slot ≡ number
  pub phase_is : kept.phase ≡ length (window_phases design plan before (before + number))
  pub moment_is : kept.moment ≡ length (window_events design plan before (before + number))
  pub slot : FirstSlot
  pub stands : slice_get (good_slots design plan) (before + number) ≡ Some slot
  pub first : Phase
  pub later : List Phase
  pub phases_are : phases (good_machine design) slot ≡ first ∷ later
  pub shown : IsShownAt design plan (first_place first later) kept
