-- From one place of a slot to any later one at once, over phases and turns, where the tables leave alone what is kept (phases and turns by IEEE 1364-2001, clauses 5.3 and 5.4).
use Rattle.std.specs.Prelude.{◌≡◌, ◌⊎◌, ℕ, ◌+◌, ◌<◌, ◌≤◌, false, List, [], length, sum_by, Some}
use Rattle.v_design.specs.Designs.{FlatDesign, StuckAt, TestPlan, good_machine}
use Rattle.v_design.specs.States.{State, is_due, some_in}
use Rattle.v_design.specs.Runs.{FirstSlot}
use Rattle.v_design.specs.Grades.{Phase}
use Rattle.machine_laws.specs.SlotLoop.{Moment}
use Rattle.block_filter.specs.Blocks.{BlockPair}
use Rattle.phase_blocks.specs.Blocks.{IsBetweenRuns}
use Rattle.trace_window.specs.Moments.{window_events}
use Rattle.lockstep_index.specs.Writes.{OwnWrites}
use Rattle.lockstep_slots.specs.Kept.{LockstepKept}
use Rattle.lockstep_slots.specs.Pairs.{no_marks}
use Rattle.lockstep_slots.specs.Places.{Place, IsPlaceOf}
use Rattle.lockstep_slots.specs.Standing.{StandsInLockstep, EndInLockstep}
use Rattle.window_places.specs.Windows.{IsAtMoment, TablesLeave}

-- how many events of the slot come before a place
abbrev pub events_before : Place → ℕ
events_before place = sum_by (λ (phase : Phase). length phase.events) place.ended + length place.passed

-- a place isn't behind another: it is in an earlier phase, or not further in the same one
abbrev pub IsUpTo : Place → Place → Type 0
IsUpTo place other = (length place.ended < length other.ended) ⊎ ((length place.ended ≡ length other.ended) × (length place.passed ≤ length other.passed))

-- no own update is due by a time, so that no turn of a slot at that time changes what is kept
abbrev pub NoneIsDue : ℕ → LockstepKept → Type 0
NoneIsDue time kept = (process : ℕ) (own : OwnWrites) → kept.writes process ≡ Some own → some_in (is_due time) own.later ≡ false

-- both machines stand in lockstep at a place, and the present phase has no own block so far
pub record StandsUnmarked (design : FlatDesign) (fault : StuckAt) (slot : FirstSlot) (begins : State) (place : Place) (kept : LockstepKept) : Type 0 where
  pub own : Moment
  pub pairs : List BlockPair
  pub stands : StandsInLockstep design fault slot begins place own pairs no_marks kept

pub record PassesOn : Type 0 where
  -- to a later place, up to whose moment the tables leave alone what is kept
  pub places : (design : FlatDesign) (plan : TestPlan) (fault : StuckAt) (begins ends moment until : ℕ) (slot : FirstSlot) (own_begins : State) (place other : Place) (kept : LockstepKept) →
      StandsUnmarked design fault slot own_begins place kept → IsAtMoment design plan begins ends moment place → IsPlaceOf (good_machine design) slot other → IsUpTo place other →
      moment + events_before other ≡ until + events_before place → TablesLeave design fault kept (window_events design plan begins ends) moment until →
      NoneIsDue slot.begins.time kept → IsBetweenRuns (good_machine design) other.phase.begins other.passed →
      StandsUnmarked design fault slot own_begins other kept × IsAtMoment design plan begins ends until other
  -- and at the last place of the slot both slots end
  pub ends : (design : FlatDesign) (fault : StuckAt) (slot : FirstSlot) (own_begins : State) (place : Place) (kept : LockstepKept) → StandsUnmarked design fault slot own_begins place kept →
      place.left ≡ [] → place.later ≡ [] → (own : Moment) × EndInLockstep design fault slot own_begins own kept
