-- Places of the good machine's slots among the events of a window, and what tables of these events tell of the stretches from there (events, phases and slots by IEEE 1364-2001, clause 5).
use Rattle.std.specs.Prelude.{◌≡◌, ℕ, suc, ◌+◌, ◌<◌, ◌≤◌, true, false, List, [], ◌∷◌, ◌++◌, map, length, drop, Some, is_some, slice_get, sum_by}
use Rattle.vf_base.specs.Lists.{has, AllHold, joined}
use Rattle.v_design.specs.Designs.{FlatDesign, FlatNode, StuckAt, TestPlan, good_machine}
use Rattle.v_design.specs.States.{Event}
use Rattle.v_design.specs.Runs.{FirstSlot}
use Rattle.v_design.specs.Grades.{Phase, phases}
use Rattle.copy_laws.specs.Touches.{site_is_object, site_is_node}
use Rattle.copy_laws.specs.Windows.{good_slots}
use Rattle.between_slots.specs.Between.{window_phases}
use Rattle.trace_window.specs.Moments.{Seen, seen_from, phase_seen, window_events}
use Rattle.trace_window.specs.Touched.{touched_at}
use Rattle.trace_window.specs.Acted.{evaluated_at, stepped_at}
use Rattle.lockstep_index.specs.Alone.{LeavesValues}
use Rattle.lockstep_index.specs.Writes.{ActsElsewhere}
use Rattle.lockstep_slots.specs.Kept.{LockstepKept, kept_within}
use Rattle.lockstep_slots.specs.Places.{Place, state_there, first_place, behind_events, next_phase}

-- the events that are left of a slot from a place on
abbrev pub seen_left : FlatDesign → Place → List Seen
seen_left design place =
    seen_from (good_machine design) (state_there (good_machine design) place) place.left ++ joined (map (phase_seen (good_machine design)) place.later)

-- from a moment of a window on its events are those that are left of a slot from a place on, and then those of later slots
pub record IsAtMoment (design : FlatDesign) (plan : TestPlan) (begins ends moment : ℕ) (place : Place) : Type 0 where
  pub others : List Seen
  pub seen_are : drop moment (window_events design plan begins ends) ≡ seen_left design place ++ others

-- tables of some events tell of those from one moment to before another that they leave what is kept alone: none touches an object with an own value, or the fault's variable, none evaluates the
-- fault's node or one that reads such an object, and none is a step of a process with own updates or of its lane
pub record TablesLeave (design : FlatDesign) (fault : StuckAt) (kept : LockstepKept) (events : List Seen) (first limit : ℕ) : Type 0 where
  pub touches : (object moment : ℕ) → is_some (kept.values object) ≡ true → first ≤ moment → moment < limit → touched_at (good_machine design) events object moment ≡ false
  pub site_object : (object moment : ℕ) → site_is_object fault.site object ≡ true → first ≤ moment → moment < limit → touched_at (good_machine design) events object moment ≡ false
  pub site_node : (number moment : ℕ) → site_is_node fault.site number ≡ true → first ≤ moment → moment < limit → evaluated_at events number moment ≡ false
  pub inputs : (object number moment : ℕ) (node : FlatNode) → is_some (kept.values object) ≡ true → slice_get design.nodes number ≡ Some node → has node.inputs object ≡ true → first ≤ moment →
      moment < limit → evaluated_at events number moment ≡ false
  pub steps : (process moment : ℕ) → is_some (kept.writes process) ≡ true → first ≤ moment → moment < limit → stepped_at events process moment ≡ false

-- a stretch from a place on leaves what is kept alone, as `SlotsInLockstep.passes` asks
pub record IsLeftAlone (design : FlatDesign) (fault : StuckAt) (kept : LockstepKept) (place : Place) (events : List Event) : Type 0 where
  pub values : AllHold (LeavesValues design fault (kept_within kept (state_there (good_machine design) place))) (seen_from (good_machine design) (state_there (good_machine design) place) events)
  pub elsewhere : AllHold (ActsElsewhere kept.writes) events

pub record PlacesInWindows : Type 0 where
  -- the phases of a slot among those of the window, and how many events come before it
  pub slots : (design : FlatDesign) (plan : TestPlan) (begins ends number : ℕ) (slot : FirstSlot) → begins ≤ number → number < ends → slice_get (good_slots design plan) number ≡ Some slot →
      (window_phases design plan begins ends ≡ window_phases design plan begins number ++ (phases (good_machine design) slot ++ window_phases design plan (suc number) ends))
      × (length (window_events design plan begins number) ≡ sum_by (λ (phase : Phase). length phase.events) (window_phases design plan begins number))
  -- a slot of a window begins behind the events of those before it
  pub begins : (design : FlatDesign) (plan : TestPlan) (begins ends number : ℕ) (slot : FirstSlot) (phase : Phase) (later : List Phase) → begins ≤ number → number < ends →
      slice_get (good_slots design plan) number ≡ Some slot → phases (good_machine design) slot ≡ phase ∷ later →
      IsAtMoment design plan begins ends (length (window_events design plan begins number)) (first_place phase later)
  -- each event is one moment
  pub goes_on : (design : FlatDesign) (plan : TestPlan) (begins ends moment : ℕ) (place : Place) (events more : List Event) → IsAtMoment design plan begins ends moment place →
      place.left ≡ events ++ more → IsAtMoment design plan begins ends (moment + length events) (behind_events events more place)
  -- and a turn is none
  pub turns : (design : FlatDesign) (plan : TestPlan) (begins ends moment : ℕ) (place : Place) (next : Phase) (later : List Phase) → IsAtMoment design plan begins ends moment place →
      place.left ≡ [] → place.later ≡ next ∷ later → IsAtMoment design plan begins ends moment (next_phase next later place)
  -- the tables tell of a stretch from there
  pub tables : (design : FlatDesign) (plan : TestPlan) (fault : StuckAt) (begins ends moment : ℕ) (place : Place) (kept : LockstepKept) (events more : List Event) →
      IsAtMoment design plan begins ends moment place → place.left ≡ events ++ more →
      TablesLeave design fault kept (window_events design plan begins ends) moment (moment + length events) → IsLeftAlone design fault kept place events
