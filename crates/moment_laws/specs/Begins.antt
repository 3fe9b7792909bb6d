-- The beginning of a slot is shown by what a window tells of the state before it (slots by IEEE 1364-2001, clause 5).
use Rattle.std.specs.Prelude.{◌≡◌, ℕ, ◌+◌, ◌<◌, List, [], length, get_or, Some, slice_get}
use Rattle.v_design.specs.Assignments.{value_at}
use Rattle.v_design.specs.Designs.{FlatDesign, TestPlan}
use Rattle.v_design.specs.Runs.{FirstSlot}
use Rattle.v_design.specs.WellFormed.{KeepsRules}
use Rattle.copy_laws.specs.Windows.{good_slots, IsWindow, WindowEnd}
use Rattle.process_code.specs.declared.state.ProcState.{ProcState}
use Rattle.between_slots.specs.Between.{state_through, activity_through, window_phases}
use Rattle.between_slots.specs.Updates.{updates_through, Rests, LastIsFew}
use Rattle.good_trace.specs.RunsKept.{Stands}
use Rattle.trace_window.specs.Moments.{window_events}
use Rattle.moment_parts.specs.Turned.{at_end_of_sleep, AreWokenWhere}
use Rattle.moment_laws.specs.Places.{IsAtSlot}
use Rattle.moment_laws.specs.Shown.{MomentKept}

-- what a window tells of the state before a slot is put, and the processes are ready that sleep until its time
pub record PutsSlot (design : FlatDesign) (plan : TestPlan) (before through number : ℕ) (slot : FirstSlot) (states woken : List ProcState) (kept : MomentKept) : Type 0 where
  pub before_is : kept.before ≡ before
  pub through_is : kept.through ≡ through
  pub slot_is : kept.slot ≡ number
  pub phase_is : kept.phase ≡ length (window_phases design plan before (before + number))
  pub moment_is : kept.moment ≡ length (window_events design plan before (before + number))
  pub time_is : kept.time ≡ slot.begins.time
  pub value_count : length kept.values ≡ length design.objects
  pub values : (object : ℕ) → object < length design.objects → get_or kept.values object [] ≡ value_at (state_through design plan (before + number)).values object
  pub state_count : length states ≡ length design.processes
  pub stand : (process : ℕ) (own : ProcState) → slice_get states process ≡ Some own → Stands design process (activity_through design plan (before + number) process) own
  pub wakes : AreWokenWhere (at_end_of_sleep slot.begins.time) states woken
  pub states_are : kept.states ≡ woken
  pub later_count : length kept.later ≡ length design.processes
  pub later : (process : ℕ) → process < length design.processes → get_or kept.later process [] ≡ updates_through design plan (before + number) process
  pub lane_count : length kept.lanes ≡ length design.processes
  pub lanes : (process : ℕ) → get_or kept.lanes process [] ≡ []
  pub ran_count : length kept.ran ≡ length design.processes
  pub ran : (process : ℕ) → get_or kept.ran process 0 ≡ 0
  pub runs : kept.runs ≡ 0

-- a slot of a window is there
pub record HasSlot (design : FlatDesign) (plan : TestPlan) (number : ℕ) : Type 0 where
  pub slot : FirstSlot
  pub is : slice_get (good_slots design plan) number ≡ Some slot

pub record SlotsAreShown : Type 0 where
  pub there : (design : FlatDesign) (plan : TestPlan) (before through number : ℕ) (ending : WindowEnd) → IsWindow design plan before through ending → before + number < through →
      HasSlot design plan (before + number)
  pub shown : (design : FlatDesign) (plan : TestPlan) (before through number : ℕ) (slot : FirstSlot) (states woken : List ProcState) (kept : MomentKept) → KeepsRules design →
      before + number < through → slice_get (good_slots design plan) (before + number) ≡ Some slot → LastIsFew design plan (before + (number + 1)) →
      Rests design (state_through design plan (before + number)) → PutsSlot design plan before through number slot states woken kept → IsAtSlot design plan before through number kept
