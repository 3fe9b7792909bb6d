-- The next block of a machine, and how many events and phases a slot of a window has (slots, phases and events by IEEE 1364-2001, clause 5).
use Rattle.std.specs.Prelude.{◌≡◌, ℕ, suc, ◌+◌, ◌≤◌, ◌++◌, List, length, Some, slice_get, sum_by}
use Rattle.v_design.specs.Designs.{FlatDesign, Machine, TestPlan, good_machine}
use Rattle.v_design.specs.Grades.{Phase, phases}
use Rattle.v_design.specs.Runs.{FirstSlot}
use Rattle.v_design.specs.States.{State, Event}
use Rattle.between_slots.specs.Between.{window_phases}
use Rattle.copy_laws.specs.Windows.{good_slots}
use Rattle.phase_blocks.specs.Blocks.{IsWholeBlock}
use Rattle.trace_window.specs.Moments.{window_events}

-- of events that a machine takes from a state on one part at most is its next block
abbrev pub NextBlocksAreOne : Type 0
NextBlocksAreOne =
    (machine : Machine) (begins : State) (one other more rest : List Event) → one ++ more ≡ other ++ rest → IsWholeBlock machine begins one → IsWholeBlock machine begins other → one ≡ other

-- so many events of some phases
abbrev pub events_all : List Phase → ℕ
events_all parts = sum_by (λ (phase : Phase). length phase.events) parts

-- with a slot more a window has that slot's events and phases more
pub record SlotsAreCounted : Type 0 where
  pub events : (design : FlatDesign) (plan : TestPlan) (from number : ℕ) (slot : FirstSlot) → from ≤ number → slice_get (good_slots design plan) number ≡ Some slot →
      length (window_events design plan from (suc number)) ≡ length (window_events design plan from number) + events_all (phases (good_machine design) slot)
  pub parts : (design : FlatDesign) (plan : TestPlan) (from number : ℕ) (slot : FirstSlot) → from ≤ number → slice_get (good_slots design plan) number ≡ Some slot →
      length (window_phases design plan from (suc number)) ≡ length (window_phases design plan from number) + length (phases (good_machine design) slot)
