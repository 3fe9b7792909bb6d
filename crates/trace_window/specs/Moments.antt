-- The events of a window of the good first run, numbered through, and what the objects hold before each (events, phases and slots by IEEE 1364-2001, clause 5).
use Rattle.std.specs.Prelude.{ℕ, zero, suc, List, [], ◌∷◌, map, Some, None, slice_get}
use Rattle.four_value.specs.Values.{LogicValue}
use Rattle.vf_base.specs.Lists.{joined}
use Rattle.v_design.specs.Designs.{FlatDesign, Machine, TestPlan, good_machine}
use Rattle.v_design.specs.Assignments.{first_values}
use Rattle.v_design.specs.States.{State, Event, after}
use Rattle.v_design.specs.Runs.{FirstSlot, slot_end}
use Rattle.v_design.specs.Grades.{Phase, phases}
use Rattle.copy_laws.specs.Windows.{good_slots, window_slots}

-- an event, and the state before it
pub record Seen : Type 0 where
  pub before : State
  pub event : Event

-- some events of a phase, from a state on
abbrev pub seen_from : Machine → State → List Event → List Seen
seen_from machine state [] = []
seen_from machine state (event ∷ events) = record { before = state; event = event } ∷ seen_from machine (after machine state event) events

-- the events of a phase, of a slot, and of some slots, in order
abbrev pub phase_seen : Machine → Phase → List Seen
phase_seen machine phase = seen_from machine phase.begins phase.events

abbrev pub slot_seen : Machine → FirstSlot → List Seen
slot_seen machine slot = joined (map (phase_seen machine) (phases machine slot))

abbrev pub slots_seen : Machine → List FirstSlot → List Seen
slots_seen machine slots = joined (map (slot_seen machine) slots)

-- the events of a window; the place of an event here is its moment
abbrev pub window_events : FlatDesign → TestPlan → ℕ → ℕ → List Seen
window_events design plan begins ends = slots_seen (good_machine design) (window_slots design plan begins ends)

-- what the objects hold after so many of some slots, which begin with some values
abbrev pub values_after_slots : Machine → List LogicValue → List FirstSlot → ℕ → List LogicValue
values_after_slots machine values slots zero = values
values_after_slots machine values slots (suc number) = elim (slice_get slots number) [ None ↦ [] | Some slot ↦ (slot_end machine slot).values ]

-- the same of the good first run
abbrev pub values_through : FlatDesign → TestPlan → ℕ → List LogicValue
values_through design plan number = values_after_slots (good_machine design) (first_values (good_machine design)) (good_slots design plan) number

-- the values before the event of a number; after all of them some last values
abbrev pub values_before : List Seen → List LogicValue → ℕ → List LogicValue
values_before [] last number = last
values_before (seen ∷ rest) last zero = seen.before.values
values_before (seen ∷ rest) last (suc number) = values_before rest last number

-- what the objects hold before the event of a moment of a window, and at the moment behind the last one at the window's end
abbrev pub window_values : FlatDesign → TestPlan → ℕ → ℕ → ℕ → List LogicValue
window_values design plan begins ends moment = values_before (window_events design plan begins ends) (values_through design plan ends) moment
