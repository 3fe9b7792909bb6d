-- Places in a slot of the good machine: behind so many of its phases, and so many events of the next one (slots and phases by IEEE 1364-2001, clause 5).
use Rattle.std.specs.Prelude.{◌≡◌, ℕ, ◌+◌, List, [], ◌∷◌, ◌++◌, sum_by}
use Rattle.v_design.specs.Designs.{Machine}
use Rattle.v_design.specs.States.{State, Event}
use Rattle.v_design.specs.Runs.{FirstSlot, happened}
use Rattle.v_design.specs.Grades.{Phase, Fine, phases, slot_outcome}
use Rattle.v_design.specs.Laws.{BeginsPhase}
use Rattle.v_design.specs.WellFormed.{KeepsRules}
use Rattle.machine_laws.specs.SlotLoop.{Moment, slot_from, steps_of}
use Rattle.phase_order.specs.Order.{phase_steps}

-- a place in a slot: the phases that ended, the present one, and those to come; of the present one the events so far, and those that are left
pub record Place : Type 0 where
  pub ended : List Phase
  pub phase : Phase
  pub later : List Phase
  pub passed : List Event
  pub left : List Event

-- it is one of the slot
pub record IsPlaceOf (machine : Machine) (slot : FirstSlot) (place : Place) : Type 0 where
  pub phases_are : phases machine slot ≡ place.ended ++ place.phase ∷ place.later
  pub events_are : place.phase.events ≡ place.passed ++ place.left

-- a slot of the first order that begins as the laws ask, and is fine
pub record IsFineSlot (machine : Machine) (slot : FirstSlot) : Type 0 where
  pub rules : KeepsRules machine.design
  pub is : slot ≡ slot_from machine slot.begins
  pub asked : BeginsPhase machine slot.begins
  pub fine : slot_outcome machine slot ≡ Fine

-- the state there
abbrev pub state_there : Machine → Place → State
state_there machine place = happened machine place.phase.begins place.passed

-- the moment there
abbrev pub moment_there : Machine → FirstSlot → Place → Moment
moment_there machine slot place = record {
  begins = slot.begins;
  ended = place.ended;
  turn = place.phase.turn;
  phase_begins = place.phase.begins;
  events = place.passed;
  steps = sum_by phase_steps place.ended + sum_by steps_of place.passed;
  state = state_there machine place;
}

-- how many process and lane steps of the slot are left
abbrev pub steps_left : Place → ℕ
steps_left place = sum_by steps_of place.left + sum_by phase_steps place.later

-- where the slot begins, with its first phase
abbrev pub first_place : Phase → List Phase → Place
first_place phase later = record { ended = []; phase = phase; later = later; passed = []; left = phase.events }

-- behind some more events of the phase, of which others are left
abbrev pub behind_events : List Event → List Event → Place → Place
behind_events events more place = record { ended = place.ended; phase = place.phase; later = place.later; passed = place.passed ++ events; left = more }

-- where the next phase begins
abbrev pub next_phase : Phase → List Phase → Place → Place
next_phase next later place = record { ended = place.ended ++ place.phase ∷ []; phase = next; later = later; passed = []; left = next.events }
