-- The process steps of a slot of the first order from moment to moment (steps by IEEE 1364-2001, clause 9; slots by clause 5).
use Rattle.std.specs.Prelude.{◌≡◌, ℕ, ◌+◌, ◌≤◌, Bool, List, sum_by}
use Rattle.v_design.specs.Designs.{Machine}
use Rattle.v_design.specs.States.{State, Event, TurnKind}
use Rattle.v_design.specs.Runs.{most_steps}
use Rattle.v_design.specs.WellFormed.{KeepsRules}
use Rattle.copy_laws.specs.Beside.{AreFirst}
use Rattle.machine_laws.specs.SlotLoop.{Moment, ComesTo, EndsAt, after_events, after_turn, first_moment, slot_from, steps_of}
use Rattle.machine_events.specs.Steps.{event_steps, process_steps, steps_so_far}

pub record SlotStepsGoOn : Type 0 where
  -- a slot begins with none; events add theirs, and a turn adds none
  pub begins : (begins : State) → steps_so_far (first_moment begins) ≡ 0
  pub events : (machine : Machine) (events : List Event) (at : Moment) → steps_so_far (after_events machine events at) ≡ steps_so_far at + event_steps events
  pub turns : (turn : TurnKind) (at : Moment) → steps_so_far (after_turn turn at) ≡ steps_so_far at
  -- at each moment of a slot they are at most its process and lane steps so far
  pub counted : (machine : Machine) (at : Moment) → ComesTo machine at → steps_so_far at ≤ at.steps
  -- at each moment of a slot they are at most those of the slot, also with further events of the first order that take one step at most beyond the most that a slot has
  pub within : (machine : Machine) (at : Moment) → ComesTo machine at → steps_so_far at ≤ process_steps (slot_from machine at.begins)
  pub more : (machine : Machine) (events : List Event) (at : Moment) → KeepsRules machine.design → ComesTo machine at → AreFirst machine at.state events →
      at.steps + sum_by steps_of events ≤ most_steps + 1 → steps_so_far at + event_steps events ≤ process_steps (slot_from machine at.begins)
  -- at the end they are all
  pub ends : (machine : Machine) (hyper : Bool) (at : Moment) → EndsAt machine hyper at → process_steps (slot_from machine at.begins) ≡ steps_so_far at
