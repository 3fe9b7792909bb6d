-- What the processes of a run are still to write is of the design (IEEE 1364-2001, clauses 5 and 9.2).
use Rattle.std.specs.Prelude.{◌≡◌, ℕ, ◌<◌, List, length, Some, slice_get}
use Rattle.vf_base.specs.Lists.{AllHold}
use Rattle.v_design.specs.Designs.{FlatDesign, Machine}
use Rattle.v_design.specs.Assignments.{ValueUpdate}
use Rattle.v_design.specs.States.{State, Event, TurnKind, start, process_at, first_update, step_of, write_of, turned}
use Rattle.v_design.specs.Runs.{Move, FirstSlot, happened, all_made, first_run}
use Rattle.v_design.specs.Writers.{process_objects}
use Rattle.v_design.specs.WellFormed.{KeepsRules}

-- each process is still to write objects of the design alone
pub record WritesAreOf (design : FlatDesign) (state : State) : Type 0 where
  pub objects : (number : ℕ) → AllHold (λ object. object < length design.objects) (process_objects (process_at state number))

-- so it is at the start of a run, and stays so with events and turns; and so each slot of the first run begins
pub record WritesStay : Type 0 where
  pub at_start : (machine : Machine) → KeepsRules machine.design → WritesAreOf machine.design (start machine)
  pub after_events : (machine : Machine) (state : State) (events : List Event) → KeepsRules machine.design → WritesAreOf machine.design state →
      WritesAreOf machine.design (happened machine state events)
  pub after_turn : (design : FlatDesign) (state : State) (kind : TurnKind) → WritesAreOf design state → WritesAreOf design (turned kind state)
  pub after_moves : (machine : Machine) (state : State) (moves : List Move) → KeepsRules machine.design → WritesAreOf machine.design state →
      WritesAreOf machine.design (all_made machine state moves)
  pub slots_begin : (machine : Machine) (time number : ℕ) (slot : FirstSlot) → KeepsRules machine.design → slice_get (first_run machine time) number ≡ Some slot →
      WritesAreOf machine.design slot.begins

-- then the update that comes next, of a lane or of a step, is of an object of the design
pub record NextWritesAreOf : Type 0 where
  pub lane : (design : FlatDesign) (state : State) (number : ℕ) (update : ValueUpdate) → WritesAreOf design state → first_update (process_at state number).lane ≡ Some update →
      update.object < length design.objects
  pub step : (machine : Machine) (state : State) (number : ℕ) (update : ValueUpdate) → KeepsRules machine.design → WritesAreOf machine.design state →
      write_of (step_of machine state number).action ≡ Some update → update.object < length machine.design.objects
