-- Where the processes of a machine stand at each moment of its runs (IEEE 1364-2001, clauses 5 and 9).
use Rattle.std.specs.Prelude.{◌≡◌, ℕ, ◌≤◌, List, Some, slice_get}
use Rattle.v_design.specs.Designs.{FlatDesign, Machine}
use Rattle.v_design.specs.States.{State, Event, TurnKind, process_at, turn_of, turned}
use Rattle.v_design.specs.Runs.{Move, FirstSlot, first_run, happened, all_made}
use Rattle.v_design.specs.WellFormed.{KeepsRules}
use Rattle.process_table.specs.Puts.{MayStand}

-- each process of a state may stand where it does: it waits, and may wait yet, for entries of its body alone, it wakes later, and no update of it was due before
abbrev pub AllMayStand : FlatDesign → State → Type 0
AllMayStand design state = (process : ℕ) → MayStand design state.time process (process_at state process)

-- The laws

pub record MomentsStand : Type 0 where
  -- events leave it so
  pub events : (machine : Machine) (state : State) (events : List Event) → KeepsRules machine.design → AllMayStand machine.design state →
      AllMayStand machine.design (happened machine state events)
  -- so does the turn that comes
  pub turns : (machine : Machine) (state : State) (turn : TurnKind) → turn_of state ≡ Some turn → AllMayStand machine.design state → AllMayStand machine.design (turned turn state)
  -- so do moves
  pub moves : (machine : Machine) (state : State) (moves : List Move) → KeepsRules machine.design → AllMayStand machine.design state → AllMayStand machine.design (all_made machine state moves)
  -- so each slot of the first run begins
  pub slots : (machine : Machine) (end number : ℕ) (slot : FirstSlot) → KeepsRules machine.design → slice_get (first_run machine end) number ≡ Some slot →
      AllMayStand machine.design slot.begins
  -- and at the end of the run at most
  pub in_time : (machine : Machine) (end number : ℕ) (slot : FirstSlot) → slice_get (first_run machine end) number ≡ Some slot → slot.begins.time ≤ end
