-- The slots of a first run: how each begins, and what is left to do at its end (slots by IEEE 1364-2001, clause 5).
use Rattle.std.specs.Prelude.{◌≡◌, ℕ, suc, true, false, Some, None, slice_get}
use Rattle.v_design.specs.Designs.{Machine}
use Rattle.v_design.specs.States.{State, is_quiescent, turn_of, time_turn}
use Rattle.v_design.specs.Runs.{FirstSlot, first_run, slot_end, is_hyper, next_slot, turn_in_slot}
use Rattle.v_design.specs.Laws.{BeginsPhase}
use Rattle.v_design.specs.WellFormed.{KeepsRules}
use Rattle.machine_laws.specs.SlotLoop.{slot_from}

-- a state at a slot's end: no event and no turn within the slot is possible, and a slot to which time moves on begins as the laws ask
pub record RestsAfterSlot (machine : Machine) (state : State) : Type 0 where
  pub quiescent : is_quiescent state ≡ true
  pub no_turn : turn_in_slot (turn_of state) ≡ None
  pub begins : (time : ℕ) → BeginsPhase machine (time_turn time state)

-- the slots of a first run
pub record FirstSlotsStand : Type 0 where
  -- each begins as the laws ask, and makes the moves of the first order
  pub begins : (machine : Machine) (end number : ℕ) (slot : FirstSlot) → KeepsRules machine.design → slice_get (first_run machine end) number ≡ Some slot → BeginsPhase machine slot.begins
  pub moves : (machine : Machine) (end number : ℕ) (slot : FirstSlot) → KeepsRules machine.design → slice_get (first_run machine end) number ≡ Some slot → slot ≡ slot_from machine slot.begins
  -- at the end of one that isn't hyperactive nothing is left to do before time moves on
  pub rests : (machine : Machine) (end number : ℕ) (slot : FirstSlot) → KeepsRules machine.design → slice_get (first_run machine end) number ≡ Some slot → is_hyper slot ≡ false →
      RestsAfterSlot machine (slot_end machine slot)
  -- and the next one stands behind it
  pub next : (machine : Machine) (end number : ℕ) (slot : FirstSlot) (begins : State) → KeepsRules machine.design → slice_get (first_run machine end) number ≡ Some slot →
      next_slot machine end slot ≡ Some begins → slice_get (first_run machine end) (suc number) ≡ Some (slot_from machine begins)
