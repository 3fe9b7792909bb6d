-- The slots of a first run, one after the other (IEEE 1364-2001, clause 5).
use Rattle.std.specs.Prelude.{◌≡◌, ℕ, ◌<◌, List, [], ◌∷◌, Option, Some, None}
use Rattle.vf_base.specs.Lists.{AllHold}
use Rattle.v_design.specs.Designs.{Machine}
use Rattle.v_design.specs.States.{State, start}
use Rattle.vf_base.specs.Base.{ReportedPair}
use Rattle.v_design.specs.Runs.{FirstSlot, first_moves, first_run, next_slot}
use Rattle.v_design.specs.Grades.{Race, Stop, first_stop}
use Rattle.v_design.specs.WellFormed.{KeepsRules}

-- these are the slots up to a time from that on which a state begins, if there is one: after each slot comes the one to which its last turn leads
abbrev pub Follow : Machine → ℕ → Option State → List FirstSlot → Type 0
Follow machine time None [] = Unit {0}
Follow machine time None (slot ∷ slots) = ⊥
Follow machine time (Some state) [] = ⊥
Follow machine time (Some state) (slot ∷ slots) = (slot ≡ record { begins = state; moves = first_moves machine state }) × Follow machine time (next_slot machine time slot) slots

-- each slot begins later than all before it
abbrev pub Rise : List FirstSlot → Type 0
Rise [] = Unit {0}
Rise (slot ∷ slots) = AllHold (λ (later : FirstSlot). slot.begins.time < later.begins.time) slots × Rise slots

-- the first run up to a time has every slot to which a turn leads by then: none is left out by the bound on their number
pub record FirstRunsGoOn : Type 0 where
  pub follow : (machine : Machine) (time : ℕ) → KeepsRules machine.design → Follow machine time (Some (start machine)) (first_run machine time)
  pub rise : (machine : Machine) (time : ℕ) → KeepsRules machine.design → Rise (first_run machine time)
  -- a race is at the time of its slot
  pub race_time : (machine : Machine) (time : ℕ) (stop : Stop) (pair : ReportedPair) → KeepsRules machine.design → first_stop machine (first_run machine time) ≡ Some stop →
      stop.outcome ≡ Race pair → pair.time ≡ stop.time
