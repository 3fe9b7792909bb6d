-- The slots that are ahead of a first run, and the process steps of those behind it (steps by IEEE 1364-2001, clause 9; slots by clause 5).
use Rattle.std.specs.Prelude.{◌≡◌, ◌≢◌, ℕ, ◌+◌, ◌<◌, ◌≤◌, true, List, [], ◌∷◌, ◌++◌, Option, Some, None, sum_by, nat_lt, if◌then◌else◌}
use Rattle.vf_base.specs.Lists.{AllHold}
use Rattle.v_design.specs.Designs.{Machine}
use Rattle.v_design.specs.States.{State, start, turn_of}
use Rattle.v_design.specs.Runs.{FirstSlot, first_run, next_slot, next_slot_at}
use Rattle.v_design.specs.Grades.{Fine, slot_outcome, first_stop}
use Rattle.v_design.specs.OwnSteps.{slots_through_stop}
use Rattle.v_design.specs.WellFormed.{KeepsRules}
use Rattle.order_laws.specs.FirstRuns.{Follow, Rise}
use Rattle.machine_laws.specs.SlotLoop.{slot_from}
use Rattle.copy_laws.specs.Windows.{comes_by, state_at}
use Rattle.grade_laws.specs.Ahead.{StopsAfter}
use Rattle.beside_laws.specs.Stands.{IsAfter, IsSince}
use Rattle.machine.specs.Ticks.{process_steps}
use Rattle.fault_grade.specs.Ticks.{steps_by, steps_through}
use Rattle.graded_steps.specs.Behind.{steps_up_to}

-- the process steps of a slot, if it begins after a time
abbrev pub steps_if_after : ℕ → FirstSlot → ℕ
steps_if_after time slot = if nat_lt time slot.begins.time then process_steps slot else 0

-- those of the slots of a first run after a time, through the first that isn't fine
abbrev pub steps_after : ℕ → Machine → List FirstSlot → ℕ
steps_after time machine slots = sum_by (steps_if_after time) (slots_through_stop machine slots)

-- the first run of a machine to an end was run through its slots up to a time, or not at all where no time is there; these slots are ahead, and the
-- steps of all slots are those up to that time and theirs
pub record SlotsAhead (machine : Machine) (end : ℕ) (now : Option ℕ) (next : Option State) : Type 0 where
  pub slots : List FirstSlot
  pub follow : Follow machine end next slots
  pub rise : Rise slots
  pub later : AllHold (λ (slot : FirstSlot). IsAfter now slot.begins.time) slots
  pub total : steps_up_to machine now + steps_through machine slots ≡ steps_by machine end
  pub left : (time : ℕ) → IsSince now time → steps_after time machine (first_run machine end) ≡ steps_after time machine slots
  -- behind it are the other slots, all up to that time
  pub behind : List FirstSlot
  pub parts : first_run machine end ≡ behind ++ slots
  pub by_now : AllHold (λ (slot : FirstSlot). comes_by now slot.begins.time ≡ true) behind

-- The laws

pub record RunsTakeSteps : Type 0 where
  -- the first run to a later time takes no fewer steps
  pub more : (machine : Machine) (one other : ℕ) → KeepsRules machine.design → one ≤ other → steps_by machine one ≤ steps_by machine other
  -- at its start all slots are ahead
  pub begins : (machine : Machine) (end : ℕ) → KeepsRules machine.design → SlotsAhead machine end None (Some (start machine))
  -- where a run that doesn't stop up to a time stands in the state at that time, the slots to which the turn of that state leads are ahead
  pub again : (machine : Machine) (end time : ℕ) → KeepsRules machine.design → time ≤ end → StopsAfter time (first_stop machine (first_run machine end)) →
      SlotsAhead machine end (Some time) (next_slot_at end (state_at machine end time) (turn_of (state_at machine end time)))
  -- behind a slot that is fine are those after it; its steps lie between
  pub fine : (machine : Machine) (end : ℕ) (now : Option ℕ) (begins : State) → KeepsRules machine.design → SlotsAhead machine end now (Some begins) → begins.time ≤ end →
      slot_outcome machine (slot_from machine begins) ≡ Fine →
      SlotsAhead machine end (Some begins.time) (next_slot machine end (slot_from machine begins)) ×
      (steps_up_to machine now + process_steps (slot_from machine begins) ≡ steps_by machine begins.time)
  -- those of a slot that stops the run are all that are left
  pub stops : (machine : Machine) (end : ℕ) (now : Option ℕ) (begins : State) → SlotsAhead machine end now (Some begins) → slot_outcome machine (slot_from machine begins) ≢ Fine →
      steps_up_to machine now + process_steps (slot_from machine begins) ≡ steps_by machine end
  -- where no slot comes up to a later time the same slots are ahead, and no step lies between
  pub passes : (machine : Machine) (end : ℕ) (now : Option ℕ) (next : Option State) (time : ℕ) → KeepsRules machine.design → SlotsAhead machine end now next → IsSince now time → time ≤ end →
      ((begins : State) → next ≡ Some begins → time < begins.time) → SlotsAhead machine end (Some time) next × (steps_up_to machine now ≡ steps_by machine time)
