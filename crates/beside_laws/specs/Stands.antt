-- How far a first run was run, and the state in which it stands there (slots by IEEE 1364-2001, clause 5).
use Rattle.std.specs.Prelude.{◌≡◌, ◌≢◌, ℕ, ◌<◌, ◌≤◌, List, Option, Some, None, slice_get}
use Rattle.vf_base.specs.Base.{WatchedBit}
use Rattle.vf_base.specs.Lists.{AllHold}
use Rattle.v_design.specs.Designs.{Machine}
use Rattle.v_design.specs.States.{State, start, turn_of}
use Rattle.v_design.specs.Runs.{FirstSlot, first_run, next_slot, next_slot_at, slot_end}
use Rattle.v_design.specs.Grades.{Fine, slot_outcome, samples, first_samples, first_stop}
use Rattle.v_design.specs.WellFormed.{KeepsRules}
use Rattle.order_laws.specs.FirstRuns.{Follow, Rise}
use Rattle.machine_laws.specs.SlotLoop.{slot_from}
use Rattle.copy_laws.specs.Windows.{state_by, state_at}
use Rattle.grade_laws.specs.Ahead.{StopsAfter}

-- Times

-- a time comes after another, if that is there
abbrev pub IsAfter : Option ℕ → ℕ → Type 0
IsAfter None time = Unit {0}
IsAfter (Some now) time = now < time

-- a time isn't before another, if that is there
abbrev pub IsSince : Option ℕ → ℕ → Type 0
IsSince None time = Unit {0}
IsSince (Some now) time = now ≤ time

-- Where a first run stands

-- the first run of a machine to an end was run through its slots up to a time, or not at all where no time is there; it stands in this state, and its next slot, if there is one,
-- begins in that one
pub record HasRun (machine : Machine) (end : ℕ) (now : Option ℕ) (next : Option State) (state : State) : Type 0 where
  pub ahead : List FirstSlot
  pub follow : Follow machine end next ahead
  pub rise : Rise ahead
  pub later : AllHold (λ (slot : FirstSlot). IsAfter now slot.begins.time) ahead
  pub stops : first_stop machine (first_run machine end) ≡ first_stop machine ahead
  pub states : (time : ℕ) → IsSince now time → state_at machine end time ≡ state_by machine state ahead time

-- the run stands after one of its slots, which is fine
pub record StandsAfterSlot (machine : Machine) (end time : ℕ) : Type 0 where
  pub number : ℕ
  pub slot : FirstSlot
  pub stands : slice_get (first_run machine end) number ≡ Some slot
  pub fine : slot_outcome machine slot ≡ Fine
  pub by_then : slot.begins.time ≤ time
  pub state_is : state_at machine end time ≡ slot_end machine slot

-- The laws

pub record RunsGoOn : Type 0 where
  -- at its start no slot was run
  pub begins : (machine : Machine) (end : ℕ) → KeepsRules machine.design → HasRun machine end None (Some (start machine)) (start machine)
  -- the next slot comes after the time so far; where it is fine the run goes on from its end, else it is the first stop
  pub later : (machine : Machine) (end : ℕ) (now : Option ℕ) (begins state : State) → HasRun machine end now (Some begins) state → IsAfter now begins.time
  pub fine : (machine : Machine) (end : ℕ) (now : Option ℕ) (begins state : State) → HasRun machine end now (Some begins) state → slot_outcome machine (slot_from machine begins) ≡ Fine →
      HasRun machine end (Some begins.time) (next_slot machine end (slot_from machine begins)) (slot_end machine (slot_from machine begins))
  pub stops : (machine : Machine) (end : ℕ) (now : Option ℕ) (begins state : State) → HasRun machine end now (Some begins) state → slot_outcome machine (slot_from machine begins) ≢ Fine →
      first_stop machine (first_run machine end) ≡ Some (record { time = begins.time; outcome = slot_outcome machine (slot_from machine begins) })
  -- where no slot comes up to a later time, the run stands there as it stood
  pub passes : (machine : Machine) (end : ℕ) (now : Option ℕ) (next : Option State) (state : State) (time : ℕ) → HasRun machine end now next state → IsSince now time →
      ((begins : State) → next ≡ Some begins → time < begins.time) → HasRun machine end (Some time) next state
  -- the state at a time is the one in which the run stands, and the first stop comes later; where no slot comes there is none
  pub stands : (machine : Machine) (end time : ℕ) (next : Option State) (state : State) → HasRun machine end (Some time) next state →
      (state_at machine end time ≡ state) × StopsAfter time (first_stop machine (first_run machine end))
  pub over : (machine : Machine) (end : ℕ) (now : Option ℕ) (state : State) → HasRun machine end now None state → first_stop machine (first_run machine end) ≡ None

-- a run that doesn't stop up to a time stands there after a slot, in the state at that time, and goes on where the turn of that state leads
pub record RunsStand : Type 0 where
  pub again : (machine : Machine) (end time : ℕ) → KeepsRules machine.design → StopsAfter time (first_stop machine (first_run machine end)) →
      HasRun machine end (Some time) (next_slot_at end (state_at machine end time) (turn_of (state_at machine end time))) (state_at machine end time)
  pub slot : (machine : Machine) (end time : ℕ) → KeepsRules machine.design → StopsAfter time (first_stop machine (first_run machine end)) → StandsAfterSlot machine end time
  -- one that doesn't stop up to its end doesn't stop
  pub never : (machine : Machine) (end : ℕ) → KeepsRules machine.design → StopsAfter end (first_stop machine (first_run machine end)) → first_stop machine (first_run machine end) ≡ None
  -- and the strobes see its values
  pub sees : (machine : Machine) (watched : List WatchedBit) (end time : ℕ) → KeepsRules machine.design →
      first_samples machine watched (first_run machine end) time ≡ samples watched (state_at machine end time).values
