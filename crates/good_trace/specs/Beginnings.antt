-- When and where the slots of a window begin, as they are kept (slots, phases and events by IEEE 1364-2001, clause 5).
use Rattle.std.specs.Prelude.{◌≡◌, ℕ, ◌+◌, false, List, length, take, Some, slice_get}
use Rattle.v_design.specs.Accesses.{ObjectAccess}
use Rattle.v_design.specs.Designs.{FlatDesign, TestPlan}
use Rattle.v_design.specs.Runs.{FirstSlot, is_hyper}
use Rattle.copy_laws.specs.Windows.{good_slots}
use Rattle.between_slots.specs.Between.{window_phases}
use Rattle.trace_window.specs.Moments.{window_events}
use Rattle.trace_window.specs.Writes.{writes_from}
use Rattle.good_trace.specs.declared.pushed.SlotBeginning.{SlotBeginning}

-- the slot of the good first run before which so many stand is at a time, in steps, and isn't hyperactive
pub record IsTimeAt (design : FlatDesign) (plan : TestPlan) (number time : ℕ) : Type 0 where
  pub slot : FirstSlot
  pub stands : slice_get (good_slots design plan) number ≡ Some slot
  pub is : time ≡ slot.begins.time
  pub few_steps : is_hyper slot ≡ false

-- the same of the slots of a window
pub record AreTimes (design : FlatDesign) (plan : TestPlan) (before through : ℕ) (times : List ℕ) : Type 0 where
  pub held : before + length times ≡ through
  pub each : (place time : ℕ) → slice_get times place ≡ Some time → IsTimeAt design plan (before + place) time

-- the slot before which so many stand begins so in a window before which fewer stand, and whose events have these accesses
pub record IsBeginning (design : FlatDesign) (plan : TestPlan) (before number : ℕ) (accesses : List (List ObjectAccess)) (beginning : SlotBeginning) : Type 0 where
  pub moment : beginning.moment ≡ length (window_events design plan before number)
  pub changes : beginning.changes ≡ length (writes_from 0 (take (length (window_events design plan before number)) accesses))
  pub phases : beginning.phases ≡ length (window_phases design plan before number)

-- each slot of a window begins so, and so would one behind them
pub record AreBeginnings (design : FlatDesign) (plan : TestPlan) (before through : ℕ) (accesses : List (List ObjectAccess)) (beginnings : List SlotBeginning) : Type 0 where
  pub count : before + length beginnings ≡ through + 1
  pub each : (place : ℕ) (beginning : SlotBeginning) → slice_get beginnings place ≡ Some beginning → IsBeginning design plan before (before + place) accesses beginning

-- where the first slot of each window begins
abbrev pub first_beginning : SlotBeginning
first_beginning = record { moment = 0; changes = 0; phases = 0 }
