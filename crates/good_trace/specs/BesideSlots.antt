-- The slots of a window, as a machine that runs beside them sees them (slots and phases by IEEE 1364-2001, clause 5; processes by clause 9).
use Rattle.std.specs.Prelude.{◌≡◌, ℕ, ◌+◌, ◌-◌, ◌≤◌, List, length, Some, slice_get}
use Rattle.v_design.specs.Designs.{FlatDesign, good_machine}
use Rattle.v_design.specs.Grades.{phases}
use Rattle.v_design.specs.Runs.{FirstSlot}
use Rattle.window_runs.specs.OfSlot.{TellsSlot}
use Rattle.window_runs.specs.declared.slot.SlotRuns.{SlotRuns}
use Rattle.good_trace.specs.declared.beside.WindowSlots.{WindowSlots}
use Rattle.good_trace.specs.declared.pushed.SlotBeginning.{SlotBeginning}

-- what is told of a slot that begins so, and behind which another one would begin so
abbrev pub slot_runs : WindowSlots → SlotBeginning → SlotBeginning → SlotRuns
slot_runs told one next = record { index = told.index; runs = told.runs; before = one.phases; phases = next.phases - one.phases }

-- these are the slots of the good machine of a design of which the window tells: when each begins, and of its phases
pub record TellsSlots (design : FlatDesign) (slots : List FirstSlot) (told : WindowSlots) : Type 0 where
  pub count : length told.times.now ≡ length slots
  pub held : length told.beginnings.now ≡ length slots + 1
  pub times : (number : ℕ) (slot : FirstSlot) → slice_get slots number ≡ Some slot → slice_get told.times.now number ≡ Some slot.begins.time
  pub rise : (number : ℕ) (one next : SlotBeginning) → slice_get told.beginnings.now number ≡ Some one → slice_get told.beginnings.now (number + 1) ≡ Some next → one.phases ≤ next.phases
  pub each : (number : ℕ) (slot : FirstSlot) (one next : SlotBeginning) → slice_get slots number ≡ Some slot → slice_get told.beginnings.now number ≡ Some one →
      slice_get told.beginnings.now (number + 1) ≡ Some next → TellsSlot design slot.begins.time (phases (good_machine design) slot) (slot_runs told one next)

-- it tells of slots
pub record HasSlots (told : WindowSlots) : Type 0 where
  pub design : FlatDesign
  pub slots : List FirstSlot
  pub tells : TellsSlots design slots told
