-- The process steps that a first run takes up to where it stands, and a counter that rises by no more (steps by IEEE 1364-2001, clause 9; slots by clause 5).
use Rattle.std.specs.Prelude.{ℕ, Option, Some, None}
use Rattle.v_design.specs.Designs.{Machine}
use Rattle.fault_grade.specs.Ticks.{steps_by}
pub use Rattle.slot_steps.specs.Rises.{RisesWithin}

-- the process steps of the slots of a machine's first run up to a time, if there is one
abbrev pub steps_up_to : Machine → Option ℕ → ℕ
steps_up_to machine None = 0
steps_up_to machine (Some time) = steps_by machine time
