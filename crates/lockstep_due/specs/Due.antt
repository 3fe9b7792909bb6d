-- Own updates beside those of the good machine (nonblocking updates by IEEE 1364-2001, clause 9.2.2).
use Rattle.std.specs.Prelude.{◌≡◌, ℕ, List, Some}
use Rattle.v_design.specs.Designs.{FlatDesign, TestPlan}
use Rattle.v_design.specs.States.{LaterUpdate}
use Rattle.between_slots.specs.Updates.{updates_through}
use Rattle.copy_laws.specs.Differences.{own_of}
use Rattle.lockstep_laws.specs.Lockstep.{due_times}

-- the own updates of a process, if there are some, are due at the times of those that it has pending in the good machine after so many slots
abbrev pub IsDueAlike : FlatDesign → TestPlan → ℕ → List (ℕ × List LaterUpdate) → ℕ → Type 0
IsDueAlike design plan number updates process = (own : List LaterUpdate) → own_of updates process ≡ Some own → due_times own ≡ due_times (updates_through design plan number process)
