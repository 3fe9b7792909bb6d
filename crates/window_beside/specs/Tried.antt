-- The steps that a faulty machine took itself in a slot in which lockstep was left (steps by IEEE 1364-2001, clause 9; slots by clause 5).
use Rattle.std.specs.Prelude.{◌≡◌, ◌⊎◌, ℕ, ◌≤◌, List, [], Some, slice_get}
use Rattle.v_design.specs.Designs.{FlatDesign, StuckAt, TestPlan, good_machine, faulty_machine}
use Rattle.v_design.specs.Grades.{phases}
use Rattle.v_design.specs.Runs.{FirstSlot}
use Rattle.v_design.specs.States.{State}
use Rattle.copy_laws.specs.Windows.{good_slots}
use Rattle.good_runs.specs.declared.tried.TriedStep.{TriedStep}
use Rattle.own_counts.specs.Joins.{fault_end}
use Rattle.own_slots.specs.Slots.{WereTried}
use Rattle.machine.specs.Standing.{BeginsInFirstRun}

-- it took these in its slot at the time of the slot of the good machine behind so many, before which its grading doesn't end
pub record WasTried (design : FlatDesign) (plan : TestPlan) (gone : ℕ) (fault : StuckAt) (tried : List TriedStep) : Type 0 where
  pub slot : FirstSlot
  pub stands : slice_get (good_slots design plan) gone ≡ Some slot
  pub begins : State
  pub at_time : begins.time ≡ slot.begins.time
  pub in_run : BeginsInFirstRun (faulty_machine design fault) begins
  pub within : begins.time ≤ fault_end design plan fault
  pub were : WereTried (good_machine design) (faulty_machine design fault) (phases (good_machine design) slot) begins tried

-- it took none, or these
abbrev pub MayTry : FlatDesign → TestPlan → ℕ → StuckAt → List TriedStep → Type 0
MayTry design plan gone fault tried = (tried ≡ []) ⊎ WasTried design plan gone fault tried

-- where it took some, this is the time of that slot
abbrev pub IsTriedAt : FlatDesign → TestPlan → ℕ → ℕ → Type 0
IsTriedAt design plan gone time = (slot : FirstSlot) → slice_get (good_slots design plan) gone ≡ Some slot → time ≡ slot.begins.time
