-- How far the good first run goes with so many of its slots, and how a window of them ends (slots by IEEE 1364-2001, clause 5).
use Rattle.std.specs.Prelude.{◌≡◌, ◌≢◌, ℕ, suc, ◌<◌, ◌≤◌, length, Some, None, slice_get}
use Rattle.vf_base.specs.Base.{ReportedPair}
use Rattle.v_design.specs.Designs.{FlatDesign, TestPlan, good_machine}
use Rattle.v_design.specs.Runs.{FirstSlot}
use Rattle.v_design.specs.Grades.{Fine, Race, Hyper, slot_outcome}
use Rattle.v_design.specs.WellFormed.{KeepsRules}
use Rattle.between_slots.specs.Between.{state_through}
use Rattle.copy_laws.specs.Windows.{IsWindow, IsOpen, IsThrough, IsRaced, good_slots, time_at, state_at}
use Rattle.grade_laws.specs.Ahead.{StopsAfter}
use Rattle.grade_laws.specs.Grading.{good_stop}

-- the good first run goes on after so many of its slots, the last of which is at a time before the plan's end; it doesn't stop by then, and stands in the state after these slots
pub record IsOpenAt (design : FlatDesign) (plan : TestPlan) (through time : ℕ) : Type 0 where
  pub time_is : time_at design plan through ≡ Some time
  pub early : time < plan.end
  pub more : through < length (good_slots design plan)
  pub goes_on : StopsAfter time (good_stop design plan)
  pub state_is : state_at (good_machine design) plan.end time ≡ state_through design plan through

-- the good first run has so many slots
pub record IsAllAt (design : FlatDesign) (plan : TestPlan) (through : ℕ) : Type 0 where
  pub time_is : time_at design plan through ≡ Some plan.end
  pub all : length (good_slots design plan) ≡ through

pub record GoodRunGoesOn : Type 0 where
  -- more slots lead to no earlier time
  pub times : (design : FlatDesign) (plan : TestPlan) (at later one other : ℕ) → KeepsRules design → at ≤ later → time_at design plan at ≡ Some one → time_at design plan later ≡ Some other →
      one ≤ other
  -- the run has a slot
  pub some : (design : FlatDesign) (plan : TestPlan) → KeepsRules design → 0 < length (good_slots design plan)
  -- the first one begins at time 0, and none begins after the plan's end
  pub first : (design : FlatDesign) (plan : TestPlan) (slot : FirstSlot) → KeepsRules design → slice_get (good_slots design plan) 0 ≡ Some slot → slot.begins.time ≡ 0
  pub within : (design : FlatDesign) (plan : TestPlan) (number : ℕ) (slot : FirstSlot) → KeepsRules design → slice_get (good_slots design plan) number ≡ Some slot → slot.begins.time ≤ plan.end
  -- at a time up to which these are the slots that begin, the last of them fine, it stands in the state after them
  pub stands : (design : FlatDesign) (plan : TestPlan) (number time : ℕ) (last : FirstSlot) → KeepsRules design → slice_get (good_slots design plan) number ≡ Some last →
      slot_outcome (good_machine design) last ≡ Fine → last.begins.time ≤ time → ((next : FirstSlot) → slice_get (good_slots design plan) (suc number) ≡ Some next → time < next.begins.time) →
      state_at (good_machine design) plan.end time ≡ state_through design plan (suc number)
  -- a slot after which another comes is fine, and the first stop comes after it
  pub fine : (design : FlatDesign) (plan : TestPlan) (number : ℕ) (last next : FirstSlot) → KeepsRules design → slice_get (good_slots design plan) number ≡ Some last →
      slice_get (good_slots design plan) (suc number) ≡ Some next →
      (slot_outcome (good_machine design) last ≡ Fine) × (last.begins.time < next.begins.time) × StopsAfter last.begins.time (good_stop design plan)

-- how a window ends
pub record WindowsEnd : Type 0 where
  pub is_open : (design : FlatDesign) (plan : TestPlan) (begins ends : ℕ) → KeepsRules design → (window : IsWindow design plan begins ends IsOpen) →
      IsOpenAt design plan ends window.last.begins.time
  pub is_through : (design : FlatDesign) (plan : TestPlan) (begins ends : ℕ) → KeepsRules design → (window : IsWindow design plan begins ends IsThrough) →
      slot_outcome (good_machine design) window.last ≢ Hyper → IsAllAt design plan ends × (good_stop design plan ≡ None)
  pub is_raced : (design : FlatDesign) (plan : TestPlan) (begins ends : ℕ) (pair : ReportedPair) → KeepsRules design → (window : IsWindow design plan begins ends (IsRaced pair)) →
      IsAllAt design plan ends × (good_stop design plan ≡ Some (record { time = window.last.begins.time; outcome = Race pair })) × (pair.time ≡ window.last.begins.time)
