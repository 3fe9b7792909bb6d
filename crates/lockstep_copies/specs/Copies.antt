-- A copy of a faulty machine from slot to slot of the good first run in lockstep (slots by IEEE 1364-2001, clause 5).
use Rattle.std.specs.Prelude.{◌≡◌, ℕ, suc, ◌<◌, ◌≤◌, List, [], ◌∷◌, Some, None, slice_get}
use Rattle.v_design.specs.Designs.{FlatDesign, StuckAt, TestPlan, good_machine, faulty_machine}
use Rattle.v_design.specs.States.{State, time_turn, turn_of}
use Rattle.v_design.specs.Runs.{FirstSlot, next_slot_at}
use Rattle.v_design.specs.Grades.{Phase, Fine, phases, slot_outcome}
use Rattle.v_design.specs.WellFormed.{KeepsRules}
use Rattle.machine_laws.specs.SlotLoop.{Moment, first_moment}
use Rattle.copy_laws.specs.Differences.{Differences}
use Rattle.copy_laws.specs.Windows.{IsCopyAt, good_slots, state_at}
use Rattle.block_filter.specs.Likes.{Marks}
use Rattle.grade_laws.specs.Ahead.{StopsAfter}
use Rattle.grade_laws.specs.Grading.{faulty_stop}
use Rattle.beside_laws.specs.Stands.{HasRun}
use Rattle.lockstep_laws.specs.Slots.{MayGoInLockstep}
use Rattle.lockstep_slots.specs.Kept.{LockstepKept, kept_of, AreJustKept}
use Rattle.lockstep_slots.specs.Places.{first_place}
use Rattle.lockstep_slots.specs.Standing.{StandsInLockstep, EndInLockstep}

-- at a time, behind a fine slot of the good first run of a number and before the next one, the faulty machine hasn't stopped, the copy is its state, and both machines may go on in lockstep
pub record IsCopyInLockstep (design : FlatDesign) (plan : TestPlan) (fault : StuckAt) (number time : ℕ) (d : Differences) : Type 0 where
  pub rules : KeepsRules design
  pub last : FirstSlot
  pub stands : slice_get (good_slots design plan) number ≡ Some last
  pub fine : slot_outcome (good_machine design) last ≡ Fine
  pub since : last.begins.time ≤ time
  pub before : (next : FirstSlot) → slice_get (good_slots design plan) (suc number) ≡ Some next → time < next.begins.time
  pub own_on : StopsAfter time (faulty_stop design plan fault)
  pub copy : IsCopyAt design plan fault time d
  pub may : MayGoInLockstep d (state_at (good_machine design) plan.end time)

-- the state in which the faulty machine's next slot begins, at the time of one of the good machine
abbrev pub own_begins : FlatDesign → TestPlan → StuckAt → ℕ → FirstSlot → State
own_begins design plan fault time slot = time_turn slot.begins.time (state_at (faulty_machine design fault) plan.end time)

-- both machines begin their next slots at one time, in lockstep
pub record BeginNextInLockstep (design : FlatDesign) (plan : TestPlan) (fault : StuckAt) (time : ℕ) (d : Differences) (slot : FirstSlot) : Type 0 where
  pub good_begins : slot.begins ≡ time_turn slot.begins.time (state_at (good_machine design) plan.end time)
  pub own_turns : next_slot_at plan.end (state_at (faulty_machine design fault) plan.end time) (turn_of (state_at (faulty_machine design fault) plan.end time))
      ≡ Some (own_begins design plan fault time slot)
  pub own_next : HasRun (faulty_machine design fault) plan.end (Some time) (Some (own_begins design plan fault time slot)) (state_at (faulty_machine design fault) plan.end time)
  pub stands : (phase : Phase) (later : List Phase) (marks : Marks) → slot_outcome (good_machine design) slot ≡ Fine → phases (good_machine design) slot ≡ phase ∷ later →
      StandsInLockstep design fault slot (own_begins design plan fault time slot) (first_place phase later) (first_moment (own_begins design plan fault time slot)) []
      marks (kept_of d)

pub record CopiesGoInLockstep : Type 0 where
  -- up to the next slot of the good machine the copy stays as it is
  pub stays : (design : FlatDesign) (plan : TestPlan) (fault : StuckAt) (number time later : ℕ) (d : Differences) → IsCopyInLockstep design plan fault number time d → time ≤ later →
      ((next : FirstSlot) → slice_get (good_slots design plan) (suc number) ≡ Some next → later < next.begins.time) → IsCopyInLockstep design plan fault number later d
  -- where the good machine has no further slot the faulty one has none, and never stops
  pub over : (design : FlatDesign) (plan : TestPlan) (fault : StuckAt) (number time : ℕ) (d : Differences) → IsCopyInLockstep design plan fault number time d →
      slice_get (good_slots design plan) (suc number) ≡ None → faulty_stop design plan fault ≡ None
  -- else both begin their next slots in lockstep
  pub begins : (design : FlatDesign) (plan : TestPlan) (fault : StuckAt) (number time : ℕ) (d : Differences) (slot : FirstSlot) → IsCopyInLockstep design plan fault number time d →
      slice_get (good_slots design plan) (suc number) ≡ Some slot → BeginNextInLockstep design plan fault time d slot
  -- where these end in lockstep, the copy behind them is what is kept then
  pub ends : (design : FlatDesign) (plan : TestPlan) (fault : StuckAt) (number time : ℕ) (d new : Differences) (slot : FirstSlot) (own : Moment) (kept : LockstepKept) →
      IsCopyInLockstep design plan fault number time d → slice_get (good_slots design plan) (suc number) ≡ Some slot → slot_outcome (good_machine design) slot ≡ Fine →
      EndInLockstep design fault slot (own_begins design plan fault time slot) own kept → AreJustKept kept new → IsCopyInLockstep design plan fault (suc number) slot.begins.time new
