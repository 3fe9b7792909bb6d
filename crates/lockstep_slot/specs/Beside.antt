-- Faults through a slot side by side (slots by IEEE 1364-2001, clause 5).
use Rattle.std.specs.Prelude.{◌≡◌, ℕ, ◌+◌, ◌<◌, Bool, true, [], length, Some, slice_get}
use Rattle.v_design.specs.Designs.{FlatDesign, StuckAt, TestPlan, good_machine}
use Rattle.v_design.specs.Grades.{phases}
use Rattle.v_design.specs.Plain.{fault_of}
use Rattle.v_design.specs.Runs.{FirstSlot, most_steps}
use Rattle.copy_laws.specs.Differences.{Ascend}
use Rattle.copy_laws.specs.Windows.{good_slots}
use Rattle.lockstep_phase.specs.lockstep_copies.Copies.{IsCopyInLockstep}
use Rattle.race_notes.specs.Notes.{HasNoNotes}
use Rattle.trace_window.specs.Moments.{window_events}
use Rattle.lockstep_phase.specs.slot_laws.Copies.{MayBeginSlot, lockstep_differences}
use Rattle.lockstep_phase.specs.slot_laws.Laws.{events_all}
use Rattle.lockstep_phase.specs.lockstep_block.declared.room.FaultInSlot.{FaultInSlot}
use Rattle.lockstep_phase.specs.phase_faults.Beside.{StaysBeside}
use Rattle.lockstep_phase.specs.lockstep_block.Blocks.{TriedInSlot}
use Rattle.lockstep_phase.specs.phase_faults.declared.beside.FaultBeside.{FaultBeside}

-- a fault may go through the slot of a number of a window: its copy may begin the slot, no update is in a lane, nothing is noted, with the slot's events the steps to spare are those of a slot,
-- the fault took no step itself, and no run is apart
pub record BeginsSlot (design : FlatDesign) (plan : TestPlan) (fault : StuckAt) (from until number : ℕ) (one : FaultInSlot) : Type 0 where
  pub within : from + number < until
  pub may : MayBeginSlot design plan fault (from + number) one.own.copy
  pub lanes : one.own.lanes ≡ []
  pub notes : HasNoNotes (length (window_events design plan from (from + number))) one.notes
  pub spare : one.spare + events_all (phases (good_machine design) may.slot) ≡ most_steps
  pub untried : one.tried.items ≡ []
  pub together : one.apart.items ≡ []

-- of several faults each one that goes
abbrev pub BeginsSlotIf : FlatDesign → TestPlan → ℕ → ℕ → ℕ → FaultBeside → Type 0
BeginsSlotIf design plan from until number each = each.goes ≡ true → BeginsSlot design plan (fault_of each.fault) from until number each.one

-- a fault went through the slot of a number of the good first run: where it still goes, what is kept of it stands in lockstep behind the slot; where it went, the steps that it took itself
-- are those of some moment of the faulty machine's slot
pub record ComesThroughSlot (design : FlatDesign) (plan : TestPlan) (number : ℕ) (old new : FaultBeside) : Type 0 where
  pub stays : StaysBeside old new
  pub through : new.goes ≡ true → (slot : FirstSlot) → slice_get (good_slots design plan) number ≡ Some slot →
      IsCopyInLockstep design plan (fault_of old.fault) number slot.begins.time (lockstep_differences new.one.own.copy)
  pub tried : old.goes ≡ true → (of : MayBeginSlot design plan (fault_of old.fault) number old.one.own.copy) →
      TriedInSlot design (fault_of old.fault) of.slot of.begins new.one.tried.items

-- what is kept of a fault ascends, each object and process once
pub record KeepsAscending (each : FaultBeside) : Type 0 where
  pub values : Ascend each.one.own.copy.values
  pub updates : Ascend each.one.own.copy.updates

-- whether a fault still goes in lockstep
abbrev pub still_goes : FaultBeside → Bool
still_goes each = each.goes
