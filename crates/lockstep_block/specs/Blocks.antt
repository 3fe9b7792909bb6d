-- A faulty machine that goes in lockstep through a window (slots by IEEE 1364-2001, clause 5).
use Rattle.std.specs.Prelude.{◌≡◌, ℕ, List, length}
use Rattle.v_design.specs.Designs.{FlatDesign, StuckAt, TestPlan, good_machine, faulty_machine}
use Rattle.v_design.specs.Grades.{Phase, phases}
use Rattle.v_design.specs.Runs.{FirstSlot}
use Rattle.v_design.specs.States.{State}
use Rattle.machine_laws.specs.SlotLoop.{Moment, present_phase}
use Rattle.phase_blocks.specs.Blocks.{IsBetweenRuns}
use Rattle.own_counts.specs.Slots.{NumbersAre}
use Rattle.own_slots.specs.Slots.{OwnSoFar, WereTried}
use Rattle.run_numbers.specs.Numbers.{good_more, own_more}
use Rattle.run_numbers.specs.declared.numbers.RunApart.{RunApart}
use Rattle.good_runs.specs.declared.tried.TriedStep.{TriedStep}
use Rattle.block_filter.specs.Blocks.{BlockPair}
use Rattle.faulty_block.specs.lockstep_copy.Kept.{kept_by}
use Rattle.faulty_block.specs.lockstep_copy.declared.own.LockstepCopy.{LockstepCopy}
use Rattle.lockstep_steps.specs.lockstep_slots.Places.{Place}
use Rattle.lockstep_steps.specs.Going.{IsGoing}
use Rattle.race_notes.specs.Notes.{NotesKept}

-- what happened of a phase up to a place
abbrev pub passed_phase : Place → Phase
passed_phase place = record place.phase { events = place.passed }

-- the faulty machine is, between runs, in a phase of its slot that begins with a turn of the same kind as the good machine's of that number; of each process as many runs ended in it as in that one so
-- far, but for those that one machine alone ended
pub record IsPhaseBeside (design : FlatDesign) (fault : StuckAt) (place : Place) (at : Moment) (apart : List RunApart) : Type 0 where
  pub number_is : length at.ended ≡ length place.ended
  pub turn_is : at.turn ≡ place.phase.turn
  pub between : IsBetweenRuns (faulty_machine design fault) at.phase_begins at.events
  pub numbers : NumbersAre (good_machine design) (faulty_machine design fault) (passed_phase place) (present_phase at) (own_more apart) (good_more apart)

-- at a place and a moment of a window a faulty machine goes in lockstep with what is kept of it; of the process steps that it has taken in the slot these were taken by itself, all others as the good machine
-- took them
pub record FaultGoes (design : FlatDesign) (plan : TestPlan) (fault : StuckAt) (slot : FirstSlot) (begins : State) (from until moment : ℕ) (place : Place) (notes : NotesKept)
    (own : LockstepCopy) (spare : ℕ) (tried : List TriedStep) (apart : List RunApart) : Type 0 where
  pub at : Moment
  pub pairs : List BlockPair
  pub going : IsGoing design plan fault slot begins from until moment place at pairs notes (kept_by own) spare
  pub so_far : OwnSoFar (good_machine design) (faulty_machine design fault) (phases (good_machine design) slot) at tried
  pub beside : IsPhaseBeside design fault place at apart

-- these are steps that a faulty machine took itself in a slot, up to some moment of it
abbrev pub TriedInSlot : FlatDesign → StuckAt → FirstSlot → State → List TriedStep → Type 0
TriedInSlot design fault slot begins tried = WereTried (good_machine design) (faulty_machine design fault) (phases (good_machine design) slot) begins tried
