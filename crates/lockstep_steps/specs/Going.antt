-- Both machines at a place of a slot in lockstep, with all that is known there (slots, phases and blocks by IEEE 1364-2001, clause 5).
use Rattle.std.specs.Prelude.{ℕ, ◌+◌, ◌≤◌, List}
use Rattle.v_design.specs.Designs.{FlatDesign, StuckAt, TestPlan, good_machine}
use Rattle.v_design.specs.States.{State}
use Rattle.v_design.specs.Runs.{FirstSlot, most_steps}
use Rattle.machine_laws.specs.SlotLoop.{Moment}
use Rattle.block_filter.specs.Blocks.{BlockPair}
use Rattle.race_laws.specs.Writes.{WritesAreOf}
use Rattle.lockstep_race.specs.Alike.{AreAlike}
use Rattle.lockstep_notes.specs.lockstep_slots.Kept.{LockstepKept}
use Rattle.lockstep_notes.specs.lockstep_slots.Places.{Place, state_there, steps_left}
use Rattle.lockstep_notes.specs.lockstep_slots.Standing.{StandsInLockstep}
use Rattle.lockstep_notes.specs.window_places.Windows.{IsAtMoment}
use Rattle.race_notes.specs.Notes.{NotesKept}
use Rattle.lockstep_notes.specs.Notes.{NotesTell, marks_of}
use Rattle.moments_stand.specs.Standing.{AllMayStand}

-- at a place of a slot, and a moment of the window of the slots from a number to before another, both machines stand in lockstep with what is kept; the notes are those of the present phase's own blocks, of
-- which the other stretches do alike; each of the good machine's processes may stand where it does, and the faulty machine's are still to write objects of the design; and the faulty machine may yet take
-- as many process and lane steps as are left of the good slot, and some to spare
pub record IsGoing (design : FlatDesign) (plan : TestPlan) (fault : StuckAt) (slot : FirstSlot) (begins : State) (from until moment : ℕ) (place : Place) (own : Moment) (pairs : List BlockPair)
    (notes : NotesKept) (kept : LockstepKept) (spare : ℕ) : Type 0 where
  pub stands : StandsInLockstep design fault slot begins place own pairs (marks_of design notes) kept
  pub at : IsAtMoment design plan from until moment place
  pub alike : AreAlike design fault place.phase.begins own.phase_begins pairs
  pub noted : NotesTell design plan fault from until moment place own pairs notes
  pub may : AllMayStand design (state_there (good_machine design) place)
  pub writes : WritesAreOf design own.state
  pub room : own.steps + steps_left place + spare ≤ most_steps
