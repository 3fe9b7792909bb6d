-- A phase that both machines went through in lockstep, and whose own blocks are noted (phases by IEEE 1364-2001, clause 5).
use Rattle.std.specs.Prelude.{◌≡◌, ℕ, List, []}
use Rattle.v_design.specs.Designs.{FlatDesign, StuckAt, TestPlan, faulty_machine}
use Rattle.v_design.specs.States.{State}
use Rattle.v_design.specs.Runs.{FirstSlot}
use Rattle.machine_laws.specs.SlotLoop.{Moment}
use Rattle.wait_index.specs.Waits.{WaitsAreOfBodies}
use Rattle.block_filter.specs.Likes.{Marks}
use Rattle.block_filter.specs.Blocks.{BlockPair}
use Rattle.lockstep_race.specs.Alike.{AreAlike}
use Rattle.phase_reach.specs.lockstep_slots.Kept.{LockstepKept}
use Rattle.phase_reach.specs.lockstep_slots.Places.{Place}
use Rattle.phase_reach.specs.lockstep_slots.Standing.{StandsInLockstep}
use Rattle.race_notes.specs.Notes.{NotesKept}
use Rattle.phase_reach.specs.lockstep_notes.Notes.{NotesTell}

-- both machines stand in lockstep at the end of a phase, in which the stretches that both took do alike; the faulty machine's processes wait on objects of their texts as its slot begins; and the notes
-- are of the phase's own blocks
pub record IsPhaseNoted (design : FlatDesign) (plan : TestPlan) (fault : StuckAt) (begins ends end : ℕ) (place : Place) (own : Moment) (pairs : List BlockPair) (notes : NotesKept) : Type 0 where
  pub slot : FirstSlot
  pub own_begins : State
  pub marks : Marks
  pub kept : LockstepKept
  pub stands : StandsInLockstep design fault slot own_begins place own pairs marks kept
  pub through : place.left ≡ []
  pub alike : AreAlike design fault place.phase.begins own.phase_begins pairs
  pub waits : WaitsAreOfBodies (faulty_machine design fault) own_begins
  pub noted : NotesTell design plan fault begins ends end place own pairs notes
