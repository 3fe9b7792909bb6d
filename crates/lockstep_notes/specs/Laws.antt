-- How notes go on with the pairs of blocks of a phase (phases by IEEE 1364-2001, clause 5).
use Rattle.std.specs.Prelude.{◌≡◌, ◌+◌, ℕ, List, [], ◌∷◌, ◌++◌, length}
use Rattle.v_design.specs.Designs.{FlatDesign, StuckAt, TestPlan, faulty_machine}
use Rattle.v_design.specs.States.{Event}
use Rattle.machine_laws.specs.SlotLoop.{Moment, after_events}
use Rattle.block_filter.specs.Blocks.{BlockPair, Alike}
use Rattle.window_tests.specs.lockstep_slots.Places.{Place, behind_events}
use Rattle.window_tests.specs.window_places.Windows.{IsAtMoment}
use Rattle.race_notes.specs.Notes.{NotesKept, HasNoNotes}
use Rattle.lockstep_notes.specs.Notes.{NotesTell}

pub record NotesGoOn : Type 0 where
  -- a phase begins, and nothing is noted
  pub begins : (design : FlatDesign) (plan : TestPlan) (fault : StuckAt) (begins ends moment : ℕ) (place : Place) (own : Moment) (notes : NotesKept) →
      IsAtMoment design plan begins ends moment place → place.passed ≡ [] → place.left ≡ place.phase.events → own.state ≡ own.phase_begins → HasNoNotes moment notes →
      NotesTell design plan fault begins ends moment place own [] notes
  -- a stretch that both machines take is passed over
  pub passes : (design : FlatDesign) (plan : TestPlan) (fault : StuckAt) (begins ends moment : ℕ) (place : Place) (own : Moment) (pairs : List BlockPair) (notes : NotesKept)
      (events more : List Event) → NotesTell design plan fault begins ends moment place own pairs notes → place.left ≡ events ++ more →
      NotesTell design plan fault begins ends (moment + length events) (behind_events events more place) (after_events (faulty_machine design fault) events own)
      (pairs ++ Alike events ∷ []) notes
