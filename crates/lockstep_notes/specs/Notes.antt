-- The notes of a phase in lockstep beside its pairs of blocks, and the marks that they are (phases and accesses by IEEE 1364-2001, clause 5).
use Rattle.std.specs.Prelude.{◌≡◌, ◌||◌, ◌&&◌, ℕ, ◌+◌, Bool, true, false, List, [], ◌∷◌, length, map, nat_lt}
use Rattle.std.specs.List.{list_any}
use Rattle.vf_base.specs.Lists.{has}
use Rattle.v_design.specs.Paths.{paths, net_pieces}
use Rattle.v_design.specs.Designs.{FlatDesign, StuckAt, TestPlan, good_machine, faulty_machine}
use Rattle.v_design.specs.States.{State, Event}
use Rattle.v_design.specs.Runs.{happened}
use Rattle.v_design.specs.PhaseLogs.{log_of}
use Rattle.machine_laws.specs.SlotLoop.{Moment}
use Rattle.block_filter.specs.Likes.{Marks}
use Rattle.block_filter.specs.Blocks.{BlockPair, Alike, Unlike, good_phase, faulty_phase, all_accesses}
use Rattle.block_told.specs.Tells.{access_seen}
use Rattle.window_tests.specs.lockstep_slots.Places.{Place}
use Rattle.window_tests.specs.window_places.Windows.{IsAtMoment}
use Rattle.race_notes.specs.Notes.{OwnBlock, note_at, NotesKept, AreNotesOf}

-- the faulty machine's own blocks among some pairs, the first of which begins with a moment of the good machine
abbrev pub own_blocks : FlatDesign → StuckAt → ℕ → State → List BlockPair → List OwnBlock
own_blocks design fault moment faulty [] = []
own_blocks design fault moment faulty (Alike events ∷ pairs) = own_blocks design fault (moment + length events) (happened (faulty_machine design fault) faulty events) pairs
own_blocks design fault moment faulty (Unlike first ones others ∷ pairs) =
    record {
      begins = moment;
      ends = moment + length (first ∷ ones);
      seen = map access_seen (all_accesses (log_of (faulty_machine design fault) faulty (first ∷ others)));
    }
    ∷ own_blocks design fault (moment + length (first ∷ ones)) (happened (faulty_machine design fault) faulty (first ∷ others)) pairs

-- whether a change of one of some objects reaches an object
abbrev pub some_reaches : FlatDesign → List ℕ → ℕ → Bool
some_reaches design changed object = list_any (λ source. nat_lt 0 (paths design source object)) changed

-- the marks that notes are: objects that are noted as suspect are, and net pieces that are reached from what own blocks of either machine wrote; objects that are noted as met are met; every entry may
-- be waited on
abbrev pub marks_of : FlatDesign → NotesKept → Marks
marks_of design notes = record {
  suspect = λ object. (note_at notes.objects object).suspect || (has (net_pieces design) object && some_reaches design notes.changed object);
  met = λ object. (note_at notes.objects object).met;
  awaited = λ entry. true;
}

-- a place where the present phase begins
abbrev pub phase_place : Place → Place
phase_place place = record { ended = place.ended; phase = place.phase; later = place.later; passed = []; left = place.phase.events }

-- notes tell of the present phase's pairs of blocks up to a place and its moment in a window: they are of its own blocks
pub record NotesTell (design : FlatDesign) (plan : TestPlan) (fault : StuckAt) (begins ends moment : ℕ) (place : Place) (own : Moment) (pairs : List BlockPair) (notes : NotesKept) : Type 0 where
  pub window : IsAtMoment design plan begins ends notes.first (phase_place place)
  pub moment_is : moment ≡ notes.first + length place.passed
  pub good_pairs : good_phase pairs ≡ place.passed
  pub own_state : own.state ≡ happened (faulty_machine design fault) own.phase_begins (faulty_phase pairs)
  pub told : AreNotesOf (own_blocks design fault notes.first own.phase_begins pairs) notes
