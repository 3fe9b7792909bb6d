-- What blocks of the faulty machine's own access in a phase, and what is noted of each object (accesses by IEEE 1364-2001, clause 5).
use Rattle.std.specs.Prelude.{◌≡◌, ◌&&◌, ◌+◌, ℕ, ◌≤◌, Bool, true, false, not, List, [], ◌∷◌, ◌++◌, map, count_by, unwrap_or, Option, Some, None, nat_eq}
use Rattle.std.specs.Map.{lookup}
use Rattle.vf_base.specs.Lists.{AllHold, has}
use Rattle.v_design.specs.Accesses.{AccessAct, Reading, Writing, Awaiting, Ending, Holding, Settling}
use Rattle.v_design.specs.Logs.{is_write}
use Rattle.trace_window.specs.Touched.{is_touching}
use Rattle.block_told.specs.Tells.{Seen}
use Rattle.race_notes.specs.declared.note.ObjectNote.{ObjectNote}
use Rattle.race_notes.specs.declared.note.OwnSpan.{OwnSpan}

-- Own blocks

-- a block of the faulty machine's own: the moments between which the good machine's block beside it stands, and what the faulty machine's accesses do
pub record OwnBlock : Type 0 where
  pub begins : ℕ
  pub ends : ℕ
  pub seen : List Seen

-- no access of some passes a test of its object and its act
abbrev pub NoneSeen : (ℕ → AccessAct → Bool) → List Seen → Type 0
NoneSeen test seen = AllHold (λ (one : Seen). test one.object one.act ≡ false) seen

-- none of some blocks
abbrev pub NoneSees : (ℕ → AccessAct → Bool) → List OwnBlock → Type 0
NoneSees test blocks = AllHold (λ (block : OwnBlock). NoneSeen test block.seen) blocks

-- how many accesses of some blocks do
abbrev pub count_seen : (ℕ → AccessAct → Bool) → List OwnBlock → ℕ
count_seen test [] = 0
count_seen test (block ∷ blocks) = count_by (λ (one : Seen). test one.object one.act) block.seen + count_seen test blocks

-- Tests

-- whether an access reads its object
abbrev pub is_reading : AccessAct → Bool
is_reading Reading = true
is_reading (Writing old new) = false
is_reading (Awaiting entry) = false
is_reading (Ending entry) = false
is_reading (Holding entry) = false
is_reading Settling = false

-- whether an access is of an object, reads it, writes it, or does one of both
abbrev pub is_of : ℕ → ℕ → AccessAct → Bool
is_of object other act = nat_eq other object

abbrev pub reads : ℕ → ℕ → AccessAct → Bool
reads object other act = nat_eq other object && is_reading act

abbrev pub writes : ℕ → ℕ → AccessAct → Bool
writes object other act = nat_eq other object && is_write act

abbrev pub touches : ℕ → ℕ → AccessAct → Bool
touches object other act = nat_eq other object && is_touching act

-- whether an access writes an object that isn't among some
abbrev pub writes_beside : List ℕ → ℕ → AccessAct → Bool
writes_beside objects other act = is_write act && not (has objects other)

-- Notes

-- an object of which nothing is noted
abbrev pub empty_note : ObjectNote
empty_note = record { suspect = false; met = false; read = false; written = false; again = false; since = None }

-- what is noted of an object, by notes that stand under objects' numbers
abbrev pub note_at : List (ℕ × ObjectNote) → ℕ → ObjectNote
note_at notes object = unwrap_or (lookup (nat_eq object) notes) empty_note

-- what contracts see of notes: the first moment of the phase; what is noted of objects, and of which; the objects that blocks of either machine wrote; and the moments of the good machine's blocks
pub record NotesKept : Type 0 where
  pub first : ℕ
  pub objects : List (ℕ × ObjectNote)
  pub noted : List ℕ
  pub changed : List ℕ
  pub spans : List OwnSpan

-- nothing is noted, from a moment on
pub record HasNoNotes (first : ℕ) (notes : NotesKept) : Type 0 where
  pub first_is : notes.first ≡ first
  pub objects : notes.objects ≡ []
  pub noted : notes.noted ≡ []
  pub changed : notes.changed ≡ []
  pub spans : notes.spans ≡ []

-- the first of some blocks that accesses an object begins with a moment; none does
abbrev pub IsSince : List OwnBlock → ℕ → Option ℕ → Type 0
IsSince blocks object None = NoneSees (is_of object) blocks
IsSince blocks object (Some moment) =
    (before : List OwnBlock) × (block : OwnBlock) × (behind : List OwnBlock) × (blocks ≡ before ++ block ∷ behind) × (block.begins ≡ moment) × NoneSees (is_of object) before

-- what a note says of an object holds of some blocks: where it isn't noted as read or as written, none reads or writes it; where it isn't noted again, they read or write it once at most
pub record IsNoteOf (blocks : List OwnBlock) (object : ℕ) (note : ObjectNote) : Type 0 where
  pub unread : note.read ≡ false → NoneSees (reads object) blocks
  pub unwritten : note.written ≡ false → NoneSees (writes object) blocks
  pub once : note.again ≡ false → count_seen (touches object) blocks ≤ 1
  pub since : IsSince blocks object note.since

-- the moments of a block
abbrev pub span_of : OwnBlock → OwnSpan
span_of block = record { begins = block.begins; ends = block.ends }

-- notes are of some blocks
pub record AreNotesOf (blocks : List OwnBlock) (notes : NotesKept) : Type 0 where
  pub spans : notes.spans ≡ map span_of blocks
  pub objects : (object : ℕ) → IsNoteOf blocks object (note_at notes.objects object)
  pub others : (object : ℕ) → has notes.noted object ≡ false → note_at notes.objects object ≡ empty_note
  pub written : NoneSees (writes_beside notes.changed) blocks
