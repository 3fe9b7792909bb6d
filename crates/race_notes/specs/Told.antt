-- What one block more adds to notes (accesses by IEEE 1364-2001, clause 5).
use Rattle.std.specs.Prelude.{◌≡◌, ◌⊎◌, ℕ, true, List, [], ◌∷◌, ◌++◌}
use Rattle.vf_base.specs.Lists.{AllHold, has}
use Rattle.block_told.specs.Tells.{Seen}
use Rattle.race_notes.specs.Notes.{OwnBlock, NoneSeen, writes_beside, note_at, NotesKept, AreNotesOf}

-- nothing that is noted is taken back
pub record NotesGrow (old new : NotesKept) : Type 0 where
  pub first_is : new.first ≡ old.first
  pub suspect : (object : ℕ) → (note_at old.objects object).suspect ≡ true → (note_at new.objects object).suspect ≡ true
  pub met : (object : ℕ) → (note_at old.objects object).met ≡ true → (note_at new.objects object).met ≡ true
  pub changed : (object : ℕ) → has old.changed object ≡ true → has new.changed object ≡ true

-- an access is of an object that is noted as suspect, or of a met one, and then it has a like
abbrev pub IsSuspectOrLiked : (Seen → Type 0) → NotesKept → Seen → Type 0
IsSuspectOrLiked has_like notes seen = ((note_at notes.objects seen.object).suspect ≡ true) ⊎ (((note_at notes.objects seen.object).met ≡ true) × has_like seen)

-- a block is noted, beside which the good machine's block wrote some objects: its accesses and what both wrote stand in the notes, which are of one block more
pub record NotesBlock (has_like : Seen → Type 0) (written : List ℕ) (block : OwnBlock) (old new : NotesKept) : Type 0 where
  pub grow : NotesGrow old new
  pub accesses : AllHold (IsSuspectOrLiked has_like new) block.seen
  pub own_written : NoneSeen (writes_beside new.changed) block.seen
  pub good_written : (object : ℕ) → has written object ≡ true → has new.changed object ≡ true
  pub notes : (blocks : List OwnBlock) → AreNotesOf blocks old → AreNotesOf (blocks ++ block ∷ []) new
