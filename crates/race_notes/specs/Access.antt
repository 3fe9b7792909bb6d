-- How notes grow by one access after another (accesses by IEEE 1364-2001, clause 5).
use Rattle.std.specs.Prelude.{◌≡◌, ◌||◌, ◌&&◌, ℕ, Bool, true, not, List, [], ◌∷◌, cond, nat_eq, is_none, false, Option, Some, None}
use Rattle.v_design.specs.Accesses.{AccessAct}
use Rattle.v_design.specs.Logs.{is_write}
use Rattle.vf_base.specs.Lists.{has}
use Rattle.causal_monitor.specs.declared.noted.Noted.{Noted}
use Rattle.block_told.specs.Tells.{Seen, noted_seen}
use Rattle.race_notes.specs.declared.note.ObjectNote.{ObjectNote}
use Rattle.race_notes.specs.Notes.{is_reading}

-- the first moment, which is kept
abbrev pub first_moment : Option ℕ → ℕ → Option ℕ
first_moment None moment = Some moment
first_moment (Some first) moment = Some first

-- what is noted of an object after one access more, in a block that begins with a moment, which has its like in the good machine's or hasn't
abbrev pub with_access : ℕ → Bool → AccessAct → ObjectNote → ObjectNote
with_access begins like act note = record {
  suspect = note.suspect || not like;
  met = note.met || like;
  read = note.read || is_reading act;
  written = note.written || is_write act;
  again = note.again || ((note.read || note.written) && (is_reading act || is_write act));
  since = first_moment note.since begins;
}

-- notes with another one of an object
abbrev pub updated : (ℕ → ObjectNote) → ℕ → ObjectNote → ℕ → ObjectNote
updated notes object note other = cond (nat_eq object other) note (notes other)

-- an access of which a test answers that it has its like
abbrev pub IsToldLike : (Noted → Bool → Type 0) → Seen → Type 0
IsToldLike answers seen = (access : Noted) × (noted_seen access ≡ seen) × answers access true

-- some accesses are noted one by one; where one is taken to have its like, it has
abbrev pub AreNoted : (Seen → Type 0) → ℕ → List Seen → (ℕ → ObjectNote) → (ℕ → ObjectNote) → Type 0
AreNoted has_like begins [] old new = (object : ℕ) → new object ≡ old object
AreNoted has_like begins (seen ∷ rest) old new =
    (like : Bool) × (like ≡ true → has_like seen) × AreNoted has_like begins rest (updated old seen.object (with_access begins like seen.act (old seen.object))) new

-- the objects that some accesses write, as often as they do
abbrev pub written_in : List Seen → List ℕ
written_in [] = []
written_in (seen ∷ rest) = cond (is_write seen.act) (seen.object ∷ written_in rest) (written_in rest)

-- an object is listed, if it is one of which nothing was noted
abbrev pub ListsNoted : ℕ → ObjectNote → List ℕ → List ℕ → Type 0
ListsNoted object note old new = (other : ℕ) → has new other ≡ (has old other || (is_none note.since && nat_eq object other))

-- an object that isn't listed is noted as before, and wasn't listed before
pub record KeepsListed (notes later : ℕ → ObjectNote) (old new : List ℕ) : Type 0 where
  pub stays : (object : ℕ) → has new object ≡ false → has old object ≡ false
  pub others : (object : ℕ) → has new object ≡ false → is_none (notes object).since ≡ true → later object ≡ notes object
