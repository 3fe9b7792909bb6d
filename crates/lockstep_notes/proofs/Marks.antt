-- The marks that notes are grow, and take in what a noted block accesses.
use Rattle.std.proofs.Common.{◌≡◌, ℕ, List, [], ◌∷◌, map, Bool, true, false, ◌||◌, ◌&&◌, refl, sym, ap, subst, ◌∙◌, inl, inr}
use Rattle.std.specs.Prelude.{◌⊎◌, nat_lt}
use Rattle.vf_base.specs.Lists.{AllHold, has}
use Rattle.v_design.specs.Trees.{Entry}
use Rattle.v_design.specs.Paths.{paths, net_pieces}
use Rattle.v_design.specs.Designs.{FlatDesign, StuckAt, good_machine, faulty_machine}
use Rattle.v_design.specs.States.{State, Event}
use Rattle.v_design.specs.Accesses.{ObjectAccess}
use Rattle.v_design.specs.Logs.{phase_changes}
use Rattle.v_design.specs.PhaseLogs.{log_of}
use Rattle.trace_window.specs.Moments.{seen_from}
use Rattle.block_filter.specs.Likes.{Marks, AreWider, HasLikeAmong}
use Rattle.block_filter.specs.Blocks.{all_accesses, IsSuspectOrMet}
use Rattle.block_told.specs.Tells.{Seen, access_seen}
use Rattle.race_notes.specs.Notes.{OwnBlock, NoneSeen, writes_beside, note_at, NotesKept}
use Rattle.race_notes.specs.Told.{NotesGrow, IsSuspectOrLiked, NotesBlock}
use Rattle.race_notes.proofs.Lists.{all-weaker}
use Rattle.race_notes.proofs.Noted.{or-left, or-right}
use Rattle.lockstep_notes.specs.Notes.{some_reaches, marks_of}
use Rattle.lockstep_notes.specs.Likes.{LikeSeen}
use Rattle.lockstep_notes.specs.Beside.{TakesIn}
use Rattle.lockstep_notes.proofs.Changes.{any-longer, IsWritten, own-listed, good-written, all-reach}

pub wider : (design : FlatDesign) (old new : NotesKept) → NotesGrow old new → AreWider (marks_of design old) (marks_of design new)
wider design old new grow = record {
  suspect = λ object is. go object (note_at old.objects object).suspect refl is;
  met = λ object is. grow.met object is;
  awaited = λ entry is. refl;
}
  where
    reached : (object : ℕ) → (has (net_pieces design) object && some_reaches design old.changed object) ≡ true →
        (has (net_pieces design) object && some_reaches design new.changed object) ≡ true
    reached object is = both (has (net_pieces design) object) refl is
      where
        both : (b : Bool) → has (net_pieces design) object ≡ b → (b && some_reaches design old.changed object) ≡ true → (has (net_pieces design) object && some_reaches design new.changed object) ≡ true
        both true e r = (λ i. e i && any-longer (λ source. nat_lt 0 (paths design source object)) old.changed new.changed grow.changed r i)
        both false e r = cc

    go : (object : ℕ) (b : Bool) → (note_at old.objects object).suspect ≡ b → (b || (has (net_pieces design) object && some_reaches design old.changed object)) ≡ true →
        ((note_at new.objects object).suspect || (has (net_pieces design) object && some_reaches design new.changed object)) ≡ true
    go object true e is = or-left (note_at new.objects object).suspect (has (net_pieces design) object && some_reaches design new.changed object) (grow.suspect object e)
    go object false e is = or-right (note_at new.objects object).suspect (has (net_pieces design) object && some_reaches design new.changed object) (reached object is)

-- a like that is told is one
like-among : (awaited : Entry → Bool) (ones : List ObjectAccess) (access : ObjectAccess) → LikeSeen ones (access_seen access) → HasLikeAmong awaited ones access
like-among awaited ones access like = (like.one, like.is_in, record { object = like.object_is; act = inl like.act_is })

all-seen : (P : Seen → Type 0) (accesses : List ObjectAccess) → AllHold P (map access_seen accesses) → AllHold (λ (access : ObjectAccess). P (access_seen access)) accesses
all-seen P [] all = tt
all-seen P (access ∷ accesses) all = (all.0, all-seen P accesses all.1)

-- the marks take in a block that is noted
pub takes-in : (design : FlatDesign) (fault : StuckAt) (good faulty : State) (ones others : List Event) (has_like : Seen → Type 0) (written : List ℕ) (block : OwnBlock) (old new : NotesKept) →
    NotesBlock has_like written block old new → block.seen ≡ map access_seen (all_accesses (log_of (faulty_machine design fault) faulty others)) →
    ((object : ℕ) → IsWritten (good_machine design) good ones object → has written object ≡ true) →
    ((seen : Seen) → has_like seen → LikeSeen (all_accesses (log_of (good_machine design) good ones)) seen) → TakesIn design fault (marks_of design new) good faulty ones others
takes-in design fault good faulty ones others has_like written block old new noted seen_is writes likes = record {
  good_reaches =
      all-reach design new (phase_changes design (log_of (good_machine design) good ones))
      (all-weaker (IsWritten (good_machine design) good ones) (λ object. has new.changed object ≡ true) (phase_changes design (log_of (good_machine design) good ones))
      (λ object is. noted.good_written object (writes object is)) (good-written (good_machine design) good ones));
  own_reaches =
      all-reach design new (phase_changes design (log_of (faulty_machine design fault) faulty others))
      (own-listed design new.changed (log_of (faulty_machine design fault) faulty others)
      (all-seen (λ (s : Seen). writes_beside new.changed s.object s.act ≡ false) accesses (subst (NoneSeen (writes_beside new.changed)) seen_is noted.own_written)));
  accesses =
      all-weaker (λ (access : ObjectAccess). IsSuspectOrLiked has_like new (access_seen access))
      (IsSuspectOrMet (marks_of design new) (all_accesses (log_of (good_machine design) good ones))) accesses taken
      (all-seen (IsSuspectOrLiked has_like new) accesses (subst (AllHold (IsSuspectOrLiked has_like new)) seen_is noted.accesses));
}
  where
    accesses : List ObjectAccess
    accesses = all_accesses (log_of (faulty_machine design fault) faulty others)

    taken : (access : ObjectAccess) → IsSuspectOrLiked has_like new (access_seen access) → IsSuspectOrMet (marks_of design new) (all_accesses (log_of (good_machine design) good ones)) access
    taken access (inl is) = inl (or-left (note_at new.objects access.object).suspect (has (net_pieces design) access.object && some_reaches design new.changed access.object) is)
    taken access (inr met) =
        inr (met.0, like-among (λ entry. true) (all_accesses (log_of (good_machine design) good ones)) access (likes (access_seen access) met.1))
