-- One access more is noted.
use Rattle.std.proofs.Common.{◌<◌, [], ◌∷◌, ◌++◌, map, take, length, refl, sym, ap, subst, ◌∙◌, arith}
use Rattle.std.specs.Fn.{FnReturnsAt}
use Rattle.std.proofs.lemmas.Fn.{says_at}
use Rattle.std.proofs.lemmas.List.{map-append, take_more}
use Rattle.vf_base.specs.Base.{object_number}
use Rattle.block_told.specs.Tells.{noted_seen}
use Rattle.race_notes.specs.Notes.{note_at}
use Rattle.race_notes.specs.Access.{with_access, IsToldLike, AreNoted}
use Rattle.race_notes.proofs.Noted.{noted-push}
use Rattle.race_notes.proofs.NotesOf.{listed-more}
use Rattle.race_notes.proofs.access.note_accesses.Goals as goal

pub accesses-preserved : goal.accesses-preserved
accesses-preserved g c =
    let answers = FnReturnsAt g.F.Fn c.args.has_like in
    let likes = IsToldLike answers in
    let accesses = c.args.accesses.now in
    let place = c.accesses.place in
    let access = c.index-accesses-place.result in
    let old = note_at c.args.objects.now.entries in
    let mid = note_at c.accesses.objects.entries in
    let new = note_at c.note_access.new.objects.entries in
    let low : place < length accesses = omega arith in
    let taken = take_more accesses place access low ∙ ap (λ a. take place accesses ++ a ∷ []) (sym c.index-accesses-place.is) in
    let seen = map noted_seen (take place accesses) in
    let gave : answers access c.has_like-like.result = says_at g.F.Fn c.has_like-like.ensures refl in
    let note = with_access c.args.begins c.has_like-like.result (noted_seen access).act (mid (noted_seen access).object) in
    record {
      noted =
          subst (λ l. AreNoted likes c.args.begins l old new) (sym (ap (map noted_seen) taken ∙ map-append noted_seen (take place accesses) (access ∷ [])))
          (noted-push likes c.args.begins seen (noted_seen access) c.has_like-like.result old mid new c.accesses.invariant.noted
          (λ yes. (access, refl, subst (answers access) yes gave)) c.in_ok-note_access.ensures.objects);
      listed =
          listed-more old mid new (map object_number c.args.noted.now.items) (map object_number c.accesses.noted.items) (map object_number c.note_access.new.noted.items)
          (noted_seen access).object note c.accesses.invariant.listed c.in_ok-note_access.ensures.noted c.in_ok-note_access.ensures.objects;
    }
