-- A block is noted part by part.
use Rattle.std.proofs.Common.{[], ◌∷◌, ◌++◌, map, refl, ap, subst, ◌∙◌}
use Rattle.std.specs.Fn.{FnReturnsAt}
use Rattle.std.proofs.lemmas.List.{map-append}
use Rattle.vf_base.specs.Base.{object_number}
use Rattle.block_told.specs.Tells.{noted_seen}
use Rattle.race_notes.specs.Notes.{OwnBlock, note_at, NotesKept, span_of}
use Rattle.race_notes.specs.Access.{IsToldLike, AreNoted, KeepsListed, written_in}
use Rattle.race_notes.specs.Told.{NotesBlock}
use Rattle.race_notes.proofs.NotesOf.{notes_block}
use Rattle.race_notes.proofs.notes.RaceNotes.note.Goals as goal

pub returns : goal.returns
returns g c =
    let likes = IsToldLike (FnReturnsAt g.F.Fn c.args.has_like) in
    let written = map object_number c.args.written.now in
    let same = ap (map noted_seen) c.as_slice-accesses.ensures.value in
    let inside = c.self.inside in
    let block : OwnBlock = record { begins = c.args.span.begins; ends = c.args.span.ends; seen = map noted_seen c.args.told.now.accesses.items } in
    let old : NotesKept =
    record {
      first = inside.first;
      objects = inside.objects.entries;
      noted = map object_number inside.noted.items;
      changed = map object_number inside.changed.items;
      spans = inside.spans.items;
    } in
    let new : NotesKept =
    record {
      first = inside.first;
      objects = c.note_accesses.new.objects.entries;
      noted = map object_number c.note_accesses.new.noted.items;
      changed = map object_number c.extend_from_slice.new.self.items;
      spans = c.push.new.self.items;
    } in
    subst (λ o. NotesBlock likes written block o new) c.self.view_is
    (notes_block likes written block old new (record {
      first_is = refl;
      objects = subst (λ l. AreNoted likes c.args.span.begins l (note_at old.objects) (note_at new.objects)) same c.in_ok-note_accesses.ensures.objects;
      listed = subst (λ l. KeepsListed (note_at old.objects) (note_at new.objects) l new.noted) (ap (map object_number) c.in_ok-make_room.ensures.noted) c.in_ok-note_accesses.ensures.noted;
      changed =
          ap (map object_number) c.in_ok-extend_from_slice.ensures.items ∙ map-append object_number c.list_written.new.written.items c.args.written.now
          ∙ ap (λ l. l ++ written) (c.in_ok-list_written.ensures ∙ (λ i. map object_number (c.in_ok-make_room.ensures.changed i) ++ written_in (same i)));
      spans = c.in_ok-push.ensures.items ∙ ap (λ l. l ++ span_of block ∷ []) c.in_ok-make_room.ensures.spans;
    }))
