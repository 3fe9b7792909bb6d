-- The accesses so far are noted.
use Rattle.std.proofs.Common.{map, take}
use Rattle.std.specs.Fn.{FnReturnsAt}
use Rattle.vf_base.specs.Base.{object_number}
use Rattle.block_told.specs.Tells.{noted_seen}
use Rattle.race_notes.specs.Notes.{note_at}
use Rattle.race_notes.specs.Access.{IsToldLike, AreNoted, KeepsListed}
use Rattle.race_notes.proofs.access.note_accesses.Given as goal

abbrev pub invariant-accesses : goal.invariant-accesses
invariant-accesses g l = record {
  noted : AreNoted (IsToldLike (FnReturnsAt g.F.Fn l.has_like)) l.begins (map noted_seen (take l.place l.accesses)) (note_at l.initial.objects.entries) (note_at l.objects.entries);
  listed : KeepsListed (note_at l.initial.objects.entries) (note_at l.objects.entries) (map object_number l.initial.noted.items) (map object_number l.noted.items);
}
