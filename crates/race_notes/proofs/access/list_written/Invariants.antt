-- What is listed so far, and what is left to be, are all.
use Rattle.std.proofs.Common.{◌≡◌, ◌++◌, map, drop}
use Rattle.vf_base.specs.Base.{object_number}
use Rattle.block_told.specs.Tells.{noted_seen}
use Rattle.race_notes.specs.Access.{written_in}
use Rattle.race_notes.proofs.access.list_written.Given as goal

abbrev pub invariant-accesses : goal.invariant-accesses
invariant-accesses l =
    map object_number l.written.items ++ written_in (map noted_seen (drop l.access-index l.accesses))
    ≡ map object_number l.initial.written.items ++ written_in (map noted_seen l.accesses)
