use Rattle.std.proofs.Common.{◌≡◌, take, map}
use Rattle.elab_parts.specs.PartViews.{part_of}
use Rattle.elab_wires.specs.WrittenNames.{written_of, written_from}
use Rattle.elab_wires.proofs.written.list_written.Given as goal

abbrev pub invariant-parts : goal.invariant-parts
invariant-parts l = map written_of l.written.items ≡ written_from 0 (map part_of (take l.number l.parts))
