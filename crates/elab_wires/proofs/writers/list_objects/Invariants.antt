use Rattle.std.proofs.Common.{◌≡◌, take, map}
use Rattle.key_index.specs.Groups.{keyed_of}
use Rattle.elab_wires.specs.WrittenNames.{written_of, objects_written}
use Rattle.elab_wires.proofs.writers.list_objects.Given as goal

abbrev pub invariant-written : goal.invariant-written
invariant-written l = map keyed_of l.objects.items ≡ objects_written l.signals (map written_of (take l.name-index l.written))
