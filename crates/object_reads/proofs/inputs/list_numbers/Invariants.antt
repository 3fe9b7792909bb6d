use Rattle.std.proofs.Common.{◌≡◌, ◌++◌, map, drop}
use Rattle.vf_base.specs.Base.{object_number}
use Rattle.object_reads.proofs.inputs.list_numbers.Given as goal

abbrev pub invariant-objects : goal.invariant-objects
invariant-objects l = l.numbers.items ++ map object_number (drop l.object-index l.objects) ≡ map object_number l.objects
