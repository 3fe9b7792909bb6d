use Rattle.std.proofs.Common.{◌≡◌, ◌++◌, drop, map}
use Rattle.vf_base.specs.Base.{object_number}
use Rattle.object_waits.proofs.reads.add_all.Given as goal

abbrev pub invariant-objects : goal.invariant-objects
invariant-objects l = map object_number l.objects.items ++ map object_number (drop l.object-index l.more) ≡ map object_number l.initial.objects.items ++ map object_number l.more
