use Rattle.std.proofs.Common.{◌≡◌, [], drop, map}
use Rattle.vf_base.specs.Base.{object_number}
use Rattle.object_waits.specs.ObjectLists.{with_objects}
use Rattle.object_waits.proofs.object_list.first_occurrences.Given as goal

abbrev pub invariant-objects : goal.invariant-objects
invariant-objects l = with_objects l.list (map object_number (drop l.object-index l.objects)) ≡ with_objects [] (map object_number l.objects)
