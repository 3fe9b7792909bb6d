use Rattle.std.proofs.Common.{◌≡◌, map, take}
use Rattle.vf_base.specs.Base.{object_number}
use Rattle.object_set.specs.Ordered.{with_objects}
use Rattle.object_set.proofs.set.ObjectSet.insert_all.Given as goal

abbrev pub invariant-objects : goal.invariant-objects
invariant-objects l = l.self ≡ record l.initial.self { objects = with_objects l.initial.self.objects (map object_number (take l.object-index l.objects)) }
