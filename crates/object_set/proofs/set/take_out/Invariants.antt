use Rattle.std.proofs.Common.{map, take}
use Rattle.vf_base.specs.Base.{object_number}
use Rattle.object_set.specs.Members.{TakesOut}
use Rattle.object_set.proofs.set.take_out.Given as goal

abbrev pub invariant-objects : goal.invariant-objects
invariant-objects l = TakesOut (map object_number (take l.object-index l.objects)) l.initial.members.items l.members.items
