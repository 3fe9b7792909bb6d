use Rattle.std.proofs.Common.{◌≡◌, take, map}
use Rattle.vf_base.specs.Base.{object_number}
use Rattle.object_waits.proofs.object_list.ObjectList.objects.Given as goal

abbrev pub invariant-numbers : goal.invariant-numbers
invariant-numbers l = map object_number l.objects.items ≡ take l.number-index l.number-items
