use Rattle.std.proofs.Common.{◌≡◌, map, take}
use Rattle.vf_base.specs.Base.{object_number}
use Rattle.net_graph.proofs.rank.numbers_of.Given as goal

abbrev pub invariant-objects : goal.invariant-objects
invariant-objects l = l.numbers.items ≡ map object_number (take l.object-index l.objects)
