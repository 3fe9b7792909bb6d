use Rattle.std.proofs.Common.{◌≡◌, false, get_or, map, take}
use Rattle.std.specs.List.{list_any}
use Rattle.vf_base.specs.Base.{object_number}
use Rattle.net_graph.proofs.cone.some_marked.Given as goal

abbrev pub invariant-objects : goal.invariant-objects
invariant-objects l = list_any (λ object. get_or l.marked.items object false) (map object_number (take l.object-index l.objects)) ≡ false
