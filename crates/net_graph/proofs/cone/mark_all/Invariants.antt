use Rattle.std.proofs.Common.{◌≡◌, map, take, vec_len}
use Rattle.vf_base.specs.Base.{object_number}
use Rattle.net_graph.specs.ConeLaws.{Marks}
use Rattle.net_graph.proofs.cone.mark_all.Given as goal

abbrev pub invariant-objects : goal.invariant-objects
invariant-objects l = record {
  same : vec_len l.marked ≡ vec_len l.initial.marked;
  marked : Marks (map object_number (take l.object-index l.objects)) l.initial.marked.items l.marked.items;
}
