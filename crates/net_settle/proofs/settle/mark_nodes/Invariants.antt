use Rattle.std.proofs.Common.{◌≡◌, map, take, vec_len}
use Rattle.vf_base.specs.Base.{node_number}
use Rattle.net_graph.specs.ConeLaws.{Marks}
use Rattle.net_settle.proofs.settle.mark_nodes.Given as goal

abbrev pub invariant-nodes : goal.invariant-nodes
invariant-nodes l = record {
  same : vec_len l.marks ≡ vec_len l.initial.marks;
  marked : Marks (map node_number (take l.node-index l.nodes)) l.initial.marks.items l.marks.items;
}
