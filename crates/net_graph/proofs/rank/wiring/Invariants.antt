use Rattle.std.proofs.Common.{map}
use Rattle.v_design.specs.Plain.{node_of}
use Rattle.graph_order.specs.Digraphs.{lists_of}
use Rattle.net_graph.specs.WiringLaws.{WiringBefore}
use Rattle.net_graph.proofs.rank.wiring.Given as goal

abbrev pub invariant-nodes : goal.invariant-nodes
invariant-nodes l = WiringBefore l.objects (map node_of l.nodes) l.node-index (lists_of l.needs.items)
