use Rattle.std.proofs.Common.{map, take}
use Rattle.v_design.specs.Plain.{node_of}
use Rattle.graph_order.specs.Digraphs.{lists_of}
use Rattle.net_graph.specs.WiringLaws.{DriversListed}
use Rattle.net_graph.proofs.rank.drivers.Given as goal

abbrev pub invariant-nodes : goal.invariant-nodes
invariant-nodes l = DriversListed l.objects (map node_of (take l.number l.nodes)) (lists_of l.needs.items)
