use Rattle.std.proofs.Common.{◌≡◌, map, take}
use Rattle.v_design.specs.Plain.{node_of}
use Rattle.net_graph.specs.Loops.{rank_in}
use Rattle.net_graph.proofs.rank.ranks_of.Given as goal

abbrev pub invariant-nodes : goal.invariant-nodes
invariant-nodes l = l.ranks.items ≡ map (rank_in (map node_of l.nodes)) (take l.number (map node_of l.nodes))
