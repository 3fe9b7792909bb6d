use Rattle.std.proofs.Common.{map, take}
use Rattle.vf_base.specs.Base.{node_number}
use Rattle.net_graph.specs.Walks.{InsertsAll}
use Rattle.net_graph.proofs.walk.add_readers.Given as goal

abbrev pub invariant-nodes : goal.invariant-nodes
invariant-nodes l = InsertsAll (map node_number (take l.reader-index l.readers)) l.initial.walked l.walked
