use Rattle.graph_order.specs.Digraphs.{lists_of}
use Rattle.graph_order.specs.Depths.{DepthsBefore}
use Rattle.graph_order.proofs.depth.depths.Given as goal

abbrev pub invariant-vertices : goal.invariant-vertices
invariant-vertices l = DepthsBefore (lists_of l.needs) l.counted l.order.vertices.items l.vertex-index l.depths.items
