use Rattle.std.proofs.Common.{◌≡◌, [], replicate}
use Rattle.net_graph.specs.Tables.{node_lists}
use Rattle.net_graph.proofs.graph.empty_lists.Given as goal

abbrev pub invariant-lists : goal.invariant-lists
invariant-lists l = node_lists l.lists.items ≡ replicate l.counter []
