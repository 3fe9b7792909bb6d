use Rattle.std.proofs.Common.{◌≡◌, [], replicate}
use Rattle.graph_order.specs.Digraphs.{lists_of}
use Rattle.graph_order.proofs.order.empty_lists.Given as goal

abbrev pub invariant-lists : goal.invariant-lists
invariant-lists l = lists_of l.lists.items ≡ replicate l.counter []
