use Rattle.std.proofs.Common.{◌≤◌, ◌+◌, ◌-◌, length, vec_len}
use Rattle.graph_order.specs.Digraphs.{lists_of}
use Rattle.graph_order.specs.Searching.{IsSearch, AreReached, IsClosed}
use Rattle.graph_order.proofs.search.is_on_loop.Given as goal

abbrev pub invariant-found : goal.invariant-found
invariant-found l = record {
  search : IsSearch (vec_len l.order.placed) l.vertex l.seen.items l.found.items;
  within : l.done ≤ vec_len l.found;
  reached : AreReached (lists_of l.needs) l.vertex l.found.items;
  closed : IsClosed (lists_of l.needs) l.order.placed.items l.vertex l.done l.found.items;
}

abbrev pub decreases-found : goal.decreases-found
decreases-found l = length l.needs + 1 - l.done
