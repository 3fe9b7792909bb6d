use Rattle.std.proofs.Common.{◌≡◌, ◌≤◌, ◌-◌, false, length, vec_len}
use Rattle.graph_order.specs.Digraphs.{lists_of}
use Rattle.graph_order.specs.Sorting.{IsSorting, AllWait, VerticesWait}
use Rattle.graph_order.proofs.order.put_in_order.Given as goal

abbrev pub invariant-vertices : goal.invariant-vertices
invariant-vertices l = record {
  sorting : IsSorting (lists_of l.needs) l.sort.met.items l.sort.placed.items l.sort.vertices.items;
  vertices : VerticesWait (lists_of l.needs) (lists_of l.sort.waiters.items);
  lists : vec_len l.sort.waiters ≡ length l.needs;
  within : l.done ≤ vec_len l.sort.vertices;
  waiting : AllWait (lists_of l.needs) (lists_of l.sort.waiters.items) l.sort.placed.items l.sort.vertices.items l.done (λ _. false);
}

abbrev pub decreases-vertices : goal.decreases-vertices
decreases-vertices l = length l.needs - l.done
