use Rattle.std.proofs.Common.{◌≡◌, length, vec_len}
use Rattle.std.specs.Prelude.{nat_le}
use Rattle.graph_order.specs.Digraphs.{lists_of}
use Rattle.graph_order.specs.Sorting.{IsSorting, AllWait, VerticesWait}
use Rattle.graph_order.proofs.order.begin.Given as goal

abbrev pub invariant-vertices : goal.invariant-vertices
invariant-vertices l = record {
  sorting : IsSorting (lists_of l.needs) l.sort.met.items l.sort.placed.items l.sort.vertices.items;
  vertices : VerticesWait (lists_of l.needs) (lists_of l.sort.waiters.items);
  lists : vec_len l.sort.waiters ≡ length l.needs;
  waiting : AllWait (lists_of l.needs) (lists_of l.sort.waiters.items) l.sort.placed.items l.sort.vertices.items 0 (λ v. nat_le l.vertex v);
}
