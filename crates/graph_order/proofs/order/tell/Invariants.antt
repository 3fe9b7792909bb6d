use Rattle.std.proofs.Common.{◌≡◌, ℕ, ◌≤◌, length, drop, vec_len}
use Rattle.vf_base.specs.Lists.{has}
use Rattle.graph_order.specs.Digraphs.{lists_of}
use Rattle.graph_order.specs.Sorting.{IsSorting, AllWait, VerticesWait}
use Rattle.graph_order.proofs.order.tell.Given as goal

abbrev pub invariant-told : goal.invariant-told
invariant-told l = record {
  sorting : IsSorting (lists_of l.needs) l.sort.met.items l.sort.placed.items l.sort.vertices.items;
  vertices : VerticesWait (lists_of l.needs) (lists_of l.sort.waiters.items);
  lists : vec_len l.sort.waiters ≡ length l.needs;
  longer : length l.initial.sort.vertices.items ≤ length l.sort.vertices.items;
  waiting : (done : ℕ) → done ≤ length l.initial.sort.vertices.items →
      AllWait (lists_of l.needs) (lists_of l.initial.sort.waiters.items) l.initial.sort.placed.items l.initial.sort.vertices.items done (has l.told) →
      AllWait (lists_of l.needs) (lists_of l.sort.waiters.items) l.sort.placed.items l.sort.vertices.items done (has (drop l.vertex-index l.told));
}
