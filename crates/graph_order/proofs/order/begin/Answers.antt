use Rattle.std.proofs.Common.{◌+◌, false, arith}
use Rattle.std.specs.Prelude.{nat_le}
use Rattle.graph_order.specs.Digraphs.{lists_of}
use Rattle.graph_order.specs.Sorting.{one_less, one_less_past, none_past, AllWait-but, length-lists_of}
use Rattle.graph_order.proofs.order.begin.Goals as goal

pub vertices-preserved : goal.vertices-preserved
vertices-preserved c = record {
  sorting = c.in_ok-place_or_wait.ensures.sorting;
  vertices = c.in_ok-place_or_wait.ensures.vertices c.vertices.invariant.vertices;
  lists = c.in_ok-place_or_wait.ensures.lists;
  waiting =
      AllWait-but (lists_of c.args.needs.now) (lists_of c.place_or_wait.new.sort.waiters.items) c.place_or_wait.new.sort.placed.items c.place_or_wait.new.sort.vertices.items 0
      (one_less (λ v. nat_le c.vertices.vertex v) c.vertices.vertex) (λ v. nat_le (c.vertices.vertex + 1) v) (λ v low e. one_less_past c.vertices.vertex v e)
      (c.in_ok-place_or_wait.ensures.waiting 0 (λ v. nat_le c.vertices.vertex v) (omega arith) c.vertices.invariant.waiting);
}

pub returns-clause-waiting : goal.returns-clause-waiting
returns-clause-waiting c =
    AllWait-but (lists_of c.args.needs.now) (lists_of c.vertices.sort.waiters.items) c.vertices.sort.placed.items c.vertices.sort.vertices.items 0
    (λ v. nat_le c.vertices.vertex v) (λ _. false) (λ v low e. none_past c.vertices.vertex v (omega (arith, length-lists_of c.args.needs.now)) e) c.vertices.invariant.waiting
