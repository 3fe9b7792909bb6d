use Rattle.std.proofs.Common.{rules, ◌+◌, ◌≤◌, length, drop, get_or, arith}
use Rattle.vf_base.specs.Lists.{has}
use Rattle.graph_order.specs.Digraphs.{lists_of}
use Rattle.graph_order.specs.Sorting.{one_less, one_less_told, AllWait-but}
use Rattle.graph_order.proofs.order.tell.Goals as goal

pub told-preserved : goal.told-preserved
told-preserved c = record {
  sorting = c.in_ok-place_or_wait.ensures.sorting;
  vertices = c.in_ok-place_or_wait.ensures.vertices c.told.invariant.vertices;
  lists = c.in_ok-place_or_wait.ensures.lists;
  longer = let more : length c.told.sort.vertices.items ≤ length c.place_or_wait.new.sort.vertices.items = c.in_ok-place_or_wait.ensures.longer in omega arith;
  waiting = λ done within had.
      AllWait-but (lists_of c.args.needs.now) (lists_of c.place_or_wait.new.sort.waiters.items) c.place_or_wait.new.sort.placed.items c.place_or_wait.new.sort.vertices.items done
      (one_less (has (drop c.told.vertex-index c.args.told.now)) (get_or c.args.told.now c.told.vertex-index 0)) (has (drop (c.told.vertex-index + 1) c.args.told.now))
      (λ v low e. one_less_told c.args.told.now c.told.vertex-index v (search rules) e)
      (c.in_ok-place_or_wait.ensures.waiting done (has (drop c.told.vertex-index c.args.told.now)) (omega arith) (c.told.invariant.waiting done within had));
}
