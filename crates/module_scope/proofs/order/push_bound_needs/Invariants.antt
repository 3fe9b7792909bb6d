use Rattle.std.proofs.Common.{◌≡◌, ◌+◌, length, vec_len}
use Rattle.graph_order.specs.Digraphs.{lists_of}
use Rattle.module_scope.specs.Below.{NeedsBelow}
use Rattle.module_scope.proofs.order.push_bound_needs.Given as goal

abbrev pub invariant-places : goal.invariant-places
invariant-places l = record {
  count : vec_len l.needs ≡ length l.declared + l.place;
  below : NeedsBelow (length l.declared + length l.declared) (lists_of l.needs.items);
}
