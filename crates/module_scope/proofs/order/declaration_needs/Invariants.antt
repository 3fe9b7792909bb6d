use Rattle.std.proofs.Common.{◌≡◌, ◌+◌, length, vec_len}
use Rattle.graph_order.specs.Digraphs.{lists_of}
use Rattle.module_scope.specs.Below.{NeedsBelow}
use Rattle.module_scope.proofs.order.declaration_needs.Given as goal

abbrev pub invariant-declared : goal.invariant-declared
invariant-declared l = record {
  count : vec_len l.needs ≡ l.place;
  below : NeedsBelow (length l.declared + length l.declared) (lists_of l.needs.items);
}
