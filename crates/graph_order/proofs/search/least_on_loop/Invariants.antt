use Rattle.std.proofs.Common.{◌≡◌, ℕ, false, get_or, length, vec_len}
use Rattle.graph_order.specs.Digraphs.{lists_of, NoneOnLoop}
use Rattle.graph_order.proofs.search.least_on_loop.Given as goal

abbrev pub invariant-candidates : goal.invariant-candidates
invariant-candidates l = record {
  none : NoneOnLoop (lists_of l.needs) l.vertex;
  sized : vec_len l.seen ≡ length l.needs;
  blank : (v : ℕ) → get_or l.seen.items v false ≡ false;
}
