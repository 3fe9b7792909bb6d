use Rattle.std.proofs.Common.{◌≡◌, ℕ, true, false, drop, get_or, vec_len}
use Rattle.vf_base.specs.Lists.{has}
use Rattle.graph_order.proofs.search.unmark.Given as goal

abbrev pub invariant-found : goal.invariant-found
invariant-found l = record {
  same : vec_len l.seen ≡ vec_len l.initial.seen;
  marked : (v : ℕ) → get_or l.seen.items v false ≡ true → has (drop l.vertex-index l.found) v ≡ true;
}
