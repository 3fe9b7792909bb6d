use Rattle.std.proofs.Common.{◌≡◌, ◌<◌, ℕ, [], get_or, vec_len}
use Rattle.net_graph.specs.Tables.{object_lists}
use Rattle.causal_monitor.proofs.settled.clear_lists.Given as goal

abbrev pub invariant-lists : goal.invariant-lists
invariant-lists l = record {
  same : vec_len l.lists ≡ vec_len l.fn.lists;
  empty : (object : ℕ) → object < l.at → get_or (object_lists l.lists.items) object [] ≡ [];
}
