use Rattle.std.proofs.Common.{◌≡◌, ℕ, ◌<◌, get_or, vec_len, length}
use Rattle.net_graph.proofs.spread.start_totals.Given as goal

abbrev pub invariant-counts : goal.invariant-counts
invariant-counts l = record {
  same : vec_len l.totals ≡ length l.counts;
  set : (k : ℕ) → k < l.at → get_or l.totals.items k 0 ≡ get_or l.counts k 0;
}
