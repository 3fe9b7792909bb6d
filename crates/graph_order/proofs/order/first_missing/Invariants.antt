use Rattle.std.proofs.Common.{◌≡◌, ℕ, ◌<◌, ◌≤◌, true, false, get_or}
use Rattle.graph_order.proofs.order.first_missing.Given as goal

abbrev pub invariant-needs : goal.invariant-needs
invariant-needs l = (k : ℕ) → l.from ≤ k → k < l.at → get_or l.placed.items (get_or l.needs.items k 0) false ≡ true
