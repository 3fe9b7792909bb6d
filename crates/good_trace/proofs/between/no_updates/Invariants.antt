use Rattle.std.proofs.Common.{◌≡◌, ℕ, [], get_or, length}
use Rattle.good_trace.proofs.between.no_updates.Given as goal

abbrev pub invariant-processes : goal.invariant-processes
invariant-processes l = record {
  count : length l.updates.items ≡ l.counter;
  each : (process : ℕ) → get_or l.updates.items process [] ≡ [];
}
