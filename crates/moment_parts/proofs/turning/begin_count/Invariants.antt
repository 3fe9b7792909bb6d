use Rattle.std.proofs.Common.{◌≡◌, ℕ, ◌<◌, get_or}
use Rattle.moment_parts.proofs.turning.begin_count.Given as goal

abbrev pub invariant-processes : goal.invariant-processes
invariant-processes l = (k : ℕ) → k < l.count-index → get_or l.count-items k 0 ≡ 0
