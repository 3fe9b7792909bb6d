use Rattle.std.proofs.Common.{◌≡◌, ℕ, ◌<◌, ◌≤◌, false}
use Rattle.net_settle.specs.Marked.{marked_at}
use Rattle.net_settle.proofs.settle.first_marked.Given as goal

abbrev pub invariant-loop-at : goal.invariant-loop-at
invariant-loop-at l = (node : ℕ) → l.from ≤ node → node < l.at → marked_at l.marks.items node ≡ false
