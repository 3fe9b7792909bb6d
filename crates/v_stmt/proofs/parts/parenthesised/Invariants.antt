use Rattle.std.proofs.Common.{◌≡◌, ◌+◌, ◌<◌, length}
use Rattle.v_stmt.specs.Statements as read
use Rattle.v_stmt.proofs.Loops.{skipped_at, opened}
use Rattle.v_stmt.proofs.parts.parenthesised.Given as goal

-- What is left closes as many parentheses as are open.
abbrev pub invariant-tokens : goal.invariant-tokens
invariant-tokens l = record {
  same : read.parenthesised l.fn.tokens ≡ skipped_at l.depth l.rest;
  shorter : opened l.depth + length l.rest < length l.fn.tokens;
}

abbrev pub decreases-tokens : goal.decreases-tokens
decreases-tokens l = length l.rest
