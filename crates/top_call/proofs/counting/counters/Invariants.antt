use Rattle.std.proofs.Common.{◌≡◌, ◌+◌, length}
use Rattle.top_call.proofs.counting.counters.Given as goal

abbrev pub invariant-shares : goal.invariant-shares
invariant-shares g l = record { left : l.rest.parts + l.counter ≡ 65; amount : l.rest.amount ≡ 0; made : length l.steps.items ≡ l.counter }
