-- In the order of the numbers.
use Rattle.std.proofs.Common.{rules}
use Rattle.std.proofs.lemmas.List.Sorted.{IsNonDecreasingBy-from_sort_by_key}
use Rattle.shard_workers.specs.Ordered.{claim_number}
use Rattle.shard_workers.proofs.order.sort_claims.Goals as goal

pub returns-clause-sorted : goal.returns-clause-sorted
returns-clause-sorted g c = IsNonDecreasingBy-from_sort_by_key claim_number _ c.sort_unstable_by_key.ensures.sorted (λ a r q k. search rules)
