-- The place that the binary search finds.
use Rattle.std.proofs.Common.{ltb, arith, rules}
use Rattle.std.proofs.lemmas.Bool.{ltb-true, ltb-false}
use Rattle.std.proofs.lemmas.List.Sorted.{IsPartitionPoint-from_clause, IsPartitionedBy-ltb}
use Rattle.vf_pick.proofs.Places.{non-decreasing, found-at}
use Rattle.vf_pick.proofs.fault_index.place_of.Goals as goal

pub returns-clause-within : goal.returns-clause-within
returns-clause-within c =
    let parted = IsPartitionedBy-ltb (λ n. n) _ c.args.strobe (non-decreasing c.args.strobes.now c.requires.ascending) in
    let point = IsPartitionPoint-from_clause (λ n. ltb n c.args.strobe) _ _ c.partition_point.ensures.partitioned parted (λ a r q k. search rules) in
    (found-at c.args.strobes.now c.args.strobe c.partition_point.result c.requires.ascending c.requires.listed
    (λ k less low. ltb-true _ _ (point.0 k 0 (omega arith) less)) (λ k order low. ltb-false _ _ (point.1 k 0 order low))).0

pub returns-clause-found : goal.returns-clause-found
returns-clause-found c =
    let parted = IsPartitionedBy-ltb (λ n. n) _ c.args.strobe (non-decreasing c.args.strobes.now c.requires.ascending) in
    let point = IsPartitionPoint-from_clause (λ n. ltb n c.args.strobe) _ _ c.partition_point.ensures.partitioned parted (λ a r q k. search rules) in
    (found-at c.args.strobes.now c.args.strobe c.partition_point.result c.requires.ascending c.requires.listed
    (λ k less low. ltb-true _ _ (point.0 k 0 (omega arith) less)) (λ k order low. ltb-false _ _ (point.1 k 0 order low))).1
