-- The moments are parted by the test.
use Rattle.std.proofs.Common.{leb, arith, rules}
use Rattle.std.proofs.lemmas.Bool.{leb-true, leb-false}
use Rattle.std.proofs.lemmas.List.Sorted.{IsPartitionPoint-from_clause, IsPartitionedBy-leb}
use Rattle.window_blocks.proofs.search.count_through.Goals as goal

pub returns-clause-before : goal.returns-clause-before
returns-clause-before c =
    let parted = IsPartitionedBy-leb (λ n. n) _ c.args.moment c.requires in
    let point = IsPartitionPoint-from_clause (λ n. leb n c.args.moment) _ _ c.partition_point.ensures.partitioned parted (λ a r q k. search rules) in
    λ place low. leb-true _ _ (point.0 place 0 (omega arith) low)

pub returns-clause-behind : goal.returns-clause-behind
returns-clause-behind c =
    let parted = IsPartitionedBy-leb (λ n. n) _ c.args.moment c.requires in
    let point = IsPartitionPoint-from_clause (λ n. leb n c.args.moment) _ _ c.partition_point.ensures.partitioned parted (λ a r q k. search rules) in
    λ place low within. leb-false _ _ (point.1 place 0 low within)
