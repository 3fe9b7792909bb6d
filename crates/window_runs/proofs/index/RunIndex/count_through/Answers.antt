use Rattle.std.proofs.Common.{◌<◌, ◌≤◌, ℕ, length, get_or, leb, subst, arith, rules}
use Rattle.std.proofs.lemmas.Bool.{leb-true, leb-false}
use Rattle.std.proofs.lemmas.List.Sorted.{IsPartitionPoint-from_clause, IsPartitionedBy-leb}
use Rattle.window_runs.proofs.index.RunIndex.count_through.Goals as goal

pub returns-clause-before : goal.returns-clause-before
returns-clause-before c =
    let parted = IsPartitionedBy-leb (λ n. n) _ c.args.phase c.moments-phases.ensures.ascending in
    let point = IsPartitionPoint-from_clause (λ n. leb n c.args.phase) _ _ c.partition_point.ensures.partitioned parted (λ a r q k. search rules) in
    subst (λ l. (place : ℕ) → place < c.partition_point.result → get_or l place 0 ≤ c.args.phase) c.moments-phases.ensures.moments (λ place low. leb-true _ _ (point.0 place 0 (omega arith) low))

pub returns-clause-behind : goal.returns-clause-behind
returns-clause-behind c =
    let parted = IsPartitionedBy-leb (λ n. n) _ c.args.phase c.moments-phases.ensures.ascending in
    let point = IsPartitionPoint-from_clause (λ n. leb n c.args.phase) _ _ c.partition_point.ensures.partitioned parted (λ a r q k. search rules) in
    subst (λ l. (place : ℕ) → c.partition_point.result ≤ place → place < length l → c.args.phase < get_or l place 0) c.moments-phases.ensures.moments
    (λ place low within. leb-false _ _ (point.1 place 0 low within))
