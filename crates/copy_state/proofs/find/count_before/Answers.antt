use Rattle.std.proofs.Common.{ltb, arith, rules}
use Rattle.std.proofs.lemmas.Bool.{ltb-true, ltb-false}
use Rattle.std.proofs.lemmas.List.Sorted.{IsPartitionPoint-from_clause, IsPartitionedBy-ltb}
use Rattle.copy_state.specs.declared.entry.Entry.{Entry}
use Rattle.copy_state.proofs.ListLaws.{ascending, each-before, each-behind}
use Rattle.copy_state.proofs.find.count_before.Goals as goal

pub returns-clause-before : goal.returns-clause-before
returns-clause-before g c =
    let parted = IsPartitionedBy-ltb (λ (own : Entry g.row.T.Denot). own.number) c.args.entries.now c.args.number (ascending c.args.entries.now c.requires) in
    let point =
    IsPartitionPoint-from_clause (λ (own : Entry g.row.T.Denot). ltb own.number c.args.number) _ _ c.partition_point.ensures.partitioned parted (λ a r q k. search rules) in
    each-before c.args.entries.now c.partition_point.result c.args.number c.partition_point.ensures.bound (λ k d low. ltb-true _ _ (point.0 k d (omega (arith, c.partition_point.ensures.bound)) low))

pub returns-clause-after : goal.returns-clause-after
returns-clause-after g c =
    let parted = IsPartitionedBy-ltb (λ (own : Entry g.row.T.Denot). own.number) c.args.entries.now c.args.number (ascending c.args.entries.now c.requires) in
    let point =
    IsPartitionPoint-from_clause (λ (own : Entry g.row.T.Denot). ltb own.number c.args.number) _ _ c.partition_point.ensures.partitioned parted (λ a r q k. search rules) in
    each-behind c.args.entries.now c.partition_point.result c.args.number (λ k d low within. ltb-false _ _ (point.1 k d low within))
