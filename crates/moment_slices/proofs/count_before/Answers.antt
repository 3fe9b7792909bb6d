-- The elements are parted by the test.
use Rattle.std.proofs.Common.{◌≡◌, true, false, ltb, subst, arith, rules}
use Rattle.std.proofs.lemmas.Bool.{ltb-true, ltb-false}
use Rattle.std.proofs.lemmas.List.Sorted.{IsPartitionPoint-from_clause, IsPartitionedBy-ltb}
use Rattle.std.proofs.lemmas.Option.{slice_get_within, get_or_from_slice_get}
use Rattle.moment_slices.proofs.count_before.Goals as goal

pub returns-clause-before : goal.returns-clause-before
returns-clause-before g c =
    let key = g.T.AtMoment.moment_of in
    let parted = IsPartitionedBy-ltb key c.args.items.now c.args.moment c.requires in
    let point = IsPartitionPoint-from_clause (λ x. ltb (key x) c.args.moment) _ _ c.partition_point.ensures.partitioned parted (λ a r q k. search rules) in
    λ place item low here.
    ltb-true (key item) c.args.moment
    (subst (λ x. ltb (key x) c.args.moment ≡ true) (get_or_from_slice_get c.args.items.now place item item here)
    (point.0 place item (omega arith) low))

pub returns-clause-behind : goal.returns-clause-behind
returns-clause-behind g c =
    let key = g.T.AtMoment.moment_of in
    let parted = IsPartitionedBy-ltb key c.args.items.now c.args.moment c.requires in
    let point = IsPartitionPoint-from_clause (λ x. ltb (key x) c.args.moment) _ _ c.partition_point.ensures.partitioned parted (λ a r q k. search rules) in
    λ place item low here.
    ltb-false (key item) c.args.moment
    (subst (λ x. ltb (key x) c.args.moment ≡ false) (get_or_from_slice_get c.args.items.now place item item here)
    (point.1 place item low (slice_get_within c.args.items.now place item here)))
