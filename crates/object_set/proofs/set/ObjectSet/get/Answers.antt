use Rattle.std.proofs.Common.{arith, ◌∙◌, ap}
use Rattle.std.specs.Prelude.{slice_get}
use Rattle.object_set.specs.Ordered.{OrderedObjects}
use Rattle.object_set.proofs.Tables.{count-within, member-at, member-below, member-past}
use Rattle.object_set.proofs.set.ObjectSet.get.Goals as goal

pub index-requires : goal.index-requires
index-requires c =
    omega (arith, count-within c.self.inside.members.items c.self.inside.order.items c.self.inside.count c.self.invariant, c.if-place-self.true, c.self.inside.order.ok.0)

pub returns-then-place-self-clause-member : goal.returns-then-place-self-clause-member
returns-then-place-self-clause-member c =
    member-at c.self.inside.order.items c.self.inside.count c.args.place c.index.result.now
    (count-within c.self.inside.members.items c.self.inside.order.items c.self.inside.count c.self.invariant) c.if-place-self.true c.index.ensures
    ∙ ap (λ (k : OrderedObjects). slice_get k.objects c.args.place) c.self.view_is

pub returns-then-place-self-clause-within : goal.returns-then-place-self-clause-within
returns-then-place-self-clause-within c = λ some.
    omega (
      arith,
      count-within c.self.inside.members.items c.self.inside.order.items c.self.inside.count c.self.invariant,
      c.if-place-self.true,
      c.self.invariant.long,
      ap (λ (k : OrderedObjects). k.bound) c.self.view_is,
    )

pub returns-else-place-self-clause-member : goal.returns-else-place-self-clause-member
returns-else-place-self-clause-member c =
    member-past c.self.inside.order.items c.self.inside.count c.args.place
    (count-within c.self.inside.members.items c.self.inside.order.items c.self.inside.count c.self.invariant) c.if-place-self.false
    ∙ ap (λ (k : OrderedObjects). slice_get k.objects c.args.place) c.self.view_is

pub returns-then-place-self-clause-below : goal.returns-then-place-self-clause-below
returns-then-place-self-clause-below c =
    omega (
      arith,
      member-below c.self.inside.members.items c.self.inside.order.items c.self.inside.count c.args.place c.index.result.now c.self.invariant c.if-place-self.true c.index.ensures,
      ap (λ (k : OrderedObjects). k.bound) c.self.view_is,
    )
