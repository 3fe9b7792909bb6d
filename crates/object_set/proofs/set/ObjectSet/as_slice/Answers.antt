use Rattle.std.proofs.Common.{arith, ◌<◌, get_or, take, length, ap, sym}
use Rattle.std.proofs.lemmas.List.{length-take-le}
use Rattle.vf_base.specs.Base.{object_number}
use Rattle.object_set.specs.Ordered.{OrderedObjects}
use Rattle.object_set.proofs.Tables.{count-within, members-below}
use Rattle.object_set.proofs.set.ObjectSet.as_slice.Goals as goal

pub slice_bounds-result-end : goal.slice_bounds-result-end
slice_bounds-result-end c =
    sym (length-take-le c.self.inside.count c.deref.result.now
    (omega (arith, count-within c.self.inside.members.items c.self.inside.order.items c.self.inside.count c.self.invariant, ap length c.deref.ensures.value)))

pub returns-clause-below : goal.returns-clause-below
returns-clause-below c = λ k d low.
    let below : object_number (get_or (take c.self.inside.count c.deref.result.now) k d) < length c.self.inside.members.items =
    members-below c.self.inside.members.items c.self.inside.order.items c.self.inside.count (take c.self.inside.count c.deref.result.now) c.self.invariant
    (ap (take c.self.inside.count) c.deref.ensures.value) k d low in
    omega (arith, ap (λ (k : OrderedObjects). k.bound) c.self.view_is)
