use Rattle.std.proofs.Common.{arith, ◌<◌, take, get_or, length, ap, sym}
use Rattle.std.proofs.lemmas.List.{length-take-le}
use Rattle.vf_base.specs.Base.{object_number}
use Rattle.object_set.proofs.Tables.{count-within, members-below, IsOrdered-cleared}
use Rattle.object_set.proofs.set.ObjectSet.clear.Goals as goal

pub slice_bounds-take_out-end : goal.slice_bounds-take_out-end
slice_bounds-take_out-end c =
    sym (length-take-le c.self.inside.count c.deref.result.now
    (omega (arith, count-within c.self.inside.members.items c.self.inside.order.items c.self.inside.count c.self.invariant, ap length c.deref.ensures.value)))

pub take_out-requires : goal.take_out-requires
take_out-requires c = λ k d low.
    let below : object_number (get_or (take c.self.inside.count c.deref.result.now) k d) < length c.self.inside.members.items =
    members-below c.self.inside.members.items c.self.inside.order.items c.self.inside.count (take c.self.inside.count c.deref.result.now) c.self.invariant
    (ap (take c.self.inside.count) c.deref.ensures.value) k d low in
    omega (arith, c.self.inside.members.ok.0)

pub invariant_of-self : goal.invariant_of-self
invariant_of-self c =
    IsOrdered-cleared c.self.inside.members.items c.take_out.new.members.items c.self.inside.order.items c.self.inside.count (take c.self.inside.count c.deref.result.now) c.self.invariant
    (ap (take c.self.inside.count) c.deref.ensures.value) c.take_out.ensures
