use Rattle.std.proofs.Common.{arith, ◌≡◌, ◌<◌, ◌∙◌, false, length, get_or, ap, sym}
use Rattle.std.proofs.lemmas.List.{get_or_read}
use Rattle.vf_base.specs.Base.{object_number}
use Rattle.object_set.specs.Ordered.{OrderedObjects}
use Rattle.object_set.proofs.Tables.{count-room, IsOrdered-put, view-put}
use Rattle.object_set.proofs.set.ObjectSet.insert.Goals as goal

pub index_mut-requires-2 : goal.index_mut-requires-2
index_mut-requires-2 c =
    let low : object_number c.args.object < length c.self.inside.members.items = omega (arith, c.requires, ap (λ (k : OrderedObjects). k.bound) c.self.view_is) in
    let none : get_or c.self.inside.members.items (object_number c.args.object) false ≡ false =
    sym (get_or_read c.self.inside.members.items (object_number c.args.object) c.index.result.now low c.index.ensures false) ∙ c.if-index.false in
    omega (arith, count-room c.self.inside.members.items c.self.inside.order.items c.self.inside.count (object_number c.args.object) c.self.invariant low none, c.self.inside.order.ok.0)

pub overflow_add-self : goal.overflow_add-self
overflow_add-self c =
    let low : object_number c.args.object < length c.self.inside.members.items = omega (arith, c.requires, ap (λ (k : OrderedObjects). k.bound) c.self.view_is) in
    let none : get_or c.self.inside.members.items (object_number c.args.object) false ≡ false =
    sym (get_or_read c.self.inside.members.items (object_number c.args.object) c.index.result.now low c.index.ensures false) ∙ c.if-index.false in
    omega (
      arith,
      count-room c.self.inside.members.items c.self.inside.order.items c.self.inside.count (object_number c.args.object) c.self.invariant low none,
      c.self.inside.order.ok.0,
      c.self.inside.order.small,
    )

pub invariant_of-self : goal.invariant_of-self
invariant_of-self c =
    let low : object_number c.args.object < length c.self.inside.members.items = omega (arith, c.requires, ap (λ (k : OrderedObjects). k.bound) c.self.view_is) in
    let none : get_or c.self.inside.members.items (object_number c.args.object) false ≡ false =
    sym (get_or_read c.self.inside.members.items (object_number c.args.object) c.index.result.now low c.index.ensures false) ∙ c.if-index.false in
    IsOrdered-put c.self.inside.members.items c.self.inside.order.items c.self.inside.count c.args.object c.self.invariant low none

pub returns : goal.returns
returns c =
    let low : object_number c.args.object < length c.self.inside.members.items = omega (arith, c.requires, ap (λ (k : OrderedObjects). k.bound) c.self.view_is) in
    let none : get_or c.self.inside.members.items (object_number c.args.object) false ≡ false =
    sym (get_or_read c.self.inside.members.items (object_number c.args.object) c.index.result.now low c.index.ensures false) ∙ c.if-index.false in
    view-put c.self.inside.members.items c.self.inside.order.items c.self.inside.count c.args.object c.args.self.now c.self.invariant low none c.self.view_is
