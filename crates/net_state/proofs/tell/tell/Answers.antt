use Rattle.std.proofs.Common.{map, ap, sym, subst, ◌∙◌}
use Rattle.vf_base.specs.Base.{object_number}
use Rattle.value_change.specs.Changes.{change_seen}
use Rattle.net_state.specs.InOrder.{IsPlaceFor}
use Rattle.net_state.specs.OrderLaws.{insert-in_order, changed-with}
use Rattle.net_state.proofs.tell.tell.Goals as goal

pub returns-in_ok-insert : goal.returns-in_ok-insert
returns-in_ok-insert c =
    ap (map change_seen) c.in_ok-insert.ensures.items
    ∙ insert-in_order c.args.change c.args.changes.now.items c.place_for-place.result c.requires.order
    (subst (λ l. IsPlaceFor (object_number c.args.change.object) c.place_for-place.result l) c.deref.ensures.value c.place_for-place.ensures)
    ∙ changed-with (change_seen c.args.change) (map change_seen c.args.changes.now.items) (sym c.same.ensures ∙ c.if-not-same.true)
