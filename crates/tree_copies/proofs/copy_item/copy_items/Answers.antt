use Rattle.std.proofs.Common.{map, ap, ◌∙◌}
use Rattle.v_tree.specs.Views.{item_of}
use Rattle.tree_copies.specs.Turns.{one-more}
use Rattle.tree_copies.proofs.copy_item.copy_items.Goals as goal

pub items-preserved : goal.items-preserved
items-preserved c =
    ap (map item_of) c.in_ok-push.ensures.items
    ∙ one-more item_of c.args.items.now c.items.copies.items c.items.item-index c.item-item.result c.in_ok-copy.copy c.items-test.true c.item-item.is c.in_ok-copy.ensures c.items.invariant
