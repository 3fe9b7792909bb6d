use Rattle.std.proofs.Common.{◌≡◌, map, take}
use Rattle.v_tree.specs.Views.{item_of}
use Rattle.tree_copies.proofs.copy_item.copy_items.Given as goal

abbrev pub invariant-items : goal.invariant-items
invariant-items l = map item_of l.copies.items ≡ map item_of (take l.item-index l.items)
