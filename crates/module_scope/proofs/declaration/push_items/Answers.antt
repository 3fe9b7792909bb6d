use Rattle.std.proofs.Common.{List, map, flat_map, refl}
use Rattle.module_scope.specs.Declarations.{declarations_seen}
use Rattle.v_names.specs.Names.{item_declarations}
use Rattle.v_tree.specs.Views.{item_of}
use Rattle.v_tree.specs.declared.item.Item.{Item}
use Rattle.name_checks.specs.Rows.{list-more}
use Rattle.module_scope.proofs.declaration.push_items.Goals as goal

pub items-preserved : goal.items-preserved
items-preserved c = record {
  list =
      list-more (λ (x : Item). item_declarations (item_of x)) (λ (xs : List Item). flat_map item_declarations (map item_of xs)) c.args.items.now c.items.item-index c.item-item.result
      (declarations_seen c.items.list.items) (declarations_seen c.push_item.new.list.items) _ (λ y ys. refl) c.items-test.true c.item-item.is c.in_ok-push_item.ensures.list c.items.invariant.list;
  grouped = c.in_ok-push_item.ensures.grouped;
}
