use Rattle.std.proofs.Common.{◌++◌, List, map, flat_map, refl, ap, sym, ◌∙◌}
use Rattle.v_names.specs.Names.{item_name_faults}
use Rattle.v_tree.specs.Views.{item_of}
use Rattle.v_tree.specs.declared.item.Item.{Item}
use Rattle.name_checks.specs.Rows.{rest-more}
use Rattle.name_checks.proofs.items.note_items.Goals as goal

pub items-preserved : goal.items-preserved
items-preserved c =
    rest-more (λ (x : Item). item_name_faults c.args.scope.now (item_of x)) (λ (xs : List Item). flat_map (item_name_faults c.args.scope.now) (map item_of xs)) c.args.items.now c.items.item-index
    c.item-item.result
    c.items.first c.note_item.new.first _ (λ y ys. refl) c.items-test.true c.item-item.is c.in_ok-note_item.ensures c.items.invariant
