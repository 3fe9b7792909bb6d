use Rattle.std.proofs.Common.{◌≡◌, ◌++◌, drop, map, flat_map}
use Rattle.module_scope.specs.Declarations.{declarations_seen}
use Rattle.v_names.specs.Names.{item_declarations}
use Rattle.v_tree.specs.Views.{item_of}
use Rattle.module_scope.specs.Groups.{AreGrouped}
use Rattle.module_scope.proofs.declaration.push_items.Given as goal

abbrev pub invariant-items : goal.invariant-items
invariant-items l = record {
  list : declarations_seen l.list.items ++ flat_map item_declarations (map item_of (drop l.item-index l.items)) ≡ declarations_seen l.initial.list.items
      ++ flat_map item_declarations (map item_of l.items);
  grouped : AreGrouped l.groups.items l.list.items;
}
