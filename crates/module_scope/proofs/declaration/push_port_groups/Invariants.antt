use Rattle.std.proofs.Common.{◌≡◌, ◌++◌, drop, map, flat_map}
use Rattle.module_scope.specs.Declarations.{declarations_seen}
use Rattle.v_names.specs.Names.{port_declarations}
use Rattle.v_tree.specs.Views.{ports_of}
use Rattle.module_scope.specs.Groups.{AreGrouped}
use Rattle.module_scope.proofs.declaration.push_port_groups.Given as goal

abbrev pub invariant-groups : goal.invariant-groups
invariant-groups l = record {
  list : declarations_seen l.list.items ++ flat_map port_declarations (map ports_of (drop l.group-index l.ports)) ≡ declarations_seen l.initial.list.items
      ++ flat_map port_declarations (map ports_of l.ports);
  grouped : AreGrouped l.groups.items l.list.items;
}
