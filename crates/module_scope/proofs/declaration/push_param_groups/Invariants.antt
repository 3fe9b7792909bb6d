use Rattle.std.proofs.Common.{◌≡◌, ◌++◌, drop, map, flat_map}
use Rattle.module_scope.specs.Declarations.{declarations_seen}
use Rattle.v_names.specs.Names.{parameter_declarations}
use Rattle.v_tree.specs.Views.{parameters_of}
use Rattle.module_scope.specs.Groups.{AreGrouped}
use Rattle.module_scope.proofs.declaration.push_param_groups.Given as goal

abbrev pub invariant-groups : goal.invariant-groups
invariant-groups l = record {
  list : declarations_seen l.list.items ++ flat_map parameter_declarations (map parameters_of (drop l.group-index l.params)) ≡ declarations_seen l.initial.list.items
      ++ flat_map parameter_declarations (map parameters_of l.params);
  grouped : AreGrouped l.groups.items l.list.items;
}
