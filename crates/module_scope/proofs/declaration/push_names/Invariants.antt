use Rattle.std.proofs.Common.{◌≡◌, ◌++◌, drop, map}
use Rattle.module_scope.specs.Declarations.{declarations_seen, name_declared, declared_seen}
use Rattle.v_tree.specs.Views.{name_of}
use Rattle.module_scope.specs.Groups.{AddsGrouped, DeclaredIn}
use Rattle.module_scope.proofs.declaration.push_names.Given as goal

abbrev pub invariant-names : goal.invariant-names
invariant-names l = record {
  list : declarations_seen l.list.items ++ map (name_declared (declared_seen l.declared)) (map name_of (drop l.name-index l.names)) ≡ declarations_seen l.initial.list.items
      ++ map (name_declared (declared_seen l.declared)) (map name_of l.names);
  grouped : AddsGrouped (DeclaredIn l.declared) l.initial.list.items l.list.items;
}
