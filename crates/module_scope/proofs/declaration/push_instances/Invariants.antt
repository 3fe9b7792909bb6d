use Rattle.std.proofs.Common.{◌≡◌, ◌++◌, drop, map}
use Rattle.module_scope.specs.Declarations.{declarations_seen, instance_declarations}
use Rattle.v_tree.specs.Views.{instance_of}
use Rattle.module_scope.specs.Groups.{AddsGrouped, InAnyCase}
use Rattle.module_scope.proofs.declaration.push_instances.Given as goal

abbrev pub invariant-instances : goal.invariant-instances
invariant-instances l = record {
  list : declarations_seen l.list.items ++ instance_declarations (map instance_of (drop l.instance-index l.instances)) ≡ declarations_seen l.initial.list.items
      ++ instance_declarations (map instance_of l.instances);
  grouped : AddsGrouped InAnyCase l.initial.list.items l.list.items;
}
