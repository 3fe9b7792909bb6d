use Rattle.std.proofs.Common.{◌≡◌, ◌++◌, drop, map}
use Rattle.module_scope.specs.Declarations.{declarations_seen, param_declared}
use Rattle.name_checks.specs.BoundViews.{bounds_seen}
use Rattle.v_tree.specs.Views.{parameter_of}
use Rattle.module_scope.specs.Groups.{AddsGrouped, BoundsIn}
use Rattle.module_scope.proofs.declaration.push_each_param.Given as goal

abbrev pub invariant-params : goal.invariant-params
invariant-params l = record {
  list : declarations_seen l.list.items ++ map (param_declared l.group.is_local l.group.signed (bounds_seen l.bounds.bounds))
      (map parameter_of (drop l.param-index l.params)) ≡ declarations_seen l.initial.list.items
      ++ map (param_declared l.group.is_local l.group.signed (bounds_seen l.bounds.bounds)) (map parameter_of l.params);
  grouped : AddsGrouped (BoundsIn l.bounds) l.initial.list.items l.list.items;
}
