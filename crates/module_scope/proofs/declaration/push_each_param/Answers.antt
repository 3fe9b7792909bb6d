use Rattle.std.proofs.Common.{List, [], ◌∷◌, map, refl}
use Rattle.module_scope.specs.Declarations.{declarations_seen, param_declared}
use Rattle.name_checks.specs.BoundViews.{bounds_seen}
use Rattle.v_tree.specs.Views.{parameter_of}
use Rattle.v_tree.specs.declared.item.Param.{Param}
use Rattle.name_checks.specs.Rows.{list-more}
use Rattle.module_scope.specs.Groups.{BoundsIn}
use Rattle.module_scope.proofs.Grouping.{adds-none, adds-both, adds-where}
use Rattle.module_scope.proofs.declaration.push_each_param.Goals as goal

pub params-preserved : goal.params-preserved
params-preserved c = record {
  list =
      list-more (λ (x : Param). param_declared c.args.group.now.is_local c.args.group.now.signed (bounds_seen c.args.bounds.bounds) (parameter_of x) ∷ [])
      (λ (xs : List Param). map (param_declared c.args.group.now.is_local c.args.group.now.signed (bounds_seen c.args.bounds.bounds)) (map parameter_of xs)) c.args.params.now c.params.param-index
      c.param-item.result
      (declarations_seen c.params.list.items) (declarations_seen c.push.new.list.items) _ (λ y ys. refl) c.params-test.true c.param-item.is c.in_ok-push.ensures.list c.params.invariant.list;
  grouped = adds-both (BoundsIn c.args.bounds) _ _ _ c.params.invariant.grouped (adds-where _ (BoundsIn c.args.bounds) _ _ (λ groups h. h) c.in_ok-push.ensures.grouped);
}

pub params-init : goal.params-init
params-init c = record { list = refl; grouped = adds-none (BoundsIn c.args.bounds) _ }
