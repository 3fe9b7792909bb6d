use Rattle.std.proofs.Common.{List, [], ◌∷◌, map, refl}
use Rattle.module_scope.specs.Declarations.{declarations_seen, instance_declarations}
use Rattle.v_tree.specs.Views.{instance_of}
use Rattle.v_tree.specs.declared.item.Instance.{Instance}
use Rattle.name_checks.specs.Rows.{list-more}
use Rattle.module_scope.specs.Groups.{InAnyCase}
use Rattle.module_scope.proofs.Grouping.{adds-none, adds-both, adds-where}
use Rattle.module_scope.proofs.declaration.push_instances.Goals as goal

pub instances-preserved : goal.instances-preserved
instances-preserved c = record {
  list =
      list-more (λ (x : Instance). instance_declarations (instance_of x ∷ [])) (λ (xs : List Instance). instance_declarations (map instance_of xs)) c.args.instances.now c.instances.instance-index
      c.instance-item.result
      (declarations_seen c.instances.list.items) (declarations_seen c.push.new.list.items) _ (λ y ys. refl)
      c.instances-test.true c.instance-item.is c.in_ok-push.ensures.list c.instances.invariant.list;
  grouped = adds-both InAnyCase _ _ _ c.instances.invariant.grouped (adds-where _ InAnyCase _ _ (λ groups h. h) c.in_ok-push.ensures.grouped);
}

pub instances-init : goal.instances-init
instances-init c = record { list = refl; grouped = adds-none InAnyCase _ }
