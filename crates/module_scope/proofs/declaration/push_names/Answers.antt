use Rattle.std.proofs.Common.{List, [], ◌∷◌, map, refl}
use Rattle.module_scope.specs.Declarations.{declarations_seen, name_declared, declared_seen}
use Rattle.v_tree.specs.Views.{name_of}
use Rattle.v_tree.specs.declared.item.Name.{Name}
use Rattle.name_checks.specs.Rows.{list-more}
use Rattle.module_scope.specs.Groups.{DeclaredIn}
use Rattle.module_scope.proofs.Grouping.{adds-none, adds-both}
use Rattle.module_scope.proofs.declaration.push_names.Goals as goal

pub names-preserved : goal.names-preserved
names-preserved c = record {
  list =
      list-more (λ (x : Name). name_declared (declared_seen c.args.declared) (name_of x) ∷ [])
      (λ (xs : List Name). map (name_declared (declared_seen c.args.declared)) (map name_of xs)) c.args.names.now c.names.name-index c.name-item.result
      (declarations_seen c.names.list.items) (declarations_seen c.push.new.list.items) _ (λ y ys. refl) c.names-test.true c.name-item.is c.in_ok-push.ensures.list c.names.invariant.list;
  grouped = adds-both (DeclaredIn c.args.declared) _ _ _ c.names.invariant.grouped c.in_ok-push.ensures.grouped;
}

pub names-init : goal.names-init
names-init c = record { list = refl; grouped = adds-none (DeclaredIn c.args.declared) _ }
