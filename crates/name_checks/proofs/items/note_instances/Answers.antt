use Rattle.std.proofs.Common.{◌++◌, List, map, flat_map, refl, ap, sym, ◌∙◌}
use Rattle.v_names.specs.Names.{actual_faults}
use Rattle.v_tree.specs.Trees.{SourceInstance}
use Rattle.v_tree.specs.Views.{connection_of, instance_of}
use Rattle.v_tree.specs.declared.item.Instance.{Instance}
use Rattle.v_tree.specs.declared.item.Connection.{Connection}
use Rattle.name_checks.specs.Noted.{noted-one}
use Rattle.name_checks.specs.Rows.{rest-more}
use Rattle.name_checks.proofs.items.note_instances.Goals as goal

pub instances-preserved : goal.instances-preserved
instances-preserved c =
    rest-more (λ (x : Instance). flat_map (actual_faults c.args.scope.now) (map connection_of x.connections))
    (λ (xs : List Instance). flat_map (λ (i : SourceInstance). flat_map (actual_faults c.args.scope.now) i.connections) (map instance_of xs)) c.args.instances.now c.instances.instance-index
    c.instance-item.result
    c.instances.first c.note_actuals.new.first _ (λ y ys. refl) c.instances-test.true c.instance-item.is
    (noted-one _ _ (flat_map (actual_faults c.args.scope.now) (map connection_of c.as_slice.result.now))
    (flat_map (actual_faults c.args.scope.now) (map connection_of c.instance-item.result.connections)) c.in_ok-note_actuals.ensures
    (ap (λ (ks : List Connection). flat_map (actual_faults c.args.scope.now) (map connection_of ks)) (sym c.as_slice.ensures))) c.instances.invariant
