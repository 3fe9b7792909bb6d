use Rattle.std.proofs.Common.{List, ◌++◌, map, flat_map, ap, ap₂, sym, ◌∙◌}
use Rattle.v_tree.specs.Trees.{SourceConnection, SourceInstance}
use Rattle.v_tree.specs.Views.{connection_of, instance_of, item_of}
use Rattle.v_tree.specs.declared.item.Item.{Item}
use Rattle.v_tree.specs.declared.item.Connection.{Connection}
use Rattle.v_tree.specs.declared.item.Instance.{Instance}
use Rattle.v_names.specs.Constants.{ParameterValue, constant_faults, optional_faults}
use Rattle.v_names.specs.Names.{actual_faults, item_name_faults}
use Rattle.name_checks.specs.Noted.{noted-two}
use Rattle.name_checks.proofs.items.note_item.Goals as goal

pub returns-in_ok-note_instances-in-Instance : goal.returns-in_ok-note_instances-in-Instance
returns-in_ok-note_instances-in-Instance c =
    noted-two c.args.first.now _ _ (flat_map (λ (k : SourceConnection). optional_faults (constant_faults c.args.scope.now ParameterValue) k.actual)
    (map connection_of c.as_slice-in-Instance.result.now))
    (flat_map (λ (i : SourceInstance). flat_map (actual_faults c.args.scope.now) i.connections) (map instance_of c.as_slice-in-Instance-2.result.now))
    (item_name_faults c.args.scope.now (item_of c.args.item.now))
    c.in_ok-note_set_parameters-in-Instance.ensures c.in_ok-note_instances-in-Instance.ensures
    (ap (λ (i : Item). item_name_faults c.args.scope.now (item_of i)) c.in-Instance.is
    ∙ ap₂ (λ (ks : List Connection) (is : List Instance). flat_map (λ (k : SourceConnection). optional_faults (constant_faults c.args.scope.now ParameterValue) k.actual) (map connection_of ks)
    ++ flat_map (λ (i : SourceInstance). flat_map (actual_faults c.args.scope.now) i.connections) (map instance_of is)) (sym c.as_slice-in-Instance.ensures) (sym c.as_slice-in-Instance-2.ensures))
