use Rattle.std.proofs.Common.{List, map, flat_map, refl}
use Rattle.v_tree.specs.Views.{instance_of}
use Rattle.v_tree.specs.declared.item.Instance.{Instance}
use Rattle.v_elab.specs.Connections.{instance_faults}
use Rattle.name_checks.specs.Rows.{rest-more}
use Rattle.instance_checks.proofs.instances.note_instances.Goals as goal

pub instances-preserved : goal.instances-preserved
instances-preserved c child are =
    rest-more (λ (x : Instance). instance_faults child c.args.depth (instance_of x)) (λ (xs : List Instance). flat_map (instance_faults child c.args.depth) (map instance_of xs)) c.args.instances.now
    c.instances.instance-index c.instance-item.result
    c.instances.first c.note_instance.new.first _ (λ y ys. refl) c.instances-test.true c.instance-item.is (c.in_ok-note_instance.ensures child are) (c.instances.invariant child are)
