use Rattle.std.proofs.Common.{map, ap, ◌∙◌}
use Rattle.v_tree.specs.Views.{instance_of}
use Rattle.tree_copies.specs.Turns.{one-more}
use Rattle.tree_copies.proofs.copy_item.copy_instances.Goals as goal

pub instances-preserved : goal.instances-preserved
instances-preserved c =
    ap (map instance_of) c.in_ok-push.ensures.items
    ∙ one-more instance_of c.args.instances.now c.instances.copies.items c.instances.instance-index c.instance-item.result c.in_ok-copy.copy c.instances-test.true c.instance-item.is
    c.in_ok-copy.ensures c.instances.invariant
