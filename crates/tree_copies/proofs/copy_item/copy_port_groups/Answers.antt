use Rattle.std.proofs.Common.{map, ap, ◌∙◌}
use Rattle.v_tree.specs.Views.{ports_of}
use Rattle.tree_copies.specs.Turns.{one-more}
use Rattle.tree_copies.proofs.copy_item.copy_port_groups.Goals as goal

pub groups-preserved : goal.groups-preserved
groups-preserved c =
    ap (map ports_of) c.in_ok-push.ensures.items
    ∙ one-more ports_of c.args.groups.now c.groups.copies.items c.groups.group-index c.group-item.result c.in_ok-copy.copy c.groups-test.true c.group-item.is c.in_ok-copy.ensures c.groups.invariant
