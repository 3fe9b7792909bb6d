use Rattle.std.proofs.Common.{map, ap, ◌∙◌}
use Rattle.v_tree.specs.Views.{connection_of}
use Rattle.tree_copies.specs.Turns.{one-more}
use Rattle.tree_copies.proofs.copy_item.copy_connections.Goals as goal

pub connections-preserved : goal.connections-preserved
connections-preserved c =
    ap (map connection_of) c.in_ok-push.ensures.items
    ∙ one-more connection_of c.args.connections.now c.connections.copies.items c.connections.connection-index c.connection-item.result c.in_ok-copy.copy c.connections-test.true c.connection-item.is
    c.in_ok-copy.ensures c.connections.invariant
