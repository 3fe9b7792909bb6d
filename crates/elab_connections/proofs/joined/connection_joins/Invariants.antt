use Rattle.std.proofs.Common.{◌≡◌, ◌++◌, map, drop}
use Rattle.v_tree.specs.Views.{connection_of}
use Rattle.v_elab.specs.Connections as plain
use Rattle.v_elab.specs.Connections.{connections_joins}
use Rattle.instance_checks.specs.Children.{IsChild}
use Rattle.elab_items.specs.Joins.{port_joined_of}
use Rattle.elab_connections.specs.PathViews.{ArePaths}
use Rattle.elab_connections.proofs.joined.connection_joins.Given as goal

abbrev pub invariant-connections : goal.invariant-connections
invariant-connections l =
    (child : plain.Child) → IsChild child l.child → (p : plain.Paths) → ArePaths p l.paths
    → map port_joined_of l.joins.items ++ connections_joins child p l.position (map connection_of (drop l.position l.connections)) ≡ connections_joins child p 0 (map connection_of l.connections)
