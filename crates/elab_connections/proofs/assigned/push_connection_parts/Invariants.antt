use Rattle.std.proofs.Common.{◌≡◌, ◌++◌, false, map, drop}
use Rattle.v_tree.specs.Views.{connection_of}
use Rattle.v_elab.specs.Connections as plain
use Rattle.v_elab.specs.Connections.{connections_parts}
use Rattle.elab_parts.specs.PartViews.{parts_of}
use Rattle.instance_checks.specs.Children.{IsChild}
use Rattle.elab_connections.specs.PathViews.{ArePaths}
use Rattle.elab_connections.specs.WidePorts.{connects_wide_port}
use Rattle.elab_connections.specs.OutputRuns.{ConnectionsTakeRuns}
use Rattle.elab_connections.proofs.assigned.push_connection_parts.Given as goal

-- no connection to come is that of a wide port, and they assign runs of bits
abbrev pub invariant-connections : goal.invariant-connections
invariant-connections l =
    (child : plain.Child) → IsChild child l.child → connects_wide_port child 0 (map connection_of l.connections) ≡ false
    → ConnectionsTakeRuns child 0 (map connection_of l.connections)
    → (connects_wide_port child l.position (map connection_of (drop l.position l.connections)) ≡ false)
    × ConnectionsTakeRuns child l.position (map connection_of (drop l.position l.connections))
    × ((p : plain.Paths) → ArePaths p l.paths
    → parts_of l.parts.items ++ connections_parts child p l.position (map connection_of (drop l.position l.connections)) ≡ parts_of l.initial.parts.items
    ++ connections_parts child p 0 (map connection_of l.connections))
