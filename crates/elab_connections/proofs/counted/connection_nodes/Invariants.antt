use Rattle.std.proofs.Common.{◌≤◌, map, drop}
use Rattle.v_tree.specs.Views.{connection_of}
use Rattle.v_elab.specs.Connections as plain
use Rattle.v_elab.specs.Connections.{connections_parts}
use Rattle.instance_checks.specs.Children.{IsChild}
use Rattle.elab_connections.proofs.CountLaws.{CountsSoFar}
use Rattle.elab_connections.proofs.counted.connection_nodes.Given as goal

abbrev pub invariant-connections : goal.invariant-connections
invariant-connections l = record {
  most : l.nodes ≤ l.position;
  counts : (child : plain.Child) → IsChild child l.child → (p : plain.Paths) → CountsSoFar (connections_parts child p l.position (map connection_of (drop l.position l.connections)))
      (connections_parts child p 0 (map connection_of l.connections)) l.nodes;
}
