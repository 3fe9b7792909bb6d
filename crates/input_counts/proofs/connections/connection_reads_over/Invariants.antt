use Rattle.std.proofs.Common.{◌≡◌, map, drop}
use Rattle.v_tree.specs.Views.{connection_of}
use Rattle.v_elab.specs.Connections as plain
use Rattle.v_elab.specs.ReadCounts.{some_reads_over, connections_reads}
use Rattle.instance_checks.specs.Children.{IsChild}
use Rattle.input_counts.proofs.connections.connection_reads_over.Given as goal

abbrev pub invariant-connections : goal.invariant-connections
invariant-connections l =
    (child : plain.Child) → IsChild child l.child
    → some_reads_over child.outer_scope (connections_reads child l.position (map connection_of (drop l.position l.connections))) ≡ some_reads_over child.outer_scope
    (connections_reads child 0 (map connection_of l.connections))
