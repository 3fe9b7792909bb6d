use Rattle.std.proofs.Common.{◌≡◌, map, drop}
use Rattle.v_tree.specs.Views.{connection_of}
use Rattle.v_elab.specs.Connections as plain
use Rattle.instance_checks.specs.Children.{IsChild}
use Rattle.elab_connections.specs.WidePorts.{connects_wide_port}
use Rattle.elab_connections.proofs.wide.connects_wide_port.Given as goal

abbrev pub invariant-connections : goal.invariant-connections
invariant-connections l =
    (child : plain.Child) → IsChild child l.child → connects_wide_port child l.position (map connection_of (drop l.position l.connections)) ≡ connects_wide_port child 0
    (map connection_of l.connections)
