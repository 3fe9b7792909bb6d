use Rattle.std.proofs.Common.{◌≡◌, map, flat_map, drop}
use Rattle.v_tree.specs.Views.{instance_of}
use Rattle.v_elab.specs.Connections as plain
use Rattle.v_elab.specs.Connections.{instance_faults}
use Rattle.name_checks.specs.Noted.{noted}
use Rattle.instance_checks.specs.Children.{IsChild}
use Rattle.instance_checks.proofs.instances.note_instances.Given as goal

abbrev pub invariant-instances : goal.invariant-instances
invariant-instances l =
    (c : plain.Child) → IsChild c l.child
    → noted l.first (flat_map (instance_faults c l.depth) (map instance_of (drop l.instance-index l.instances))) ≡ noted l.initial.first
    (flat_map (instance_faults c l.depth) (map instance_of l.instances))
