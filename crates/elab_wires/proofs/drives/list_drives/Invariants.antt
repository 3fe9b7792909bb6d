use Rattle.std.proofs.Common.{◌≡◌, take, map}
use Rattle.elab_parts.specs.BehaviourViews.{node_of}
use Rattle.elab_wires.specs.Drives.{all_drives}
use Rattle.elab_wires.specs.DriveViews.{drives_listed}
use Rattle.elab_wires.proofs.drives.list_drives.Given as goal

abbrev pub invariant-nodes : goal.invariant-nodes
invariant-nodes l = drives_listed l.items.items ≡ all_drives l.signals 0 (map node_of (take l.number l.nodes))
