use Rattle.std.proofs.Common.{◌++◌, ap, ◌∙◌}
use Rattle.elab_wires.specs.Drives.{keyed_drives}
use Rattle.elab_wires.specs.DriveViews.{drives_listed}
use Rattle.elab_wires.proofs.DriveTurns.{node-turn}
use Rattle.elab_wires.proofs.drives.list_drives.Goals as goal

pub nodes-preserved : goal.nodes-preserved
nodes-preserved c =
    node-turn c.args.signals.now c.args.nodes.now c.nodes.number c.index-nodes-number.result _ _ c.nodes-test.true c.index-nodes-number.is c.nodes.invariant
    (c.in_ok-push_drives.ensures ∙ ap (λ ds. drives_listed c.nodes.items.items ++ keyed_drives c.args.signals.now c.nodes.number ds) c.as_slice.ensures)
