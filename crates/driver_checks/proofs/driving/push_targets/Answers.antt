use Rattle.key_index.specs.Places.{keys_of}
use Rattle.v_elab.specs.Drivers.{drive_signals}
use Rattle.elab_parts.specs.PartViews.{drive_of}
use Rattle.elab_wires.specs.Turns.{turn}
use Rattle.driver_checks.proofs.DrivingTurns.{targets-append}
use Rattle.driver_checks.proofs.driving.push_targets.Goals as goal

pub drives-preserved : goal.drives-preserved
drives-preserved c =
    turn drive_of drive_signals targets-append c.args.drives.now c.drives.drive-index c.drive-item.result
    (keys_of c.args.names.now.items) _ _ c.drives-test.true c.drive-item.is c.drives.invariant c.in_ok-push_target.ensures
