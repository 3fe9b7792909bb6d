use Rattle.std.proofs.Common.{map}
use Rattle.v_elab.specs.Drivers.{drive_signals}
use Rattle.elab_parts.specs.PartViews.{drive_of}
use Rattle.elab_wires.specs.WrittenNames.{written_of, written_by}
use Rattle.elab_wires.specs.Turns.{turn}
use Rattle.elab_wires.proofs.WrittenTurns.{drives-append}
use Rattle.elab_wires.proofs.written.push_drives.Goals as goal

pub drives-preserved : goal.drives-preserved
drives-preserved c =
    turn drive_of (λ ds. written_by c.args.part (drive_signals ds)) (drives-append c.args.part) c.args.drives.now c.drives.drive-index c.drive-item.result (map written_of c.args.written.now.items) _ _
    c.drives-test.true c.drive-item.is c.drives.invariant c.in_ok-push_drive.ensures
