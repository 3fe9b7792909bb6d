use Rattle.std.proofs.Common.{◌≡◌, ◌++◌, take, map}
use Rattle.v_elab.specs.Drivers.{drive_signals}
use Rattle.elab_parts.specs.PartViews.{drive_of}
use Rattle.elab_wires.specs.WrittenNames.{written_of, written_by}
use Rattle.elab_wires.proofs.written.push_drives.Given as goal

abbrev pub invariant-drives : goal.invariant-drives
invariant-drives l = map written_of l.written.items ≡ map written_of l.initial.written.items ++ written_by l.part (drive_signals (map drive_of (take l.drive-index l.drives)))
