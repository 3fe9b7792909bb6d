use Rattle.std.proofs.Common.{◌≡◌, ◌<◌, ◌^◌, ◌++◌, drop}
use Rattle.v_elab.specs.Drivers.{drives_width}
use Rattle.elab_parts.specs.PartViews.{drives_of}
use Rattle.elab_wires.specs.Drives.{keyed_drives}
use Rattle.elab_wires.specs.DriveViews.{drives_listed}
use Rattle.elab_wires.proofs.drives.push_drives.Given as goal

abbrev pub invariant-drives : goal.invariant-drives
invariant-drives l = record {
  offset : l.offset ≡ drives_width (drives_of (drop l.drive-index l.drives));
  few : l.offset < 2 ^ 99;
  listed : drives_listed l.items.items ++ keyed_drives l.signals l.node (drives_of (drop l.drive-index l.drives)) ≡ drives_listed l.initial.items.items
      ++ keyed_drives l.signals l.node (drives_of l.drives);
}
