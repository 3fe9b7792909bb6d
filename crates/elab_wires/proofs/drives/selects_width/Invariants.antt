use Rattle.std.proofs.Common.{◌≡◌, ◌+◌, ◌*◌, ◌≤◌, ◌^◌, drop}
use Rattle.v_elab.specs.Drivers.{drives_width}
use Rattle.elab_parts.specs.PartViews.{drives_of}
use Rattle.elab_wires.proofs.drives.selects_width.Given as goal

abbrev pub invariant-drives : goal.invariant-drives
invariant-drives l = record {
  few : l.width ≤ 2 ^ 34 * l.drive-index;
  left : l.width + drives_width (drives_of (drop l.drive-index l.drives)) ≡ drives_width (drives_of l.drives);
}
