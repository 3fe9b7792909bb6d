use Rattle.std.proofs.Common.{◌≡◌, ◌+◌, ◌≤◌, take, map}
use Rattle.std.specs.Prelude.{All}
use Rattle.v_ports.specs.Cuts.{drive_of}
use Rattle.elab_wires.specs.Clipped.{clipped}
use Rattle.elab_objects.specs.ObjectViews.{run_drive}
use Rattle.elab_objects.proofs.pieces.clip_all.Given as goal

abbrev pub invariant-drives : goal.invariant-drives
invariant-drives l = record {
  listed : map drive_of l.left.items ≡ map (clipped l.width) (map run_drive (take l.drive-index l.drives));
  within : All (λ drive. drive.low + drive.width ≤ l.width) l.left.items;
}
