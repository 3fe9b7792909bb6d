use Rattle.std.proofs.Common.{drop, map}
use Rattle.v_ports.specs.Pieces.{run_of_drive}
use Rattle.v_ports.specs.Cuts.{drive_of}
use Rattle.v_ports.proofs.Cutting.{AreTaken}
use Rattle.v_ports.proofs.cut.owners_of.Given as goal

abbrev pub invariant-drives : goal.invariant-drives
invariant-drives l = AreTaken (map run_of_drive (map drive_of l.drives)) (map run_of_drive (map drive_of (drop l.place l.drives))) l.place l.owners.items l.width
