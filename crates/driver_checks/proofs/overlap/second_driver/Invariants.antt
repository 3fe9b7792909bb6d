use Rattle.std.proofs.Common.{◌≡◌, flat_map, drop}
use Rattle.v_ports.specs.Pieces.{second_driver}
use Rattle.driver_checks.specs.Overlaps.{bits_of}
use Rattle.driver_checks.proofs.OverlapTurns.{runs_of}
use Rattle.driver_checks.proofs.overlap.second_driver.Given as goal

abbrev pub invariant-drives : goal.invariant-drives
invariant-drives l = second_driver (flat_map bits_of l.taken.items) (runs_of (drop l.drive-index l.drives)) ≡ second_driver (flat_map bits_of l.initial.taken.items) (runs_of l.drives)
