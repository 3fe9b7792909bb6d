use Rattle.std.proofs.Common.{◌≡◌, flat_map, take}
use Rattle.v_ports.specs.Pieces.{least_among}
use Rattle.driver_checks.specs.Overlaps.{bits_of}
use Rattle.driver_checks.proofs.overlap.least_taken.Given as goal

abbrev pub invariant-taken : goal.invariant-taken
invariant-taken l = l.least ≡ least_among (flat_map bits_of (take l.run-index l.taken)) (bits_of l.bits)
