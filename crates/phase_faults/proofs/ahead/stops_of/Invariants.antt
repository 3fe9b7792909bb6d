-- So far they are those of the first ones.
use Rattle.std.proofs.Common.{◌≡◌, map, take}
use Rattle.phase_faults.specs.Beside.{stop_of}
use Rattle.phase_faults.proofs.ahead.stops_of.Given as goal

abbrev pub invariant-faults : goal.invariant-faults
invariant-faults l = l.stops.items ≡ map (stop_of l.end) (take l.each-index l.faults)
