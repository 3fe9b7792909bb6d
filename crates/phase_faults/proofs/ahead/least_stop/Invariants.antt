-- So far it is the least of the first ones.
use Rattle.std.proofs.Common.{◌≡◌, take}
use Rattle.std.specs.List.{fold}
use Rattle.phase_faults.specs.Beside.{sooner}
use Rattle.phase_faults.proofs.ahead.least_stop.Given as goal

abbrev pub invariant-stops : goal.invariant-stops
invariant-stops l = l.least ≡ fold sooner l.end (take l.stop-index l.stops)
