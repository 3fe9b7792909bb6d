use Rattle.std.proofs.Common.{◌≡◌, drop}
use Rattle.std.specs.Prelude.{find}
use Rattle.causal_monitor.specs.Index.{accesses_in}
use Rattle.claimed_race.specs.Places.{is_second}
use Rattle.claimed_race.proofs.pair.second_of.Given as goal

abbrev pub invariant-seconds : goal.invariant-seconds
invariant-seconds l =
    find (is_second l.log.log (accesses_in l.index) l.first) (drop l.second-index l.seconds) ≡ find (is_second l.log.log (accesses_in l.index) l.first) l.seconds
