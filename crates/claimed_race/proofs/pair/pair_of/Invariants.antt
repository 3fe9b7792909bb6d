use Rattle.std.proofs.Common.{◌≡◌, drop}
use Rattle.causal_monitor.specs.Index.{accesses_in}
use Rattle.claimed_race.specs.Places.{pair_of_places}
use Rattle.claimed_race.proofs.pair.pair_of.Given as goal

abbrev pub invariant-firsts : goal.invariant-firsts
invariant-firsts l =
    pair_of_places l.log.log (accesses_in l.index) l.seconds (drop l.first-index l.firsts) ≡ pair_of_places l.log.log (accesses_in l.index) l.seconds l.firsts
