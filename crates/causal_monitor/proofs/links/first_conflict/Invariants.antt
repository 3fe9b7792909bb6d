use Rattle.std.proofs.Common.{map}
use Rattle.causal_monitor.specs.Counted.{phase_access}
use Rattle.causal_monitor.specs.Links.{IsSearch, low_of}
use Rattle.causal_monitor.proofs.links.first_conflict.Given as goal

abbrev pub invariant-back : goal.invariant-back
invariant-back l = IsSearch l.log.log (map phase_access l.accesses) l.number l.at l.first

abbrev pub decreases-back : goal.decreases-back
decreases-back l = low_of l.at
