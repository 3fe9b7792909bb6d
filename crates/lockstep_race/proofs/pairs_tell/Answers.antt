-- The laws are proved in `Alike`.
use Rattle.lockstep_race.proofs.Alike.{pairs_tell, alike_goes_on}
use Rattle.lockstep_race.proofs.pairs_tell.Goals as goal

pub returns-clause-pairs : goal.returns-clause-pairs
returns-clause-pairs c = pairs_tell c.accesses.ensures.join c.accesses.ensures.alike

pub returns-clause-more : goal.returns-clause-more
returns-clause-more c = alike_goes_on
