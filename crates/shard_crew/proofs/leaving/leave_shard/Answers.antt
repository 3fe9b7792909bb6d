-- A shard that is through leaves nothing, and any other a copy.
use Rattle.std.proofs.Common.{refl}
use Rattle.shard_crew.proofs.leaving.leave_shard.Goals as goal

pub returns-then-not-goes_on-clause-stays : goal.returns-then-not-goes_on-clause-stays
returns-then-not-goes_on-clause-stays g c = record { own = c.requires.own; same = refl }
