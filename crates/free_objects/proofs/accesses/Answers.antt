-- The laws are proved in `Stretches`.
use Rattle.free_objects.proofs.Stretches.{stretches_join, alike_stretches_do}
use Rattle.free_objects.proofs.accesses.Goals as goal

pub returns-clause-join : goal.returns-clause-join
returns-clause-join c = stretches_join

pub returns-clause-alike : goal.returns-clause-alike
returns-clause-alike c = alike_stretches_do
