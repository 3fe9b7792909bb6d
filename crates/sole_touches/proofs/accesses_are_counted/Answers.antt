-- The laws are proved in `Counts`.
use Rattle.sole_touches.proofs.Counts.{none_are_counted, counts_join, alike_counts, pairs_are_counted}
use Rattle.sole_touches.proofs.accesses_are_counted.Goals as goal

pub returns-clause-none : goal.returns-clause-none
returns-clause-none c = none_are_counted

pub returns-clause-join : goal.returns-clause-join
returns-clause-join c = counts_join

pub returns-clause-alike : goal.returns-clause-alike
returns-clause-alike c = alike_counts

pub returns-clause-pairs : goal.returns-clause-pairs
returns-clause-pairs c = pairs_are_counted
