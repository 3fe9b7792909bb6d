-- The laws.
use Rattle.own_counts.proofs.Numbers.{numbers_go_on}
use Rattle.own_counts.proofs.laws.run_numbers_go_on.Goals as goal

pub returns : goal.returns
returns c = numbers_go_on c.blocks_are_told.ensures.runs
