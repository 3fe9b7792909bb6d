-- The laws are proved in `Cuts`.
use Rattle.block_filter.proofs.Cuts.{blocks_suffice, all_are_awaited}
use Rattle.block_filter.proofs.blocks_suffice.Goals as goal

pub returns-clause-race : goal.returns-clause-race
returns-clause-race c = blocks_suffice

pub returns-clause-awaited : goal.returns-clause-awaited
returns-clause-awaited c = all_are_awaited
