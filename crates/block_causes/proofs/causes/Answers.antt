-- The laws are proved in `Caused`.
use Rattle.block_causes.proofs.Caused.{stretches_are_caused, blocks_are_caused}
use Rattle.block_causes.proofs.causes.Goals as goal

pub returns-clause-stretches : goal.returns-clause-stretches
returns-clause-stretches c = stretches_are_caused

pub returns-clause-blocks : goal.returns-clause-blocks
returns-clause-blocks c = blocks_are_caused
