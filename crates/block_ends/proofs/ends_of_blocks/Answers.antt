-- The law is proved in `Ended`.
use Rattle.block_ends.proofs.Ended.{ends_of_blocks}
use Rattle.block_ends.proofs.ends_of_blocks.Goals as goal

pub returns : goal.returns
returns c = ends_of_blocks c.blocks_are_told.ensures.begin c.blocks_are_run.ensures.runs
