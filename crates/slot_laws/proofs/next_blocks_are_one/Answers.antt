-- The law.
use Rattle.slot_laws.proofs.Blocks.{blocks_are_one}
use Rattle.slot_laws.proofs.next_blocks_are_one.Goals as goal

pub returns : goal.returns
returns c = blocks_are_one
