-- The law is proved in `One`.
use Rattle.block_changes.proofs.One.{within_is_one}
use Rattle.block_changes.proofs.differences_are_one.Goals as goal

pub returns : goal.returns
returns c = within_is_one
