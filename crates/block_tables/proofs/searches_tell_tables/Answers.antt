-- The law is proved in `Told`.
use Rattle.block_tables.proofs.Told.{searches_tell_tables}
use Rattle.block_tables.proofs.searches_tell_tables.Goals as goal

pub returns : goal.returns
returns c = searches_tell_tables
