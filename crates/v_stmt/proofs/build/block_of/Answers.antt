use Rattle.v_stmt.proofs.Rows.{block_seen}
use Rattle.v_stmt.proofs.build.block_of.Goals as goal

pub returns : goal.returns
returns c = block_seen c.args.place c.args.statements
