use Rattle.v_stmt.proofs.Rows.{case_seen}
use Rattle.v_stmt.proofs.build.case_of.Goals as goal

pub returns : goal.returns
returns c = case_seen c.args.place c.args.kind c.args.value c.args.items
