use Rattle.vf_base.specs.Base.{process_number}
use Rattle.process_table.specs.Rows.{made_ready}
use Rattle.process_table.proofs.Changed.{rows-change}
use Rattle.process_table.proofs.rows.make_ready.Goals as goal

pub returns : goal.returns
returns c = rows-change c.args.rows.now.items (process_number c.args.process) c.index_mut.result.now c.make_ready.new.self made_ready c.requires c.index_mut.ensures.value c.make_ready.ensures
