use Rattle.process_table.specs.Rows.{RowState, idle_row}
use Rattle.process_table.proofs.Changed.{rows-change}
use Rattle.process_table.proofs.rows.clear_row.Goals as goal

pub returns : goal.returns
returns c = rows-change c.args.rows.now.items c.args.number c.index_mut.result.now c.clear.new.self (λ (row : RowState). idle_row) c.requires c.index_mut.ensures.value c.clear.ensures
