-- That of its row is one.
use Rattle.vf_base.specs.Base.{process_number}
use Rattle.process_table.proofs.CodesAt.{row-low, row-there, code-at}
use Rattle.process_table.specs.declared.row.Row.{Row}
use Rattle.process_table.proofs.table.ProcessTable.has_code.Goals as goal

pub returns : goal.returns
returns c =
    let t = c.args.self.now in
    let p = process_number c.args.process in
    let low = row-low t c.requires.kept p c.requires.number in
    let r = row-there t.rows.items p low in
    let row : Row = r.0 in
    (row.code, code-at t c.requires.kept p row low r.1)
