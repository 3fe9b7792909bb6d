-- In the code of its row the process stands as it is to stand, and so in each code of the process.
use Rattle.std.proofs.Common.{◌∙◌, List, [], map, ap, arith}
use Rattle.vf_base.specs.Base.{process_number}
use Rattle.vf_base.specs.Lists.{change_at}
use Rattle.v_design.specs.Plain.{due_of}
use Rattle.v_design.specs.PlainDesigns.{design_of}
use Rattle.v_design.specs.Processes.{Activity}
use Rattle.v_design.specs.States.{ProcessState}
use Rattle.process_table.specs.declared.row.Row.{Row}
use Rattle.process_table.specs.Rows.{row_states}
use Rattle.process_table.specs.Arranged.{table_of, processes_of}
use Rattle.process_table.specs.Tables.{TableState}
use Rattle.process_table.proofs.EachChanged.{as-many}
use Rattle.process_table.proofs.CodesAt.{row-low, row-there, code-at, one-process}
use Rattle.process_table.proofs.TableCalls.{count-ready, count-queue}
use Rattle.process_table.proofs.PutLaws.{idle-free, put-table, put-processes}
use Rattle.process_table.proofs.table.ProcessTable.put.Goals as goal

pub put_state-requires-clause-number : goal.put_state-requires-clause-number
put_state-requires-clause-number c = row-low c.args.self.now c.requires.kept (process_number c.args.process) c.requires.number

pub put_state-requires-clause-state : goal.put_state-requires-clause-state
put_state-requires-clause-state c = λ row is.
    let t = c.args.self.now in
    let p = process_number c.args.process in
    (c.requires.stands row.code (code-at t c.requires.kept p row (row-low t c.requires.kept p c.requires.number) is)).is_state

pub standing_of-standing-requires : goal.standing_of-standing-requires
standing_of-standing-requires c =
    let t = c.args.self.now in
    let p = process_number c.args.process in
    let low = row-low t c.requires.kept p c.requires.number in
    let r = row-there t.rows.items p low in
    omega (arith, low, as-many t.rows.items c.put_state.new.rows.items (c.in_ok-put_state.ensures r.0 r.1).texts)

pub hold_with-requires-clause-number : goal.hold_with-requires-clause-number
hold_with-requires-clause-number c =
    let t = c.args.self.now in
    let p = process_number c.args.process in
    omega (arith, row-low t c.requires.kept p c.requires.number, count-queue (design_of t.design.now) t.time t.rows.items t.index t.ready t.lanes t.queue c.requires.kept)

pub hold_with-requires-clause-free : goal.hold_with-requires-clause-free
hold_with-requires-clause-free c =
    let t = c.args.self.now in
    idle-free (design_of t.design.now) t.time t.rows.items t.index t.ready t.lanes t.queue c.requires.kept (process_number c.args.process) c.requires.idle

pub mark-requires : goal.mark-requires
mark-requires c =
    let t = c.args.self.now in
    let p = process_number c.args.process in
    omega (arith, row-low t c.requires.kept p c.requires.number, count-ready (design_of t.design.now) t.time t.rows.items t.index t.ready t.lanes t.queue c.requires.kept)

pub returns-clause-table : goal.returns-clause-table
returns-clause-table c = λ code at.
    let t = c.args.self.now in
    let design = design_of t.design.now in
    let p = process_number c.args.process in
    let low = row-low t c.requires.kept p c.requires.number in
    let r = row-there t.rows.items p low in
    let row : Row = r.0 in
    let later = map due_of c.args.updates.now in
    let Table : List ProcessState → TableState = λ ps. record (table_of t) { processes = ps } in
    ap Table (put-processes design t.time t.rows.items t.index t.ready t.lanes t.queue c.requires.kept p c.requires.idle row r.1 low c.args.state later
    (c.requires.stands row.code (code-at t c.requires.kept p row low r.1)) c.put_state.new.rows.items c.in_ok-put_state.ensures _ c.hold_with.new.queue c.in_ok-hold_with.ensures
    ∙ ap (λ (a : Activity). change_at (processes_of (row_states t.rows.items) t.queue) p (λ (old : ProcessState). record { activity = a; later = later; lane = [] }))
    ((c.codes_are_one.ensures.read row.code code (one-process t c.requires.kept p row code low r.1 at)).activity c.args.state))

pub returns-clause-kept : goal.returns-clause-kept
returns-clause-kept c =
    let t = c.args.self.now in
    let design = design_of t.design.now in
    let p = process_number c.args.process in
    let low = row-low t c.requires.kept p c.requires.number in
    let r = row-there t.rows.items p low in
    let row : Row = r.0 in
    put-table design t.time t.rows.items t.index t.ready t.lanes t.queue c.requires.kept p c.requires.idle row r.1 low c.args.state (map due_of c.args.updates.now)
    (c.requires.stands row.code (code-at t c.requires.kept p row low r.1)) c.put_state.new.rows.items c.in_ok-put_state.ensures c.standing_of-standing.result.stage
    c.standing_of-standing.result.ready c.standing_of-standing.result.waits c.mark.new.set c.hold_with.new.queue c.standing_of-standing.ensures c.mark.ensures c.in_ok-hold_with.ensures
