-- The row gets the lane, and the queue the other updates.
use Rattle.std.proofs.Common.{◌∙◌, Bool, List, map, ap, arith}
use Rattle.vf_base.specs.Base.{process_number}
use Rattle.vf_base.specs.Lists.{change_at}
use Rattle.v_design.specs.Plain.{due_of, update_of}
use Rattle.v_design.specs.PlainDesigns.{design_of}
use Rattle.v_design.specs.States.{ProcessState, is_any}
use Rattle.process_table.specs.Rows.{RowState}
use Rattle.process_table.specs.Arranged.{table_of}
use Rattle.process_table.proofs.EachChanged.{as-many}
use Rattle.process_table.proofs.CodesAt.{row-low}
use Rattle.process_table.proofs.TableCalls.{count-lanes, count-queue}
use Rattle.process_table.proofs.Replaced.{filled-at, pending-table, pending-processes}
use Rattle.process_table.proofs.table.ProcessTable.put_updates.Goals as goal

pub fill_row-requires : goal.fill_row-requires
fill_row-requires c = row-low c.args.self.now c.requires.kept (process_number c.args.process) c.requires.number

pub put_updates-requires : goal.put_updates-requires
put_updates-requires c =
    let t = c.args.self.now in
    let p = process_number c.args.process in
    omega (arith, row-low t c.requires.kept p c.requires.number, count-queue (design_of t.design.now) t.time t.rows.items t.index t.ready t.lanes t.queue c.requires.kept)

pub has_lane-busy-requires : goal.has_lane-busy-requires
has_lane-busy-requires c =
    let t = c.args.self.now in
    let p = process_number c.args.process in
    omega (arith, row-low t c.requires.kept p c.requires.number, as-many t.rows.items c.fill_row.new.rows.items c.in_ok-fill_row.ensures.texts)

pub mark-requires : goal.mark-requires
mark-requires c =
    let t = c.args.self.now in
    let p = process_number c.args.process in
    omega (arith, row-low t c.requires.kept p c.requires.number, count-lanes (design_of t.design.now) t.time t.rows.items t.index t.ready t.lanes t.queue c.requires.kept)

pub returns-clause-table : goal.returns-clause-table
returns-clause-table c =
    let t = c.args.self.now in
    let p = process_number c.args.process in
    ap (λ (ps : List ProcessState). record (table_of t) { processes = ps })
    (pending-processes (design_of t.design.now) t.time t.rows.items t.index t.ready t.lanes t.queue c.requires.kept p (map due_of c.args.later.now) (map update_of c.args.lane.now)
    c.fill_row.new.rows.items c.in_ok-fill_row.ensures c.put_updates.new.self c.in_ok-put_updates.ensures)

pub returns-clause-kept : goal.returns-clause-kept
returns-clause-kept c =
    let t = c.args.self.now in
    let p = process_number c.args.process in
    let design = design_of t.design.now in
    let later = map due_of c.args.later.now in
    let lane = map update_of c.args.lane.now in
    let low = row-low t c.requires.kept p c.requires.number in
    let at = filled-at design t.time t.rows.items t.index t.ready t.lanes t.queue c.requires.kept p later lane c.fill_row.new.rows.items c.in_ok-fill_row.ensures
    c.put_updates.new.self c.in_ok-put_updates.ensures low in
    pending-table design t.time t.rows.items t.index t.ready t.lanes t.queue c.requires.kept p later lane c.fill_row.new.rows.items c.in_ok-fill_row.ensures
    c.put_updates.new.self c.in_ok-put_updates.ensures c.mark.new.set
    (c.mark.ensures ∙ ap (λ (b : Bool). change_at t.lanes p (λ (old : Bool). b)) (c.has_lane-busy.ensures ∙ ap (λ (r : RowState). is_any r.lane) at)) c.requires.after
