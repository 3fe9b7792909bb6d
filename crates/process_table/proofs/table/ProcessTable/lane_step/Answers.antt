use Rattle.std.proofs.Common.{◌∙◌, ◌<◌, List, length, ap, sym, arith, refl}
use Rattle.vf_base.specs.Base.{process_number}
use Rattle.vf_base.specs.Lists.{change_at}
use Rattle.v_design.specs.PlainDesigns.{design_of}
use Rattle.v_design.specs.States.{ProcessState, first_update, after_lane_step}
use Rattle.process_table.specs.Rows.{RowState, row_states, state_at, after_update}
use Rattle.process_table.specs.Arranged.{processes_of, table_of}
use Rattle.event_queue.specs.ChangeLaws.{at-change}
use Rattle.process_table.proofs.Changed.{no_row, processes-change_row, rows-length}
use Rattle.process_table.proofs.EachChanged.{as-many}
use Rattle.process_table.proofs.TableCalls.{process-row, count-processes, count-lanes, lane-table}
use Rattle.process_table.proofs.table.ProcessTable.lane_step.Goals as goal

pub take_update-update-requires : goal.take_update-update-requires
take_update-update-requires c =
    let t = c.args.self.now in
    omega (arith, c.requires.number, count-processes (design_of t.design.now) t.time t.rows.items t.index t.ready t.lanes t.queue c.requires.kept)

pub has_lane-more-requires : goal.has_lane-more-requires
has_lane-more-requires c =
    let t = c.args.self.now in
    omega (
      arith,
      c.requires.number,
      count-processes (design_of t.design.now) t.time t.rows.items t.index t.ready t.lanes t.queue c.requires.kept,
      as-many t.rows.items c.take_update-update.new.rows.items c.take_update-update.ensures.rows.texts,
    )

pub mark-requires : goal.mark-requires
mark-requires c =
    let t = c.args.self.now in
    omega (
      arith,
      c.requires.number,
      count-processes (design_of t.design.now) t.time t.rows.items t.index t.ready t.lanes t.queue c.requires.kept,
      count-lanes (design_of t.design.now) t.time t.rows.items t.index t.ready t.lanes t.queue c.requires.kept,
    )

pub returns-clause-update : goal.returns-clause-update
returns-clause-update c =
    let t = c.args.self.now in
    c.take_update-update.ensures.update
    ∙ ap (λ (process : ProcessState). first_update process.lane) (sym (process-row (design_of t.design.now) t.time t.rows.items t.index t.ready t.lanes t.queue c.requires.kept
    (process_number c.args.process)))

pub returns-clause-rest : goal.returns-clause-rest
returns-clause-rest c =
    let t = c.args.self.now in
    let p = process_number c.args.process in
    ap (λ (ps : List ProcessState). record (table_of t) { processes = ps })
    (ap (λ (states : List RowState). processes_of states t.queue) c.take_update-update.ensures.rows.states
    ∙ processes-change_row (row_states t.rows.items) t.queue p after_update after_lane_step refl)

pub returns-clause-kept : goal.returns-clause-kept
returns-clause-kept c =
    let t = c.args.self.now in
    let p = process_number c.args.process in
    let low : p < length (row_states t.rows.items) =
    omega (arith, c.requires.number, rows-length t.rows.items, count-processes (design_of t.design.now) t.time t.rows.items t.index t.ready t.lanes t.queue c.requires.kept) in
    lane-table (design_of t.design.now) t.time t.rows.items t.index t.ready t.lanes t.queue c.requires.kept p c.take_update-update.new.rows.items c.mark.new.set c.take_update-update.ensures.rows
    (c.mark.ensures ∙ ap (λ b. change_at t.lanes p (λ member. b)) c.has_lane-more.ensures)
    (ap (λ (states : List RowState). state_at states p) c.take_update-update.ensures.rows.states ∙ at-change no_row (row_states t.rows.items) p after_update low)
