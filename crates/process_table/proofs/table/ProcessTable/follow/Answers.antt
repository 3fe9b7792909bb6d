-- The known step is the next one of the row, which comes to stand behind it.
use Rattle.std.proofs.Common.{◌∙◌, ◌<◌, ℕ, length, subst, sym, ap, refl, arith}
use Rattle.std.specs.Prelude.{Option, IfSome}
use Rattle.vf_base.specs.Base.{process_number}
use Rattle.v_design.specs.PlainDesigns.{design_of}
use Rattle.v_design.specs.RulesHold.{rules_hold}
use Rattle.process_table.specs.declared.row.Row.{Row}
use Rattle.process_table.specs.Rows.{row_states, state_at}
use Rattle.process_table.proofs.Bodies.{bodies-waitable}
use Rattle.process_table.proofs.Changed.{rows-length, holding-at}
use Rattle.process_table.proofs.CodesAt.{row-there, code-at}
use Rattle.process_table.proofs.EachChanged.{as-many}
use Rattle.process_table.proofs.TableCalls.{count-ready, count-queue, ready-free}
use Rattle.process_table.specs.Known.{read_told}
use Rattle.v_design.specs.States.{step_of}
use Rattle.process_table.proofs.Known.{ready-row, low, known-table, known-step, told-action}
use Rattle.process_table.proofs.Readings.{reads-there}
use Rattle.process_table.proofs.table.ProcessTable.follow.Goals as goal

pub put_state-requires-clause-number : goal.put_state-requires-clause-number
put_state-requires-clause-number c =
    let t = c.args.self.now in
    omega (arith, low t c.requires.kept (process_number c.args.process) c.requires.ready, rows-length t.rows.items)

pub put_state-requires-clause-state : goal.put_state-requires-clause-state
put_state-requires-clause-state c = λ row is.
    let t = c.args.self.now in
    let p = process_number c.args.process in
    c.requires.stands row.code (code-at t c.requires.kept p row (omega (arith, low t c.requires.kept p c.requires.ready, rows-length t.rows.items)) is)

pub standing_of-standing-requires : goal.standing_of-standing-requires
standing_of-standing-requires c =
    let t = c.args.self.now in
    let p = process_number c.args.process in
    let there : p < length t.rows.items = omega (arith, low t c.requires.kept p c.requires.ready, rows-length t.rows.items) in
    let r = row-there t.rows.items p there in
    omega (arith, there, as-many t.rows.items c.put_state.new.rows.items (c.in_ok-put_state.ensures r.0 r.1).texts)

pub hold_one-requires-clause-number : goal.hold_one-requires-clause-number
hold_one-requires-clause-number c =
    let t = c.args.self.now in
    let p = process_number c.args.process in
    omega (arith, low t c.requires.kept p c.requires.ready, rows-length t.rows.items, count-queue (design_of t.design.now) t.time t.rows.items t.index t.ready t.lanes t.queue c.requires.kept)

pub hold_one-requires-clause-free : goal.hold_one-requires-clause-free
hold_one-requires-clause-free c =
    let t = c.args.self.now in
    let p = process_number c.args.process in
    holding-at (design_of t.design.now) t.time t.rows.items t.index t.ready t.lanes t.queue c.requires.kept p
    ∙ ready-free (state_at (row_states t.rows.items) p).activity (ready-row t c.requires.kept p c.requires.ready)

pub mark-requires : goal.mark-requires
mark-requires c =
    let t = c.args.self.now in
    let p = process_number c.args.process in
    omega (arith, low t c.requires.kept p c.requires.ready, rows-length t.rows.items, count-ready (design_of t.design.now) t.time t.rows.items t.index t.ready t.lanes t.queue c.requires.kept)

pub returns-clause-step : goal.returns-clause-step
returns-clause-step c = λ machine state of known.
    let t = c.args.self.now in
    let design = design_of t.design.now in
    let p = process_number c.args.process in
    let there : p < length t.rows.items = omega (arith, low t c.requires.kept p c.requires.ready, rows-length t.rows.items) in
    let r = row-there t.rows.items p there in
    let row : Row = r.0 in
    known-step design t.time t.rows.items t.index t.ready t.lanes t.queue c.requires.kept (bodies-waitable design (rules_hold design t.design.now.rules)) p c.args.line c.args.act c.args.next.now
    row r.1 (code-at t c.requires.kept p row there r.1) c.put_state.new.rows.items c.in_ok-put_state.ensures machine state of known c.standing_of-standing.result.stage
    c.standing_of-standing.result.ready c.standing_of-standing.result.waits _ c.hold_one.new.queue _
    c.standing_of-standing.ensures (low t c.requires.kept p c.requires.ready) c.later_known-later.ensures c.in_ok-hold_one.ensures refl c.act_known.ensures.read c.act_known.ensures.write
    c.later_known.ensures refl refl

pub returns-clause-kept : goal.returns-clause-kept
returns-clause-kept c =
    let t = c.args.self.now in
    let design = design_of t.design.now in
    let p = process_number c.args.process in
    let there : p < length t.rows.items = omega (arith, low t c.requires.kept p c.requires.ready, rows-length t.rows.items) in
    let r = row-there t.rows.items p there in
    let row : Row = r.0 in
    let known = c.requires.known in
    known-table design t.time t.rows.items t.index t.ready t.lanes t.queue c.requires.kept (bodies-waitable design (rules_hold design t.design.now.rules)) p c.args.line c.args.act c.args.next.now
    row r.1 (code-at t c.requires.kept p row there r.1) c.put_state.new.rows.items c.in_ok-put_state.ensures known.machine known.state known.of known.step c.standing_of-standing.result.stage
    c.standing_of-standing.result.ready c.standing_of-standing.result.waits c.mark.new.set _ c.hold_one.new.queue
    c.standing_of-standing.ensures (low t c.requires.kept p c.requires.ready) c.mark.ensures c.later_known-later.ensures c.in_ok-hold_one.ensures

pub returns-clause-reads : goal.returns-clause-reads
returns-clause-reads c =
    let t = c.args.self.now in
    let known = c.requires.known in
    let Reads : Option ℕ → Type 0 = λ (read : Option ℕ). IfSome read (λ (object : ℕ). object < length (design_of t.design.now).objects) in
    subst Reads (sym (c.act_known.ensures.read ∙ ap read_told known.step.act ∙ told-action known.state.time (step_of known.machine known.state (process_number c.args.process)).action))
    (reads-there t c.requires.kept known.machine known.state known.of (process_number c.args.process))
