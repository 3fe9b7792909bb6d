-- The row of a process that waits becomes ready.
use Rattle.std.proofs.Common.{◌≡◌, ◌∙◌, ◌<◌, ℕ, true, List, length, ap, arith, sym}
use Rattle.vf_base.specs.Base.{process_number}
use Rattle.v_design.specs.Accesses.{is_waiting}
use Rattle.v_design.specs.PlainDesigns.{design_of}
use Rattle.v_design.specs.States.{ProcessState}
use Rattle.process_table.specs.declared.table.ProcessTable.{ProcessTable}
use Rattle.process_table.specs.Rows.{row_states, state_at}
use Rattle.process_table.specs.Arranged.{IsKept, table_of}
use Rattle.process_table.specs.Tables.{process_in}
use Rattle.process_table.proofs.Changed.{rows-length}
use Rattle.process_table.proofs.TableCalls.{count-ready, process-row}
use Rattle.process_table.proofs.Replaced.{waiting-low, woken-one, woken-one-processes}
use Rattle.process_table.proofs.table.ProcessTable.wake_one.Goals as goal

-- its row waits
row-waits : (t : ProcessTable) → IsKept t → (p : ℕ) → is_waiting (process_in (table_of t) p).activity ≡ true → is_waiting (state_at (row_states t.rows.items) p).activity ≡ true
row-waits t kept p waits =
    ap (λ (process : ProcessState). is_waiting process.activity) (sym (process-row (design_of t.design.now) t.time t.rows.items t.index t.ready t.lanes t.queue kept p)) ∙ waits

row-there : (t : ProcessTable) → IsKept t → (p : ℕ) → is_waiting (process_in (table_of t) p).activity ≡ true → p < length t.rows.items
row-there t kept p waits = omega (arith, waiting-low (row_states t.rows.items) p (row-waits t kept p waits), rows-length t.rows.items)

pub make_ready-requires : goal.make_ready-requires
make_ready-requires c = row-there c.args.self.now c.requires.kept (process_number c.args.process) c.requires.waits

pub insert-requires : goal.insert-requires
insert-requires c =
    let t = c.args.self.now in
    omega (
      arith,
      row-there t c.requires.kept (process_number c.args.process) c.requires.waits,
      count-ready (design_of t.design.now) t.time t.rows.items t.index t.ready t.lanes t.queue c.requires.kept,
    )

pub returns-clause-table : goal.returns-clause-table
returns-clause-table c =
    let t = c.args.self.now in
    ap (λ (ps : List ProcessState). record (table_of t) { processes = ps })
    (woken-one-processes (design_of t.design.now) t.time t.rows.items t.index t.ready t.lanes t.queue c.requires.kept (process_number c.args.process) c.make_ready.new.rows.items c.make_ready.ensures)

pub returns-clause-kept : goal.returns-clause-kept
returns-clause-kept c =
    let t = c.args.self.now in
    let p = process_number c.args.process in
    woken-one (design_of t.design.now) t.time t.rows.items t.index t.ready t.lanes t.queue c.requires.kept p c.make_ready.new.rows.items c.insert.new.self
    (row-waits t c.requires.kept p c.requires.waits) c.make_ready.ensures c.insert.ensures
