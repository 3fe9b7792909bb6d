use Rattle.std.proofs.Common.{◌≡◌, ◌∙◌, ◌++◌, ◌<◌, [], length, map, ap, sym, subst, arith, get_or, List, ℕ}
use Rattle.vf_base.specs.Lists.{AllHold}
use Rattle.v_design.specs.PlainDesigns.{design_of}
use Rattle.v_design.specs.RulesHold.{rules_hold}
use Rattle.v_design.specs.States.{ProcessState}
use Rattle.v_design.specs.Accesses.{held_by, waiting_entries}
use Rattle.causal_monitor.specs.Notes.{noted_access}
use Rattle.process_table.specs.declared.row.Row.{Row}
use Rattle.process_table.specs.Arranged.{table_of}
use Rattle.process_table.specs.Noted.{IsEntryIn}
use Rattle.process_table.specs.Rows.{RowState}
use Rattle.process_table.proofs.Changed.{state-is}
use Rattle.process_table.proofs.TableCalls.{count-texts, count-processes, process-row}
use Rattle.process_table.proofs.WaitCalls.{entries-in, held-more, held-all}
use Rattle.process_table.proofs.table.ProcessTable.note_held.Goals as goal

-- a row that is read is there
low : (rows list : List Row) (i : ℕ) → list ≡ rows → i < length list → i < length rows
low rows list i same is = omega (arith, is, ap length same)

-- it is the row of its number
read : (rows list : List Row) (i : ℕ) (row : Row) → list ≡ rows → row ≡ get_or list i row → row ≡ get_or rows i row
read rows list i row same is = is ∙ ap (λ l. get_or l i row) same

pub overflow_cast-number : goal.overflow_cast-number
overflow_cast-number c =
    let t = c.args.self.now in
    let design = design_of t.design.now in
    omega (
      arith,
      low t.rows.items c.deref-row-items.result.now c.rows.number c.deref-row-items.ensures.value c.rows-test.true,
      count-texts design t.time t.rows.items t.index t.ready t.lanes t.queue c.requires.kept,
      (rules_hold design t.design.now.rules).few_processes,
    )

pub hold_row-requires-clause-entries : goal.hold_row-requires-clause-entries
hold_row-requires-clause-entries c =
    let t = c.args.self.now in
    let design = design_of t.design.now in
    let rows = t.rows.items in
    let n = c.rows.number in
    subst (λ (r : RowState). AllHold (IsEntryIn design) (waiting_entries r.activity))
    (state-is rows n c.row-item.result (low rows c.deref-row-items.result.now n c.deref-row-items.ensures.value c.rows-test.true)
    (read rows c.deref-row-items.result.now n c.row-item.result c.deref-row-items.ensures.value c.row-item.is))
    (entries-in design t.time rows t.index t.ready t.lanes t.queue c.requires.kept n)

pub rows-preserved : goal.rows-preserved
rows-preserved c =
    let t = c.args.self.now in
    let design = design_of t.design.now in
    let rows = t.rows.items in
    let n = c.rows.number in
    record {
      accesses =
          held-more design n (table_of t).processes (map noted_access c.args.accesses.now.items) (map noted_access c.rows.accesses.items)
          (map noted_access c.hold_row.new.accesses.items) c.rows.invariant.accesses
          (c.in_ok-hold_row.ensures.accesses
          ∙ ap (λ (r : RowState). map noted_access c.rows.accesses.items ++ held_by design n (record { activity = r.activity; later = []; lane = [] }))
          (sym (state-is rows n c.row-item.result (low rows c.deref-row-items.result.now n c.deref-row-items.ensures.value c.rows-test.true)
          (read rows c.deref-row-items.result.now n c.row-item.result c.deref-row-items.ensures.value c.row-item.is)))
          ∙ ap (λ (process : ProcessState). map noted_access c.rows.accesses.items ++ held_by design n process)
          (sym (process-row design t.time rows t.index t.ready t.lanes t.queue c.requires.kept n)));
      held = λ old. c.in_ok-hold_row.ensures.held (c.rows.invariant.held old);
    }

pub returns-clause-accesses : goal.returns-clause-accesses
returns-clause-accesses c =
    let t = c.args.self.now in
    let design = design_of t.design.now in
    held-all design c.rows.number (table_of t).processes (map noted_access c.args.accesses.now.items) (map noted_access c.rows.accesses.items)
    (omega (arith, c.rows-test.false, ap length c.deref-row-items.ensures.value, count-processes design t.time t.rows.items t.index t.ready t.lanes t.queue c.requires.kept)) c.rows.invariant.accesses
