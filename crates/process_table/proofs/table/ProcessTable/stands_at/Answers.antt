-- In the row's code the process stands at the point of the state, and so in each code of the process.
use Rattle.std.proofs.Common.{rules, ◌≡◌, ◌∙◌, ◌<◌, ℕ, length, get_or, sym, ap, subst}
use Rattle.vf_base.specs.Base.{process_number}
use Rattle.v_design.specs.Plain.{statement_of}
use Rattle.v_design.specs.Places.{PlacesDiffer}
use Rattle.v_design.specs.PlainDesigns.{design_of}
use Rattle.v_design.specs.Designs.{FlatProcess}
use Rattle.v_design.specs.States.{ProcessState}
use Rattle.process_code.specs.OneCode.{AreCodesOfOne}
use Rattle.process_code.specs.Points.{activity_of}
use Rattle.process_table.specs.declared.row.Row.{Row}
use Rattle.process_table.specs.declared.table.ProcessTable.{ProcessTable}
use Rattle.process_table.specs.Rows.{RowState, IsGoodRow, text_at}
use Rattle.process_table.specs.Arranged.{IsKept, table_of}
use Rattle.process_table.specs.Tables.{process_in}
use Rattle.process_table.specs.Waited.{body_of}
use Rattle.process_table.proofs.Lists.{AllHold-at}
use Rattle.process_table.proofs.Changed.{state-is, text-is}
use Rattle.process_table.proofs.CodesAt.{row-low, one-process}
use Rattle.process_table.proofs.TableCalls.{process-row}
use Rattle.process_table.proofs.table.ProcessTable.stands_at.Goals as goal

-- the process does what its row's state does
row-activity : (t : ProcessTable) → IsKept t → (p : ℕ) (row : Row) → p < length t.rows.items → row ≡ get_or t.rows.items p row →
    (process_in (table_of t) p).activity ≡ activity_of row.code row.state
row-activity t kept p row there is =
    ap (λ (process : ProcessState). process.activity) (process-row (design_of t.design.now) t.time t.rows.items t.index t.ready t.lanes t.queue kept p)
    ∙ ap (λ (r : RowState). r.activity) (state-is t.rows.items p row there is)

-- and has its row's text
row-body : (t : ProcessTable) → IsKept t → (p : ℕ) (row : Row) → p < length t.rows.items → row ≡ get_or t.rows.items p row →
    body_of (table_of t).design p ≡ statement_of row.code.process.now.body
row-body t kept p row there is =
    ap (λ texts. (text_at texts p).body) (sym kept.texts) ∙ ap (λ (text : FlatProcess). text.body) (text-is t.rows.items p row there is)

pub index-row-requires : goal.index-row-requires
index-row-requires c = let there = row-low c.args.self.now c.requires.kept (process_number c.args.process) c.requires.number in search rules

pub returns-clause-activity : goal.returns-clause-activity
returns-clause-activity c = λ yes code at.
    let t = c.args.self.now in
    let p = process_number c.args.process in
    let there = row-low t c.requires.kept p c.requires.number in
    let row : Row = c.index-row.result.now in
    let one : AreCodesOfOne row.code code = one-process t c.requires.kept p row code there c.index-row.ensures at in
    row-activity t c.requires.kept p row there c.index-row.ensures ∙ c.same.ensures.activity yes row.code
    ∙ (c.codes_are_one.ensures.read row.code code one).activity c.args.state.now

pub returns-clause-equal : goal.returns-clause-equal
returns-clause-equal c = λ code at differ is_state.
    let t = c.args.self.now in
    let p = process_number c.args.process in
    let there = row-low t c.requires.kept p c.requires.number in
    let row : Row = c.index-row.result.now in
    let one : AreCodesOfOne row.code code = one-process t c.requires.kept p row code there c.index-row.ensures at in
    let good : IsGoodRow row = AllHold-at IsGoodRow t.rows.items p row c.requires.kept.good there c.index-row.ensures in
    let does = row-activity t c.requires.kept p row there c.index-row.ensures in
    let compares = c.codes_are_one.ensures.compare row.code code row.state c.args.state.now one
    (subst PlacesDiffer (row-body t c.requires.kept p row there c.index-row.ensures) differ) good.state is_state in (
      (λ yes. does ∙ compares.1 (c.same.ensures.point.0 yes)),
      (λ same. c.same.ensures.point.1 (compares.0 (sym does ∙ same))),
    )
