-- The row's state is a state of each code of its process.
use Rattle.std.proofs.Common.{rules, ◌∙◌, sym, ap}
use Rattle.vf_base.specs.Base.{process_number}
use Rattle.v_design.specs.PlainDesigns.{design_of}
use Rattle.v_design.specs.States.{ProcessState}
use Rattle.process_code.specs.OneCode.{AreCodesOfOne}
use Rattle.process_table.specs.declared.row.Row.{Row}
use Rattle.process_table.specs.Rows.{RowState, IsGoodRow}
use Rattle.process_table.proofs.Lists.{AllHold-at}
use Rattle.process_table.proofs.Changed.{state-is}
use Rattle.process_table.proofs.CodesAt.{row-low, one-process}
use Rattle.process_table.proofs.TableCalls.{process-row}
use Rattle.process_table.proofs.table.ProcessTable.state_of.Goals as goal

pub index-row-requires : goal.index-row-requires
index-row-requires c = let there = row-low c.args.self.now c.requires.kept (process_number c.args.process) c.requires.number in search rules

pub returns-clause-state : goal.returns-clause-state
returns-clause-state c = λ code at.
    let t = c.args.self.now in
    let p = process_number c.args.process in
    let there = row-low t c.requires.kept p c.requires.number in
    let row : Row = c.index-row.result.now in
    let one : AreCodesOfOne row.code code = one-process t c.requires.kept p row code there c.index-row.ensures at in
    (c.codes_are_one.ensures.read row.code code one).states row.state (AllHold-at IsGoodRow t.rows.items p row c.requires.kept.good there c.index-row.ensures).state

pub returns-clause-activity : goal.returns-clause-activity
returns-clause-activity c = λ code at.
    let t = c.args.self.now in
    let p = process_number c.args.process in
    let there = row-low t c.requires.kept p c.requires.number in
    let row : Row = c.index-row.result.now in
    let one : AreCodesOfOne row.code code = one-process t c.requires.kept p row code there c.index-row.ensures at in
    sym ((c.codes_are_one.ensures.read row.code code one).activity row.state)
    ∙ ap (λ (r : RowState). r.activity) (sym (state-is t.rows.items p row there c.index-row.ensures))
    ∙ ap (λ (process : ProcessState). process.activity) (sym (process-row (design_of t.design.now) t.time t.rows.items t.index t.ready t.lanes t.queue c.requires.kept p))
