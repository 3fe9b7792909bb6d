use Rattle.std.proofs.Common.{◌≡◌, ◌∙◌, sym, subst}
use Rattle.std.proofs.lemmas.List.{get_or_default}
use Rattle.std.proofs.lemmas.Result.{IfOk-weaker}
use Rattle.vf_base.specs.Base.{process_number}
use Rattle.process_code.specs.Points.{activity_of}
use Rattle.process_table.specs.declared.row.Row.{Row}
use Rattle.process_table.specs.Rows.{RowChanges, row_state}
use Rattle.process_table.specs.Puts.{doing}
use Rattle.process_table.proofs.Changed.{rows-change}
use Rattle.process_table.proofs.rows.put_state.Goals as goal

pub put_state-requires : goal.put_state-requires
put_state-requires c = c.requires.state c.index_mut.result.now c.index_mut.ensures.value

pub returns : goal.returns
returns c =
    let rows = c.args.rows.now.items in
    let p = process_number c.args.process in
    let old : Row = c.index_mut.result.now in
    IfOk-weaker c.put_state.result _ _
    (λ x h row is.
    let same : old ≡ row = c.index_mut.ensures.value ∙ get_or_default rows p old row c.requires.number ∙ sym is in
    rows-change rows p old c.put_state.new.self (doing (activity_of row.code c.args.state.now)) c.requires.number c.index_mut.ensures.value
    (subst (λ (r : Row). RowChanges old c.put_state.new.self (doing (activity_of r.code c.args.state.now) (row_state old))) same h))
    c.put_state.ensures
