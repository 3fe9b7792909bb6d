use Rattle.std.proofs.Common.{◌≡◌, ◌∙◌, map, sym, subst}
use Rattle.std.proofs.lemmas.List.{get_or_default}
use Rattle.std.proofs.lemmas.Result.{IfOk-weaker}
use Rattle.vf_base.specs.Base.{process_number}
use Rattle.v_design.specs.Plain.{update_of}
use Rattle.process_code.specs.Points.{activity_of}
use Rattle.process_table.specs.declared.row.Row.{Row}
use Rattle.process_table.specs.Rows.{RowState, RowChanges}
use Rattle.process_table.specs.Replaces.{row_of}
use Rattle.process_table.proofs.Changed.{rows-change}
use Rattle.process_table.proofs.replace.replace_row.Goals as goal

pub replace-requires : goal.replace-requires
replace-requires c = c.requires.state c.index_mut.result.now c.index_mut.ensures.value

pub returns : goal.returns
returns c =
    let rows = c.args.rows.now.items in
    let p = process_number c.args.process in
    let old : Row = c.index_mut.result.now in
    let lane = map update_of c.args.lane.now in
    IfOk-weaker c.replace.result _ _
    (λ x h row is.
    let same : old ≡ row = c.index_mut.ensures.value ∙ get_or_default rows p old row c.requires.number ∙ sym is in
    rows-change rows p old c.replace.new.self (λ (before : RowState). row_of (activity_of row.code c.args.state.now) lane) c.requires.number c.index_mut.ensures.value
    (subst (λ (r : Row). RowChanges old c.replace.new.self (row_of (activity_of r.code c.args.state.now) lane)) same h))
    c.replace.ensures
