use Rattle.std.proofs.Common.{◌∙◌, length, ap, sym, arith}
use Rattle.vf_base.specs.Base.{process_number}
use Rattle.v_design.specs.States.{is_any}
use Rattle.process_table.specs.Rows.{RowState}
use Rattle.process_table.proofs.RowSteps.{lane-some, lane-end}
use Rattle.process_table.proofs.Changed.{state-is}
use Rattle.process_table.proofs.rows.has_lane.Goals as goal

pub returns-then-row-as_slice : goal.returns-then-row-as_slice
returns-then-row-as_slice c =
    let row = c.index-row.result.now in
    sym (ap (λ (r : RowState). is_any r.lane) (state-is c.args.rows.now.items (process_number c.args.process) row c.requires c.index-row.ensures)
    ∙ lane-some row.taken row.lane (omega (arith, c.if-row-as_slice.true, ap length c.as_slice.ensures)))

pub returns : goal.returns
returns c =
    let row = c.index-row.result.now in
    sym (ap (λ (r : RowState). is_any r.lane) (state-is c.args.rows.now.items (process_number c.args.process) row c.requires c.index-row.ensures)
    ∙ ap is_any (lane-end row.taken row.lane (omega (arith, c.if-row-as_slice.false, ap length c.as_slice.ensures))))
