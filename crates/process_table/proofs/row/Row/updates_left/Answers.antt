-- The updates behind those that are taken.
use Rattle.std.proofs.Common.{◌-◌, ◌∙◌, length, ap, arith}
use Rattle.process_table.specs.Rows.{lane_left}
use Rattle.process_table.proofs.RowSteps.{lane-from}
use Rattle.process_table.proofs.row.Row.updates_left.Goals as goal

pub returns : goal.returns
returns c =
    let row = c.args.self.now in
    let lane = c.as_slice-lane.result.now in
    let start = c.min-taken.result in
    lane-from row.taken start (length lane - start) lane (omega (arith, c.min-taken.ensures)) (omega (arith, c.min-taken.ensures))
    (λ less. omega (arith, c.min-taken.ensures, less)) (omega arith)
    ∙ ap (lane_left row.taken) c.as_slice-lane.ensures
