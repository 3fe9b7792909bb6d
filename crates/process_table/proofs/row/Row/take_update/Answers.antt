use Rattle.std.proofs.Common.{◌∙◌, ◌<◌, List, length, get_or, ap, arith, refl}
use Rattle.v_design.specs.Assignments.{ValueUpdate}
use Rattle.v_design.specs.declared.plan.Update.{Update}
use Rattle.process_code.specs.Points.{activity_of}
use Rattle.process_table.proofs.RowSteps.{lane-first, lane-rest}
use Rattle.process_table.proofs.row.Row.take_update.Goals as goal

pub returns-clause-row : goal.returns-clause-row
returns-clause-row c =
    let row = c.args.self.now in
    let low : row.taken < length row.lane = omega (arith, c.if-self-lane.false, ap length c.as_slice-lane.ensures) in
    record {
      text = refl;
      good = λ good. record { code = good.code; state = good.state; room = good.room };
      state = ap (λ (lane : List ValueUpdate). record { activity = activity_of row.code row.state; lane = lane }) (lane-rest row.taken row.lane low);
    }

pub returns-clause-update : goal.returns-clause-update
returns-clause-update c =
    let row = c.args.self.now in
    let low : row.taken < length row.lane = omega (arith, c.if-self-lane.false, ap length c.as_slice-lane.ensures) in
    lane-first row.taken row.lane c.index-lane-self.result low (c.index-lane-self.is ∙ ap (λ (lane : List Update). get_or lane row.taken c.index-lane-self.result) c.as_slice-lane.ensures)
