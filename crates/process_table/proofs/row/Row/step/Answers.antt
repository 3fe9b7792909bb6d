use Rattle.std.proofs.Common.{ap, refl}
use Rattle.v_design.specs.Processes.{Activity}
use Rattle.process_code.specs.Codes.{rests_in_code}
use Rattle.process_code.specs.Points.{point_of}
use Rattle.process_table.specs.Rows.{lane_left}
use Rattle.process_table.proofs.RowSteps.{ready-stage, row-line, row-said, row-activity}
use Rattle.process_table.proofs.row.Row.step.Goals as goal

pub returns-clause-step : goal.returns-clause-step
returns-clause-step g c =
    let row = c.args.self.now in
    let ready = ready-stage (rests_in_code row.code) (point_of row.state) row.state.stage c.requires.ready in
    record {
      line = row-line row.code row.state c.step-did.new.state c.args.now (g.V.Values.values c.args.values.now) c.line-line.result c.step-did.result ready c.line-line.ensures c.step-did.ensures.step;
      said = row-said row.code row.state c.step-did.new.state c.args.now (g.V.Values.values c.args.values.now) c.line-line.result c.step-did.result ready c.line-line.ensures c.step-did.ensures.step;
      row = record {
        text = refl;
        good = λ good. record { code = good.code; state = c.step-did.ensures.state; room = c.step-did.ensures.room };
        state =
            ap (λ (activity : Activity). record { activity = activity; lane = lane_left row.taken row.lane })
            (row-activity row.code row.state c.step-did.new.state c.args.now (g.V.Values.values c.args.values.now) c.line-line.result c.step-did.result ready c.line-line.ensures
            c.step-did.ensures.step);
      };
    }
