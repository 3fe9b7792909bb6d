-- The state is copied, and the lane stays.
use Rattle.std.proofs.Common.{ap, refl}
use Rattle.v_design.specs.Processes.{Activity}
use Rattle.process_code.specs.Codes.{rests_in_code}
use Rattle.process_code.specs.Points.{activity_at}
use Rattle.process_table.specs.Rows.{lane_left}
use Rattle.process_table.proofs.row.Row.put_state.Goals as goal

pub returns : goal.returns
returns c =
    let row = c.args.self.now in
    record {
      text = refl;
      good = λ good. record {
        code = good.code;
        state = c.in_ok-copy_from.ensures.state row.code good.state c.requires;
        room = c.in_ok-copy_from.ensures.room row.code good.room;
      };
      state = ap (λ (a : Activity). record { activity = a; lane = lane_left row.taken row.lane }) (ap (activity_at (rests_in_code row.code)) c.in_ok-copy_from.ensures.point);
    }
