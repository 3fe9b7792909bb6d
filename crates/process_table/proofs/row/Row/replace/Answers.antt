-- The state is copied, and then the lane filled.
use Rattle.std.proofs.Common.{◌∙◌, map, ap}
use Rattle.v_design.specs.Plain.{update_of}
use Rattle.v_design.specs.Processes.{Activity}
use Rattle.process_code.specs.Codes.{rests_in_code}
use Rattle.process_code.specs.Points.{activity_at}
use Rattle.process_table.specs.Replaces.{row_of}
use Rattle.process_table.proofs.row.Row.replace.Goals as goal

pub returns : goal.returns
returns c =
    let row = c.args.self.now in
    let fills = c.in_ok-fill_lane.ensures in
    record {
      text = fills.text;
      good = λ good. fills.good (record { code = good.code; state = c.in_ok-copy_from.ensures.state row.code good.state c.requires; room = c.in_ok-copy_from.ensures.room row.code good.room });
      state = fills.state ∙ ap (λ (a : Activity). row_of a (map update_of c.args.lane.now)) (ap (activity_at (rests_in_code row.code)) c.in_ok-copy_from.ensures.point);
    }
