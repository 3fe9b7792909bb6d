use Rattle.std.proofs.Common.{map}
use Rattle.vf_base.specs.Base.{process_number}
use Rattle.v_design.specs.Plain.{update_of}
use Rattle.process_table.specs.Rows.{with_lane}
use Rattle.process_table.proofs.Changed.{rows-change}
use Rattle.process_table.proofs.rows.put_lane.Goals as goal

pub returns : goal.returns
returns c =
    rows-change c.args.rows.now.items (process_number c.args.process) c.index_mut.result.now c.put_lane.new.self
    (with_lane (map update_of c.args.lane)) c.requires c.index_mut.ensures.value c.put_lane.ensures
