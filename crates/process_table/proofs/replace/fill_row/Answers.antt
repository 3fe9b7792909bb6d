use Rattle.std.proofs.Common.{map}
use Rattle.std.proofs.lemmas.Result.{IfOk-weaker}
use Rattle.vf_base.specs.Base.{process_number}
use Rattle.v_design.specs.Plain.{update_of}
use Rattle.process_table.specs.Rows.{with_lane}
use Rattle.process_table.proofs.Changed.{rows-change}
use Rattle.process_table.proofs.replace.fill_row.Goals as goal

pub returns : goal.returns
returns c =
    IfOk-weaker c.fill_lane.result _ _
    (λ x h. rows-change c.args.rows.now.items (process_number c.args.process) c.index_mut.result.now c.fill_lane.new.self
    (with_lane (map update_of c.args.updates.now)) c.requires c.index_mut.ensures.value h)
    c.fill_lane.ensures
