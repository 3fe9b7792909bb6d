use Rattle.std.proofs.Common.{◌∙◌}
use Rattle.vf_base.specs.Base.{process_number}
use Rattle.v_design.specs.PlainDesigns.{design_of}
use Rattle.process_table.proofs.TableCalls.{lane-member}
use Rattle.process_table.proofs.table.ProcessTable.has_lane.Goals as goal

pub returns : goal.returns
returns c =
    let t = c.args.self.now in
    c.contains.ensures ∙ lane-member (design_of t.design.now) t.time t.rows.items t.index t.ready t.lanes t.queue c.requires.kept (process_number c.args.process)
