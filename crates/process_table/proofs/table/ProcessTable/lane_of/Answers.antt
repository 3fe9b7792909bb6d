-- The row has the process's lane.
use Rattle.std.proofs.Common.{rules, ◌∙◌, sym, ap}
use Rattle.vf_base.specs.Base.{process_number}
use Rattle.v_design.specs.PlainDesigns.{design_of}
use Rattle.v_design.specs.States.{ProcessState}
use Rattle.process_table.specs.Rows.{RowState}
use Rattle.process_table.proofs.Changed.{state-is}
use Rattle.process_table.proofs.CodesAt.{row-low}
use Rattle.process_table.proofs.TableCalls.{process-row}
use Rattle.process_table.proofs.table.ProcessTable.lane_of.Goals as goal

pub index-requires : goal.index-requires
index-requires c = let there = row-low c.args.self.now c.requires.kept (process_number c.args.process) c.requires.number in search rules

pub returns : goal.returns
returns c =
    let t = c.args.self.now in
    let p = process_number c.args.process in
    c.updates_left.ensures
    ∙ ap (λ (r : RowState). r.lane) (sym (state-is t.rows.items p c.index.result.now (row-low t c.requires.kept p c.requires.number) c.index.ensures))
    ∙ ap (λ (process : ProcessState). process.lane) (sym (process-row (design_of t.design.now) t.time t.rows.items t.index t.ready t.lanes t.queue c.requires.kept p))
