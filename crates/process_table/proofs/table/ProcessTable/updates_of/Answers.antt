use Rattle.std.proofs.Common.{◌∙◌, sym, ap, arith}
use Rattle.vf_base.specs.Base.{process_number}
use Rattle.v_design.specs.PlainDesigns.{design_of}
use Rattle.v_design.specs.States.{ProcessState}
use Rattle.process_table.proofs.CodesAt.{row-low}
use Rattle.process_table.proofs.TableCalls.{process-row, count-queue}
use Rattle.process_table.proofs.table.ProcessTable.updates_of.Goals as goal

pub updates-requires : goal.updates-requires
updates-requires c =
    let t = c.args.self.now in
    let p = process_number c.args.process in
    omega (arith, row-low t c.requires.kept p c.requires.number, count-queue (design_of t.design.now) t.time t.rows.items t.index t.ready t.lanes t.queue c.requires.kept)

pub returns : goal.returns
returns c =
    let t = c.args.self.now in
    c.updates.ensures
    ∙ ap (λ (process : ProcessState). process.later) (sym (process-row (design_of t.design.now) t.time t.rows.items t.index t.ready t.lanes t.queue c.requires.kept (process_number c.args.process)))
