use Rattle.std.proofs.Common.{sym, ap, ◌∙◌}
use Rattle.vf_base.specs.Base.{process_number}
use Rattle.v_design.specs.States.{first_update}
use Rattle.process_table.specs.Rows.{RowState, after_update}
use Rattle.process_table.proofs.Changed.{rows-change, state-is}
use Rattle.process_table.proofs.rows.take_update.Goals as goal

pub returns-clause-rows : goal.returns-clause-rows
returns-clause-rows c =
    rows-change c.args.rows.now.items (process_number c.args.process) c.index_mut.result.now c.take_update.new.self after_update c.requires c.index_mut.ensures.value c.take_update.ensures.row

pub returns-clause-update : goal.returns-clause-update
returns-clause-update c =
    c.take_update.ensures.update
    ∙ ap (λ (r : RowState). first_update r.lane) (sym (state-is c.args.rows.now.items (process_number c.args.process) c.index_mut.result.now c.requires c.index_mut.ensures.value))
