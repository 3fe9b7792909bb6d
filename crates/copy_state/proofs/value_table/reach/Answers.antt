use Rattle.std.proofs.Common.{arith, ap, ◌∙◌, ◌+◌, ◌-◌, ◌++◌, replicate, vec_len}
use Rattle.std.specs.Prelude.{None}
use Rattle.std.proofs.lemmas.List.{take_all}
use Rattle.copy_state.specs.Tables.{entries_from}
use Rattle.copy_state.proofs.TableLaws.{entries-room}
use Rattle.copy_state.proofs.value_table.reach.Goals as goal

pub returns-in_ok-resize-clause-same : goal.returns-in_ok-resize-clause-same
returns-in_ok-resize-clause-same c =
    let whole = take_all (c.args.object + 1) c.args.values.now.items (omega arith) in
    ap (entries_from 0) (c.in_ok-resize.ensures.items ∙ ap (λ l. l ++ replicate (c.args.object + 1 - vec_len c.args.values.now) None) whole)
    ∙ entries-room 0 (c.args.object + 1 - vec_len c.args.values.now) c.args.values.now.items
