use Rattle.std.proofs.Common.{arith, ap, sym, ◌∙◌}
use Rattle.std.specs.Prelude.{None}
use Rattle.std.proofs.lemmas.List.{length-set}
use Rattle.copy_state.specs.Entries.{without_entry}
use Rattle.copy_state.proofs.TableLaws.{without-table, taken, none-taken, none-read, read-past}
use Rattle.copy_state.proofs.value_table.ValueTable.take_out.Goals.{else-place-len-via-then-place-len+else-is_some, else-place-len-via-else-place-len}
use Rattle.copy_state.proofs.value_table.ValueTable.take_out.Goals as goal

pub overflow_sub-self : goal.overflow_sub-self
overflow_sub-self c =
    let less = taken c.args.object c.self.inside.values.items c.index.result.now (omega arith) c.index.ensures (sym c.if-is_some.ensures) in
    let is = c.self.invariant.count_is in omega arith

pub invariant_of-self : goal.invariant_of-self
invariant_of-self c =
    let less = taken c.args.object c.self.inside.values.items c.index.result.now (omega arith) c.index.ensures (sym c.if-is_some.ensures) in
    let is = c.self.invariant.count_is in
    let few = c.self.invariant.few in
    let long = length-set c.self.inside.values.items c.args.object None in record { count_is = omega arith; few = omega arith }

pub returns-then-is_some : goal.returns-then-is_some
returns-then-is_some c = without-table 0 c.args.object c.args.object c.self.inside.values.items (omega arith) ∙ ap (without_entry c.args.object) c.self.view_is

pub returns-else-place-len : goal.returns-else-place-len
returns-else-place-len c =
    sym c.self.view_is
    ∙ none-taken c.args.object c.self.inside.values.items
    (elim c.else-place-len.branch [
      | else-place-len-via-then-place-len+else-is_some w ↦ none-read c.args.object c.self.inside.values.items w.index.result.now (omega arith) w.index.ensures (sym w.if-is_some.ensures)
      | else-place-len-via-else-place-len w ↦ read-past c.args.object c.self.inside.values.items (omega arith)
    ])
    ∙ ap (without_entry c.args.object) c.self.view_is
