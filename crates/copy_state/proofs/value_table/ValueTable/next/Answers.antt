use Rattle.std.proofs.Common.{arith, ap, sym, ◌∙◌}
use Rattle.copy_state.specs.Entries.{first_from}
use Rattle.copy_state.proofs.TableLaws.{table-found, table-none}
use Rattle.copy_state.proofs.value_table.ValueTable.next.Goals as goal

pub returns-then-is_some : goal.returns-then-is_some
returns-then-is_some c =
    sym (table-found c.args.from c.places.place c.self.inside.values.items c.index.result.now (omega arith) c.index.ensures (sym c.if-is_some.ensures) (omega arith) c.places.invariant)
    ∙ ap (first_from c.args.from) c.self.view_is

pub returns : goal.returns
returns c =
    sym (table-none c.args.from 0 c.self.inside.values.items (λ k high less. c.places.invariant k (omega arith) (omega arith))) ∙ ap (first_from c.args.from) c.self.view_is
