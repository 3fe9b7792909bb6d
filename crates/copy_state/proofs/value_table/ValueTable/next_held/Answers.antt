-- The first value that is there.
use Rattle.std.proofs.Common.{arith, ap, sym, ◌∙◌}
use Rattle.std.specs.Prelude.{is_some}
use Rattle.copy_laws.specs.Differences.{own_of}
use Rattle.copy_state.specs.Entries.{first_from}
use Rattle.copy_state.proofs.TableLaws.{own-table, read-at, table-found, table-none}
use Rattle.copy_state.proofs.value_table.ValueTable.next_held.Goals as goal

pub returns-in-Some-clause-next : goal.returns-in-Some-clause-next
returns-in-Some-clause-next c =
    sym (table-found c.args.from c.places.place c.self.inside.values.items c.index.result.now (omega arith) c.index.ensures (ap is_some c.in-Some.is) (omega arith) c.places.invariant)
    ∙ ap (first_from c.args.from) c.self.view_is

pub returns-in-Some-clause-value : goal.returns-in-Some-clause-value
returns-in-Some-clause-value c =
    ap (λ k. own_of k c.places.place) (sym c.self.view_is)
    ∙ (own-table 0 c.places.place c.places.place c.self.inside.values.items (omega arith)
    ∙ (read-at c.places.place c.self.inside.values.items c.index.result.now (omega arith) c.index.ensures ∙ c.in-Some.is))

pub returns-clause-next : goal.returns-clause-next
returns-clause-next c =
    sym (table-none c.args.from 0 c.self.inside.values.items (λ k high less. c.places.invariant k (omega arith) (omega arith))) ∙ ap (first_from c.args.from) c.self.view_is
