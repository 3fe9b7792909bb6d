use Rattle.std.proofs.Common.{arith, ap, sym, ◌∙◌}
use Rattle.v_design.specs.States.{found_or}
use Rattle.copy_laws.specs.Differences.{own_of}
use Rattle.copy_state.proofs.TableLaws.{own-table, read-at, read-past}
use Rattle.copy_state.proofs.value_table.ValueTable.value_or.Goals as goal

pub returns-then-place-len : goal.returns-then-place-len
returns-then-place-len c =
    ap (found_or c.args.other) (sym (own-table 0 c.args.object c.args.object c.self.inside.values.items (omega arith) ∙ read-past c.args.object c.self.inside.values.items (omega arith)))
    ∙ ap (λ k. found_or c.args.other (own_of k c.args.object)) c.self.view_is

pub returns-in-None : goal.returns-in-None
returns-in-None c =
    ap (found_or c.args.other)
    (sym (own-table 0 c.args.object c.args.object c.self.inside.values.items (omega arith)
    ∙ read-at c.args.object c.self.inside.values.items c.index.result.now (omega arith) c.index.ensures ∙ c.in-None.is))
    ∙ ap (λ k. found_or c.args.other (own_of k c.args.object)) c.self.view_is

pub returns-in-Some : goal.returns-in-Some
returns-in-Some c =
    ap (found_or c.args.other)
    (sym (own-table 0 c.args.object c.args.object c.self.inside.values.items (omega arith)
    ∙ read-at c.args.object c.self.inside.values.items c.index.result.now (omega arith) c.index.ensures ∙ c.in-Some.is))
    ∙ ap (λ k. found_or c.args.other (own_of k c.args.object)) c.self.view_is
