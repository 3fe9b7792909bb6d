use Rattle.std.proofs.Common.{ap, sym, ◌∙◌, subst, map}
use Rattle.std.proofs.lemmas.List.{take_all}
use Rattle.copy_state.specs.Entries.{with_entry, Rise}
use Rattle.copy_state.specs.Listed.{entry_of, numbers_of}
use Rattle.copy_state.proofs.ListLaws.{one_more}
use Rattle.copy_state.proofs.few_values.FewValues.table.Goals as goal

pub values-preserved : goal.values-preserved
values-preserved c =
    c.in_ok-put.ensures.ok ∙ ap (with_entry c.own-item.result.number c.own-item.result.kept) c.values.invariant
    ∙ one_more c.as_slice-own-items.result.now c.values.own-index c.own-item.result (subst (λ l. Rise (numbers_of l)) (sym c.as_slice-own-items.ensures) c.self.invariant) c.values-test.true
    c.own-item.is

pub returns : goal.returns
returns c =
    c.values.invariant ∙ ap (map entry_of) (take_all c.values.own-index c.as_slice-own-items.result.now c.values-test.false ∙ c.as_slice-own-items.ensures) ∙ c.self.view_is
