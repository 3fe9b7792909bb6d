use Rattle.std.proofs.Common.{arith, ap, sym, ◌∙◌, map}
use Rattle.copy_state.specs.Entries.{first_from}
use Rattle.std.specs.Prelude.{Some}
use Rattle.four_value.specs.declared.value.Vec4.{Vec4}
use Rattle.copy_state.specs.declared.entry.Entry.{Entry}
use Rattle.copy_state.specs.Listed.{entry_of}
use Rattle.copy_state.proofs.ListLaws.{first-at, first-none}
use Rattle.copy_state.proofs.few_values.FewValues.next.Goals as goal

pub returns-then-place-values : goal.returns-then-place-values
returns-then-place-values c =
    ap (λ (own : Entry Vec4). Some own.number) (sym c.index-values-place.is)
    ∙ sym (first-at c.as_slice-values.result.now c.count_before-place.result c.args.from c.index-values-place.result c.count_before-place.ensures.before c.count_before-place.ensures.after
    (omega arith) c.index-values-place.is)
    ∙ ap (λ l. first_from c.args.from (map entry_of l)) c.as_slice-values.ensures ∙ ap (first_from c.args.from) c.self.view_is

pub returns : goal.returns
returns c =
    sym (first-none c.as_slice-values.result.now c.count_before-place.result c.args.from c.count_before-place.ensures.before (omega arith))
    ∙ ap (λ l. first_from c.args.from (map entry_of l)) c.as_slice-values.ensures ∙ ap (first_from c.args.from) c.self.view_is
