-- The entry at the place.
use Rattle.std.proofs.Common.{arith, ap, sym, subst, ◌∙◌, map}
use Rattle.copy_laws.specs.Differences.{own_of}
use Rattle.copy_state.specs.Entries.{Rise, first_from}
use Rattle.std.specs.Prelude.{Some}
use Rattle.four_value.specs.declared.value.Vec4.{Vec4}
use Rattle.copy_state.specs.declared.entry.Entry.{Entry}
use Rattle.copy_state.specs.Listed.{entry_of, numbers_of}
use Rattle.copy_state.proofs.ListLaws.{count-numbers, first-at, first-none, kept-at, number_at, rise-at}
use Rattle.copy_state.proofs.few_values.FewValues.next_held.Goals as goal

pub returns-then-place-values-clause-next : goal.returns-then-place-values-clause-next
returns-then-place-values-clause-next c =
    sym (first-at c.as_slice-values.result.now c.count_near-place.result c.args.from c.index-values-place.result c.count_near-place.ensures.before c.count_near-place.ensures.after
    (omega arith) c.index-values-place.is)
    ∙ ap (λ l. first_from c.args.from (map entry_of l)) c.as_slice-values.ensures ∙ ap (first_from c.args.from) c.self.view_is

pub returns-then-place-values-clause-value : goal.returns-then-place-values-clause-value
returns-then-place-values-clause-value c =
    let items = c.as_slice-values.result.now in
    let place = c.count_near-place.result in
    let entry = c.index-values-place.result in
    let low = c.if-place-values.true in
    let at = number_at items place entry low ∙ ap (λ (own : Entry Vec4). own.number) (sym c.index-values-place.is) in
    let stands = rise-at (numbers_of items) place entry.number (subst (λ l. Rise (numbers_of l)) (sym c.as_slice-values.ensures) c.self.invariant)
    (let long = count-numbers items in omega (arith, long, low)) at in
    ap (λ k. own_of k entry.number) (sym c.self.view_is) ∙ ap (λ l. own_of (map entry_of l) entry.number) (sym c.as_slice-values.ensures)
    ∙ kept-at items place entry.number entry stands ∙ ap (λ (own : Entry Vec4). Some own.kept) (sym c.index-values-place.is)

pub returns-clause-next : goal.returns-clause-next
returns-clause-next c =
    sym (first-none c.as_slice-values.result.now c.count_near-place.result c.args.from c.count_near-place.ensures.before (omega arith))
    ∙ ap (λ l. first_from c.args.from (map entry_of l)) c.as_slice-values.ensures ∙ ap (first_from c.args.from) c.self.view_is
