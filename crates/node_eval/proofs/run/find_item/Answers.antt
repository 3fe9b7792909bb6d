use Rattle.std.proofs.Common.{◌≡◌, ◌+◌, true, sym, subst, ◌∙◌, ap, length, drop, get_or, arith}
use Rattle.v_design.specs.declared.tree.CaseItem.{CaseItem}
use Rattle.v_design.specs.Plain.{expressions_of, statement_of}
use Rattle.v_design.specs.PlainLemmas.{items_of}
use Rattle.v_design.specs.Sized.{AreLabels, levels_of_parts}
use Rattle.v_design.specs.Reads.{named_in_parts}
use Rattle.v_design.specs.Assignments.{value_at, either_values, some_label_matches, label_values, run_statement, run_items}
use Rattle.expr_eval.specs.Operands.{AreThere}
use Rattle.process_operands.specs.ChoiceLaws.{chosen-at}
use Rattle.node_eval.specs.RunLaws.{labels-sized, labels-there, labels-levels, items-from}
use Rattle.node_eval.proofs.run.find_item.Goals as goal

pub matches_label-requires-clause-sized : goal.matches_label-requires-clause-sized
matches_label-requires-clause-sized g c =
    let signed = c.requires.sized.0 in
    let own = ap (λ (item : CaseItem). item.labels.items) c.index-items-number.is in (
      signed,
      subst (λ l. AreLabels (length c.args.value) c.requires.sized.0 (expressions_of l)) (sym (c.deref.ensures.value ∙ own))
          (labels-sized (length c.args.value) signed c.args.items.now c.items.number c.index-items-number.result c.items-test.true c.requires.sized.1),
    )

pub matches_label-requires-clause-there : goal.matches_label-requires-clause-there
matches_label-requires-clause-there g c =
    let own = ap (λ (item : CaseItem). item.labels.items) c.index-items-number.is in
    subst (λ l. AreThere (g.V.Values.values c.args.values.now) (named_in_parts (expressions_of l))) (sym (c.deref.ensures.value ∙ own))
    (labels-there (g.V.Values.values c.args.values.now) c.args.items.now c.items.number c.index-items-number.result c.items-test.true c.requires.there)

pub matches_label-requires-clause-levels : goal.matches_label-requires-clause-levels
matches_label-requires-clause-levels g c =
    let own = ap (λ (item : CaseItem). item.labels.items) c.index-items-number.is in
    let same = ap (λ l. levels_of_parts (expressions_of l)) (c.deref.ensures.value ∙ own) in
    omega (arith, same, labels-levels c.args.items.now c.items.number c.index-items-number.result c.items-test.true, c.requires.levels, c.items.invariant.levels)

pub returns-then-matches_label-clause-chosen : goal.returns-then-matches_label-clause-chosen
returns-then-matches_label-clause-chosen g c default =
    let values = g.V.Values.values c.args.values.now in
    let items = c.args.items.now in
    let i = c.items.number in
    let d = c.index-items-number.result in
    let own = ap (λ (item : CaseItem). item.labels.items) c.index-items-number.is in
    let matches : some_label_matches c.args.kind c.args.value (label_values (value_at (g.V.Values.values c.args.values.now))
    (expressions_of (get_or c.args.items.now c.items.number c.index-items-number.result).labels.items)) ≡ true =
    ap (λ l. some_label_matches c.args.kind c.args.value (label_values (value_at (g.V.Values.values c.args.values.now)) (expressions_of l))) (sym (c.deref.ensures.value ∙ own))
    ∙ sym c.matches_label.ensures.matches ∙ c.if-matches_label.true in
    c.items.invariant.chosen (run_statement default values)
    ∙ items-from c.args.kind c.args.value items i d values (run_statement default values) c.items-test.true
    ∙ ap (λ b. either_values b (run_statement (statement_of (get_or c.args.items.now c.items.number c.index-items-number.result).statement) (g.V.Values.values c.args.values.now))
    (run_items c.args.kind c.args.value (items_of (drop (c.items.number + 1) c.args.items.now)) (g.V.Values.values c.args.values.now) (run_statement default (g.V.Values.values c.args.values.now))))
    matches
    ∙ ap (λ s. run_statement s (g.V.Values.values c.args.values.now)) (sym (chosen-at items i d default c.items-test.true))
