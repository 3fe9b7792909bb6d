use Rattle.std.proofs.Common.{rules, List, length, Some, None, ◌≡◌, ◌<◌, ◌+◌, ◌*◌, ◌++◌, max, sym, subst, ◌∙◌, ap, map, drop, arith}
use Rattle.vf_base.specs.Base.{source_place}
use Rattle.v_design.specs.Plain.{expression_of, statement_of, target_of}
use Rattle.v_design.specs.PlainLemmas.{statements_of, items_of, statement_of-Block, statement_of-Case}
use Rattle.v_design.specs.Trees as plain
use Rattle.v_design.specs.declared.tree.CaseItem.{CaseItem}
use Rattle.process_operands.specs.Choices.{chosen_by}
use Rattle.process_operands.specs.ChoiceLaws.{chosen-at}
use Rattle.v_design.specs.Sized.{levels_of, levels_of_statement, levels_of_statements, levels_of_items}
use Rattle.v_design.specs.Reads.{named_in, named_in_targets, named_by}
use Rattle.v_design.specs.Assignments.{run_statement, run_statements}
use Rattle.expr_eval.specs.Operands.{AreThere}
use Rattle.expr_eval.specs.WidthLaws.{AllHold-left, AllHold-right}
use Rattle.node_eval.specs.Overlaid.{overlaid}
use Rattle.node_eval.specs.Running.{MayRun, may-after}
use Rattle.node_eval.specs.RunLaws.{may-first, may-second, may-at, may-default, may-item, levels-at, levels-item, statements-from}
use Rattle.node_eval.proofs.run.+run.Goals as goal

pub run-run_all-requires : goal.run-run_all-requires
run-run_all-requires g t c κs within =
    let values = overlaid c.args.frame.now.outputs.now c.args.held.now (g.V.Values.values c.args.frame.now.values.now) in
    let same = ap statement_of c.in-Block.is ∙ statement_of-Block c.in-Block.place c.in-Block.statements in
    let may : MayRun (overlaid c.args.frame.now.outputs.now c.args.held.now (g.V.Values.values c.args.frame.now.values.now)) c.args.frame.now.outputs.now
    (plain.Block (statements_of c.deref.result.now)) =
    subst (λ l. MayRun (overlaid c.args.frame.now.outputs.now c.args.held.now (g.V.Values.values c.args.frame.now.values.now)) c.args.frame.now.outputs.now (plain.Block (statements_of l)))
    (sym c.deref.ensures.value)
    (subst (MayRun values c.args.frame.now.outputs.now) same c.requires.may) in
    let whole_levels : levels_of_statement (statement_of c.args.statement.now) ≡ 1 + levels_of_statements (statements_of c.in-Block.statements.items) = ap levels_of_statement same in
    let part_levels' = ap (λ l. levels_of_statements (statements_of l)) c.deref.ensures.value in
    let level : 2 * levels_of_statements (statements_of c.deref.result.now) + 1 < 2 * levels_of_statement (statement_of c.args.statement.now) = omega arith in
    search rules

pub run-eval_over-requires-clause-there : goal.run-eval_over-requires-clause-there
run-eval_over-requires-clause-there g t c =
    AllHold-left _ (named_in (expression_of c.in-If.condition)) (named_by (statement_of c.in-If.first.value) ++ named_by (statement_of c.in-If.second.value))
    (subst (λ s. AreThere (overlaid c.args.frame.now.outputs.now c.args.held.now (g.V.Values.values c.args.frame.now.values.now)) (named_by (statement_of s))) c.in-If.is c.requires.may.there)

pub run-run-requires : goal.run-run-requires
run-run-requires g t c κs within =
    let values = overlaid c.args.frame.now.outputs.now c.args.held.now (g.V.Values.values c.args.frame.now.values.now) in
    let same = ap statement_of c.in-If.is in
    let may : MayRun (overlaid c.args.frame.now.outputs.now c.args.held.now (g.V.Values.values c.args.frame.now.values.now)) c.args.frame.now.outputs.now (statement_of c.deref-then-holds.result.now) =
    subst (λ s. MayRun (overlaid c.args.frame.now.outputs.now c.args.held.now (g.V.Values.values c.args.frame.now.values.now)) c.args.frame.now.outputs.now (statement_of s))
    (sym c.deref-then-holds.ensures)
    (may-first values c.args.frame.now.outputs.now (source_place c.in-If.place) (expression_of c.in-If.condition) (statement_of c.in-If.first.value) (statement_of c.in-If.second.value)
    (subst (MayRun values c.args.frame.now.outputs.now) same c.requires.may)) in
    let whole_levels : levels_of_statement (statement_of c.args.statement.now) ≡ 1 + max (levels_of (expression_of c.in-If.condition))
    (max (levels_of_statement (statement_of c.in-If.first.value)) (levels_of_statement (statement_of c.in-If.second.value))) = ap levels_of_statement same in
    let part_levels' = ap (λ s. levels_of_statement (statement_of s)) c.deref-then-holds.ensures in
    let level : 2 * levels_of_statement (statement_of c.deref-then-holds.result.now) < 2 * levels_of_statement (statement_of c.args.statement.now) = omega arith in
    search rules

pub run-run-requires-else-holds : goal.run-run-requires-else-holds
run-run-requires-else-holds g t c κs within =
    let values = overlaid c.args.frame.now.outputs.now c.args.held.now (g.V.Values.values c.args.frame.now.values.now) in
    let same = ap statement_of c.in-If.is in
    let may : MayRun (overlaid c.args.frame.now.outputs.now c.args.held.now (g.V.Values.values c.args.frame.now.values.now)) c.args.frame.now.outputs.now (statement_of c.deref-else-holds.result.now) =
    subst (λ s. MayRun (overlaid c.args.frame.now.outputs.now c.args.held.now (g.V.Values.values c.args.frame.now.values.now)) c.args.frame.now.outputs.now (statement_of s))
    (sym c.deref-else-holds.ensures)
    (may-second values c.args.frame.now.outputs.now (source_place c.in-If.place) (expression_of c.in-If.condition) (statement_of c.in-If.first.value) (statement_of c.in-If.second.value)
    (subst (MayRun values c.args.frame.now.outputs.now) same c.requires.may)) in
    let whole_levels : levels_of_statement (statement_of c.args.statement.now) ≡ 1 + max (levels_of (expression_of c.in-If.condition))
    (max (levels_of_statement (statement_of c.in-If.first.value)) (levels_of_statement (statement_of c.in-If.second.value))) = ap levels_of_statement same in
    let part_levels' = ap (λ s. levels_of_statement (statement_of s)) c.deref-else-holds.ensures in
    let level : 2 * levels_of_statement (statement_of c.deref-else-holds.result.now) < 2 * levels_of_statement (statement_of c.args.statement.now) = omega arith in
    search rules

pub run-choose-requires-clause-may : goal.run-choose-requires-clause-may
run-choose-requires-clause-may g t c =
    let same = ap statement_of c.in-Case.is ∙ statement_of-Case c.in-Case.place c.in-Case.kind c.in-Case.value c.in-Case.items c.in-Case.default in (
      source_place c.in-Case.place,
      statement_of c.in-Case.default.value,
      subst (λ l. MayRun (overlaid c.args.frame.now.outputs.now c.args.held.now (g.V.Values.values c.args.frame.now.values.now)) c.args.frame.now.outputs.now
          (plain.Case (source_place c.in-Case.place) c.in-Case.kind (expression_of c.in-Case.value) (items_of l) (statement_of c.in-Case.default.value)))
          (sym c.deref-in-Case.ensures.value) (subst (MayRun (overlaid c.args.frame.now.outputs.now c.args.held.now (g.V.Values.values c.args.frame.now.values.now)) c.args.frame.now.outputs.now)
          same c.requires.may),
    )

pub run-run-requires-in-Some : goal.run-run-requires-in-Some
run-run-requires-in-Some g t c κs within =
    let same = ap statement_of c.in-Case.is ∙ statement_of-Case c.in-Case.place c.in-Case.kind c.in-Case.value c.in-Case.items c.in-Case.default in
    let low : c.in-Some.number < length c.in-Case.items.items = subst (λ (l : List CaseItem). c.in-Some.number < length l) c.deref-in-Case.ensures.value c.in-Some.ensures.within in
    let may : MayRun (overlaid c.args.frame.now.outputs.now c.args.held.now (g.V.Values.values c.args.frame.now.values.now)) c.args.frame.now.outputs.now (statement_of c.index.result.now.statement) =
    subst (λ (item : CaseItem). MayRun (overlaid c.args.frame.now.outputs.now c.args.held.now (g.V.Values.values c.args.frame.now.values.now)) c.args.frame.now.outputs.now
    (statement_of item.statement)) (sym c.index.ensures)
    (may-item (overlaid c.args.frame.now.outputs.now c.args.held.now (g.V.Values.values c.args.frame.now.values.now)) c.args.frame.now.outputs.now (source_place c.in-Case.place) c.in-Case.kind
    (expression_of c.in-Case.value) c.in-Case.items.items (statement_of c.in-Case.default.value) c.in-Some.number c.index.result.now low
    (subst (MayRun (overlaid c.args.frame.now.outputs.now c.args.held.now (g.V.Values.values c.args.frame.now.values.now)) c.args.frame.now.outputs.now) same c.requires.may)) in
    let whole_levels : levels_of_statement (statement_of c.args.statement.now) ≡ 1 + max (levels_of (expression_of c.in-Case.value))
    (max (levels_of_items (items_of c.in-Case.items.items)) (levels_of_statement (statement_of c.in-Case.default.value))) = ap levels_of_statement same in
    let most = levels-item c.in-Case.items.items c.in-Some.number c.index.result.now low in
    let part_levels' = ap (λ (item : CaseItem). levels_of_statement (statement_of item.statement)) c.index.ensures in
    let level : 2 * levels_of_statement (statement_of c.index.result.now.statement) < 2 * levels_of_statement (statement_of c.args.statement.now) = omega (arith, whole_levels, most, part_levels') in
    search rules

pub run-run-requires-in-None : goal.run-run-requires-in-None
run-run-requires-in-None g t c κs within =
    let same = ap statement_of c.in-Case.is ∙ statement_of-Case c.in-Case.place c.in-Case.kind c.in-Case.value c.in-Case.items c.in-Case.default in
    let may : MayRun (overlaid c.args.frame.now.outputs.now c.args.held.now (g.V.Values.values c.args.frame.now.values.now)) c.args.frame.now.outputs.now (statement_of c.deref-in-None.result.now) =
    subst (λ s. MayRun (overlaid c.args.frame.now.outputs.now c.args.held.now (g.V.Values.values c.args.frame.now.values.now)) c.args.frame.now.outputs.now (statement_of s))
    (sym c.deref-in-None.ensures)
    (may-default (overlaid c.args.frame.now.outputs.now c.args.held.now (g.V.Values.values c.args.frame.now.values.now)) c.args.frame.now.outputs.now (source_place c.in-Case.place) c.in-Case.kind
    (expression_of c.in-Case.value) (items_of c.in-Case.items.items) (statement_of c.in-Case.default.value)
    (subst (MayRun (overlaid c.args.frame.now.outputs.now c.args.held.now (g.V.Values.values c.args.frame.now.values.now)) c.args.frame.now.outputs.now) same c.requires.may)) in
    let whole_levels : levels_of_statement (statement_of c.args.statement.now) ≡ 1 + max (levels_of (expression_of c.in-Case.value))
    (max (levels_of_items (items_of c.in-Case.items.items)) (levels_of_statement (statement_of c.in-Case.default.value))) = ap levels_of_statement same in
    let part_levels' = ap (λ s. levels_of_statement (statement_of s)) c.deref-in-None.ensures in
    let level : 2 * levels_of_statement (statement_of c.deref-in-None.result.now) < 2 * levels_of_statement (statement_of c.args.statement.now) = omega (arith, whole_levels, part_levels') in
    search rules

pub run-assign-requires-clause-there : goal.run-assign-requires-clause-there
run-assign-requires-clause-there g t c =
    subst (λ l. AreThere (overlaid c.args.frame.now.outputs.now c.args.held.now (g.V.Values.values c.args.frame.now.values.now)) (named_in_targets (map target_of l)))
    (sym c.deref-in-Blocking.ensures.value)
    (AllHold-left _ (named_in_targets (map target_of c.in-Blocking.targets.items)) (named_in (expression_of c.in-Blocking.value))
    (subst (λ s. AreThere (overlaid c.args.frame.now.outputs.now c.args.held.now (g.V.Values.values c.args.frame.now.values.now)) (named_by (statement_of s))) c.in-Blocking.is
    c.requires.may.there))

pub run-assign-requires-clause-value_there : goal.run-assign-requires-clause-value_there
run-assign-requires-clause-value_there g t c =
    AllHold-right _ (named_in_targets (map target_of c.in-Blocking.targets.items)) (named_in (expression_of c.in-Blocking.value))
    (subst (λ s. AreThere (overlaid c.args.frame.now.outputs.now c.args.held.now (g.V.Values.values c.args.frame.now.values.now)) (named_by (statement_of s))) c.in-Blocking.is
    c.requires.may.there)

pub run-returns-in-Block : goal.run-returns-in-Block
run-returns-in-Block g t c =
    let same = ap statement_of c.in-Block.is ∙ statement_of-Block c.in-Block.place c.in-Block.statements in
    c.run_all.ensures ∙ ap (λ l. run_statements (statements_of l) (overlaid c.args.frame.now.outputs.now c.args.held.now (g.V.Values.values c.args.frame.now.values.now))) c.deref.ensures.value
    ∙ sym (ap (λ s. run_statement s (overlaid c.args.frame.now.outputs.now c.args.held.now (g.V.Values.values c.args.frame.now.values.now))) same)

pub run-returns-in-Some : goal.run-returns-in-Some
run-returns-in-Some g t c =
    let same = ap statement_of c.in-Case.is ∙ statement_of-Case c.in-Case.place c.in-Case.kind c.in-Case.value c.in-Case.items c.in-Case.default in
    let low : c.in-Some.number < length c.in-Case.items.items = subst (λ (l : List CaseItem). c.in-Some.number < length l) c.deref-in-Case.ensures.value c.in-Some.ensures.within in
    let chosen =
    subst (λ l. run_statement (plain.Case (source_place c.in-Case.place) c.in-Case.kind (expression_of c.in-Case.value) (items_of l) (statement_of c.in-Case.default.value))
    (overlaid c.args.frame.now.outputs.now c.args.held.now (g.V.Values.values c.args.frame.now.values.now))
    ≡ run_statement (chosen_by (items_of l) (statement_of c.in-Case.default.value) (Some c.in-Some.number))
    (overlaid c.args.frame.now.outputs.now c.args.held.now (g.V.Values.values c.args.frame.now.values.now)))
    c.deref-in-Case.ensures.value (c.in-Some.ensures.chosen (source_place c.in-Case.place) (statement_of c.in-Case.default.value)) in
    c.run-in-Some.ensures
    ∙ ap (λ (item : CaseItem). run_statement (statement_of item.statement) (overlaid c.args.frame.now.outputs.now c.args.held.now (g.V.Values.values c.args.frame.now.values.now))) c.index.ensures
    ∙ sym (ap (λ s. run_statement s (overlaid c.args.frame.now.outputs.now c.args.held.now (g.V.Values.values c.args.frame.now.values.now)))
    (chosen-at c.in-Case.items.items c.in-Some.number c.index.result.now (statement_of c.in-Case.default.value) low))
    ∙ sym chosen
    ∙ sym (ap (λ s. run_statement s (overlaid c.args.frame.now.outputs.now c.args.held.now (g.V.Values.values c.args.frame.now.values.now))) same)

pub run-returns-in-None : goal.run-returns-in-None
run-returns-in-None g t c =
    let same = ap statement_of c.in-Case.is ∙ statement_of-Case c.in-Case.place c.in-Case.kind c.in-Case.value c.in-Case.items c.in-Case.default in
    let chosen =
    subst (λ l. run_statement (plain.Case (source_place c.in-Case.place) c.in-Case.kind (expression_of c.in-Case.value) (items_of l) (statement_of c.in-Case.default.value))
    (overlaid c.args.frame.now.outputs.now c.args.held.now (g.V.Values.values c.args.frame.now.values.now))
    ≡ run_statement (chosen_by (items_of l) (statement_of c.in-Case.default.value) None) (overlaid c.args.frame.now.outputs.now c.args.held.now (g.V.Values.values c.args.frame.now.values.now)))
    c.deref-in-Case.ensures.value (c.in-None.ensures.chosen (source_place c.in-Case.place) (statement_of c.in-Case.default.value)) in
    c.run-in-None.ensures
    ∙ ap (λ s. run_statement (statement_of s) (overlaid c.args.frame.now.outputs.now c.args.held.now (g.V.Values.values c.args.frame.now.values.now))) c.deref-in-None.ensures
    ∙ sym chosen
    ∙ sym (ap (λ s. run_statement s (overlaid c.args.frame.now.outputs.now c.args.held.now (g.V.Values.values c.args.frame.now.values.now))) same)

pub run_all-run-requires : goal.run_all-run-requires
run_all-run-requires g t c κs within =
    let may : MayRun (overlaid c.args.frame.now.outputs.now c.statements.held (g.V.Values.values c.args.frame.now.values.now)) c.args.frame.now.outputs.now (statement_of c.statement-item.result) =
    subst (λ s. MayRun (overlaid c.args.frame.now.outputs.now c.statements.held (g.V.Values.values c.args.frame.now.values.now)) c.args.frame.now.outputs.now (statement_of s))
    (sym c.statement-item.is)
    (may-at (overlaid c.args.frame.now.outputs.now c.statements.held (g.V.Values.values c.args.frame.now.values.now)) c.args.frame.now.outputs.now c.args.statements.now c.statements.statement-index
    c.statement-item.result c.statements-test.true c.statements.invariant.may) in
    let most = levels-at c.args.statements.now c.statements.statement-index c.statement-item.result c.statements-test.true in
    let part_levels' = ap (λ s. levels_of_statement (statement_of s)) c.statement-item.is in
    let level : 2 * levels_of_statement (statement_of c.statement-item.result) < 2 * levels_of_statements (statements_of c.args.statements.now) + 1 = omega (arith, most, part_levels') in
    search rules

pub run_all-statements-preserved : goal.run_all-statements-preserved
run_all-statements-preserved g t c = record {
  may =
      subst (λ values. MayRun values c.args.frame.now.outputs.now (plain.Block (statements_of c.args.statements.now))) (sym c.run.ensures)
      (may-after (overlaid c.args.frame.now.outputs.now c.statements.held (g.V.Values.values c.args.frame.now.values.now)) c.args.frame.now.outputs.now
      (plain.Block (statements_of c.args.statements.now)) (statement_of c.statement-item.result) c.statements.invariant.may);
  ran =
      ap (run_statements (statements_of (drop (c.statements.statement-index + 1) c.args.statements.now))) c.run.ensures
      ∙ ap (λ s. run_statements (statements_of (drop (c.statements.statement-index + 1) c.args.statements.now))
      (run_statement (statement_of s) (overlaid c.args.frame.now.outputs.now c.statements.held (g.V.Values.values c.args.frame.now.values.now)))) c.statement-item.is
      ∙ sym (statements-from c.args.statements.now c.statements.statement-index c.statement-item.result
      (overlaid c.args.frame.now.outputs.now c.statements.held (g.V.Values.values c.args.frame.now.values.now)) c.statements-test.true)
      ∙ c.statements.invariant.ran;
}
