use Rattle.std.proofs.Common.{◌≡◌, ◌+◌, List, drop, option_map, refl, sym, ap, ap₂, subst, ◌∙◌, arith}
use Rattle.vf_base.specs.Base.{source_place}
use Rattle.v_design.specs.Trees as plain_tree
use Rattle.v_design.specs.PlainLemmas.{statements_of, items_of, statement_of-Block}
use Rattle.v_design.specs.declared.tree.FlatStmt.{FlatStmt}
use Rattle.v_tree.specs.Views as source
use Rattle.v_tree.specs.ViewLaws as source_laws
use Rattle.v_tree.specs.declared.expression.Expr.{Expr}
use Rattle.v_tree.specs.declared.statement.Stmt.{Stmt}
use Rattle.v_tree.specs.declared.statement.CaseItem.{CaseItem}
use Rattle.v_names.specs.Scopes.{Scope}
use Rattle.v_names.specs.Readings.{reading_of}
use Rattle.v_names.specs.SizeViews.{size_of}
use Rattle.v_elab.specs.Statements.{statement_over, statements_over, items_size, items_over, default_over, label_expressions}
use Rattle.object_statements.specs.CaseItems.{item_over, then_items}
use Rattle.object_statements.proofs.Rows.{then_statements, statements-push, statements-end, items-push, items-end, made-step, made-end}
use Rattle.object_statements.proofs.Items.{item-first, case-over}
use Rattle.object_statements.specs.Texts.{AreSizedLabels, IsSizedText, AreSizedTexts, AreSizedItemTexts, IsSizedItemText}
use Rattle.object_statements.proofs.Levels.{levels_of, levels_of_all, levels_of_items, levels_of_item, statement-levels, statement-at, item-levels, item-at, items-of}
use Rattle.object_statements.proofs.statements.+statement.Goals as goal

pub statement_over-returns-in_ok-statements-in-Block : goal.statement_over-returns-in_ok-statements-in-Block
statement_over-returns-in_ok-statements-in-Block t c plain are =
    statement_of-Block c.in-Block.place c.in_ok-statements-in-Block.statements
    ∙ ap plain_tree.Block (c.in_ok-statements-in-Block.ensures plain are ∙ ap (λ (ss : List Stmt). statements_over plain (source.statements_of ss)) c.deref.ensures.value)
    ∙ ap (statement_over plain) (sym (source_laws.statement_of-Block c.in-Block.place c.in-Block.statements))
    ∙ ap (λ (s : Stmt). statement_over plain (source.statement_of s)) (sym c.in-Block.is)

pub statement_over-returns-in_ok-flat-in-Case : goal.statement_over-returns-in_ok-flat-in-Case
statement_over-returns-in_ok-flat-in-Case t c plain are =
    c.in_ok-flat-in-Case.ensures plain are
    ∙ case-over plain (source_place c.in-Case.place) c.in-Case.kind _ _ _ (option_map size_of c.in_ok-size-in-Case.size) (source.expression_of c.in-Case.value)
    (source.case_items_of c.in-Case.items.items)
    (c.in_ok-size-in-Case.ensures ∙ ap₂ (λ (scope : Scope) (xs : List CaseItem). items_size scope (source.case_items_of xs) (reading_of scope (source.expression_of c.in-Case.value)).size)
    (sym are.scope_is) c.deref-in-Case.ensures.value)
    refl
    (c.in_ok-flats-in-Case.ensures plain are ∙ ap (λ (xs : List CaseItem). items_over plain (option_map size_of c.in_ok-size-in-Case.size) (source.case_items_of xs)) c.deref-in-Case-2.ensures.value)
    (c.in_ok-other-in-Case.ensures plain are ∙ ap (λ (xs : List CaseItem). default_over plain (source.case_items_of xs)) c.deref-in-Case-3.ensures.value)
    ∙ ap (statement_over plain) (sym (source_laws.statement_of-Case c.in-Case.place c.in-Case.kind c.in-Case.value c.in-Case.items))
    ∙ ap (λ (s : Stmt). statement_over plain (source.statement_of s)) (sym c.in-Case.is)

pub statements_over-statements-preserved : goal.statements_over-statements-preserved
statements_over-statements-preserved t c plain are =
    let left : plain_tree.Statements = statements_over plain (source.statements_of (drop (c.statements.statement-index + 1) c.args.statements.now)) in
    ap (λ (ss : List FlatStmt). then_statements (statements_of ss) left) c.in_ok-push.ensures.items
    ∙ statements-push c.statements.flats.items c.in_ok-flat.flat left
    ∙ ap (λ (s : plain_tree.Statement). then_statements (statements_of c.statements.flats.items) (plain_tree.more_statements s left)) (c.in_ok-flat.ensures plain are)
    ∙ made-step (λ (xs : List Stmt). then_statements (statements_of c.statements.flats.items) (statements_over plain (source.statements_of xs))) c.args.statements.now c.statements.statement-index
    c.statement-item.result _
    c.statements-test.true c.statement-item.is (c.statements.invariant plain are)

pub statements_over-returns : goal.statements_over-returns
statements_over-returns t c plain are =
    sym (statements-end (statements_of c.statements.flats.items))
    ∙ made-end (λ (xs : List Stmt). then_statements (statements_of c.statements.flats.items) (statements_over plain (source.statements_of xs))) c.args.statements.now c.statements.statement-index _
    c.statements-test.false (c.statements.invariant plain are)

pub push_item-returns-in_ok-push-in-Labelled : goal.push_item-returns-in_ok-push-in-Labelled
push_item-returns-in_ok-push-in-Labelled t c plain are rest =
    let old : plain_tree.CaseItems = items_of c.args.flats.now.items in
    ap (λ xs. then_items (items_of xs) rest) c.in_ok-push-in-Labelled.ensures.items
    ∙ items-push c.args.flats.now.items (record { labels = c.in_ok-labels-in-Labelled.labels; statement = c.in_ok-statement-in-Labelled.statement }) rest
    ∙ ap₂ (λ (ls : plain_tree.Expressions) (s : plain_tree.Statement). then_items old (plain_tree.more_items ls s rest))
    (c.in_ok-labels-in-Labelled.ensures plain are ∙ ap (λ (ls : List Expr). label_expressions plain (option_map size_of c.args.size) (source.expressions_of ls)) c.as_slice.ensures)
    (c.in_ok-statement-in-Labelled.ensures plain are)
    ∙ ap (λ (i : CaseItem). then_items old (item_over plain (option_map size_of c.args.size) i rest)) (sym c.in-Labelled.is)

pub items_over-items-preserved : goal.items_over-items-preserved
items_over-items-preserved t c plain are =
    c.in_ok-push_item.ensures plain are _
    ∙ ap (then_items (items_of c.items.flats.items)) (item-first plain (option_map size_of c.args.size) c.item-item.result (drop (c.items.item-index + 1) c.args.items.now))
    ∙ made-step (λ (xs : List CaseItem). then_items (items_of c.items.flats.items) (items_over plain (option_map size_of c.args.size) (source.case_items_of xs))) c.args.items.now c.items.item-index
    c.item-item.result _
    c.items-test.true c.item-item.is (c.items.invariant plain are)

pub items_over-returns : goal.items_over-returns
items_over-returns t c plain are =
    sym (items-end (items_of c.items.flats.items))
    ∙ made-end (λ (xs : List CaseItem). then_items (items_of c.items.flats.items) (items_over plain (option_map size_of c.args.size) (source.case_items_of xs))) c.args.items.now c.items.item-index _
    c.items-test.false (c.items.invariant plain are)

-- Sizes

pub statements_over-statement_over-requires : goal.statements_over-statement_over-requires
statements_over-statement_over-requires t c =
    let r = c.requires in
    let least = statement-levels c.args.statements.now c.statements.statement-index c.statement-item.result c.statements-test.true c.statement-item.is in
    (omega (arith, least, c.decreases), (r.0, r.1, statement-at r.0 c.args.statements.now c.statements.statement-index c.statement-item.result r.2 c.statements-test.true c.statement-item.is))

pub items_over-push_item-requires : goal.items_over-push_item-requires
items_over-push_item-requires t c =
    let r = c.requires in
    let least = item-levels c.args.items.now c.items.item-index c.item-item.result c.items-test.true c.item-item.is in
    (omega (arith, least, c.decreases), (r.0, r.1, item-at r.0 c.args.items.now c.items.item-index c.item-item.result r.2 c.items-test.true c.item-item.is))

pub default_over-boxed_over-requires : goal.default_over-boxed_over-requires
default_over-boxed_over-requires t c =
    let r = c.requires in
    let least = item-levels c.args.items.now c.items.item-index c.item-item.result c.items-test.true c.item-item.is in
    let own : levels_of_item c.item-item.result ≡ levels_of (source.statement_of c.in-Default.statement) = ap levels_of_item c.in-Default.is in
    let sized = item-at r.0 c.args.items.now c.items.item-index c.item-item.result r.2 c.items-test.true c.item-item.is in
    (omega (arith, least, own, c.decreases), (r.0, r.1, subst (IsSizedItemText r.0) c.in-Default.is sized))

pub statement_over-statements_over-requires : goal.statement_over-statements_over-requires
statement_over-statements_over-requires t c =
    let r = c.requires in
    let same = ap source.statement_of c.in-Block.is ∙ source_laws.statement_of-Block c.in-Block.place c.in-Block.statements in
    let sized : AreSizedTexts r.0 (source.statements_of c.in-Block.statements.items) = subst (IsSizedText r.0) same r.2 in
    let level : levels_of (source.statement_of c.args.statement.now) ≡ levels_of_all (source.statements_of c.in-Block.statements.items) + 1 = ap levels_of same in
    let there = ap (λ (ss : List Stmt). levels_of_all (source.statements_of ss)) c.deref.ensures.value in
    (omega (arith, level, there, c.decreases), (r.0, r.1, subst (λ (ss : List Stmt). AreSizedTexts r.0 (source.statements_of ss)) (sym c.deref.ensures.value) sized))

pub statement_over-items_over-requires : goal.statement_over-items_over-requires
statement_over-items_over-requires t c =
    let r = c.requires in
    let same = ap source.statement_of c.in-Case.is ∙ source_laws.statement_of-Case c.in-Case.place c.in-Case.kind c.in-Case.value c.in-Case.items in
    let sized : AreSizedItemTexts r.0 (source.case_items_of c.in-Case.items.items) = items-of r.0 _ _ _ _ _ same r.2 in
    let level : levels_of (source.statement_of c.args.statement.now) ≡ levels_of_items (source.case_items_of c.in-Case.items.items) + 1 = ap levels_of same in
    let there = ap (λ (is : List CaseItem). levels_of_items (source.case_items_of is)) c.deref-in-Case-2.ensures.value in
    (omega (arith, level, there, c.decreases), (r.0, r.1, subst (λ (is : List CaseItem). AreSizedItemTexts r.0 (source.case_items_of is)) (sym c.deref-in-Case-2.ensures.value) sized))

pub statement_over-default_over-requires : goal.statement_over-default_over-requires
statement_over-default_over-requires t c =
    let r = c.requires in
    let same = ap source.statement_of c.in-Case.is ∙ source_laws.statement_of-Case c.in-Case.place c.in-Case.kind c.in-Case.value c.in-Case.items in
    let sized : AreSizedItemTexts r.0 (source.case_items_of c.in-Case.items.items) = items-of r.0 _ _ _ _ _ same r.2 in
    let level : levels_of (source.statement_of c.args.statement.now) ≡ levels_of_items (source.case_items_of c.in-Case.items.items) + 1 = ap levels_of same in
    let there = ap (λ (is : List CaseItem). levels_of_items (source.case_items_of is)) c.deref-in-Case-3.ensures.value in
    (omega (arith, level, there, c.decreases), (r.0, r.1, subst (λ (is : List CaseItem). AreSizedItemTexts r.0 (source.case_items_of is)) (sym c.deref-in-Case-3.ensures.value) sized))

pub push_item-labels_over-requires : goal.push_item-labels_over-requires
push_item-labels_over-requires t c =
    let r = c.requires in
    let sized = subst (IsSizedItemText r.0) c.in-Labelled.is r.2 in
    (r.0, r.1, subst (λ (ls : List Expr). AreSizedLabels r.0 (source.expressions_of ls)) (sym c.as_slice.ensures) sized.0)
