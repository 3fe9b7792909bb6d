use Rattle.std.proofs.Common.{◌≡◌, ◌+◌, ◌++◌, ℕ, List, map, refl, sym, ap, subst, ◌∙◌, arith}
use Rattle.vf_base.specs.Base.{object_number}
use Rattle.v_tree.specs.Trees.{SourceStatement}
use Rattle.v_tree.specs.Views.{expressions_of, statement_of, statements_of, case_items_of}
use Rattle.v_tree.specs.ViewLaws.{statement_of-Block, statement_of-Case}
use Rattle.v_tree.specs.declared.expression.Expr.{Expr}
use Rattle.v_tree.specs.declared.statement.Stmt.{Stmt}
use Rattle.v_tree.specs.declared.statement.Stmt.TheVariants as statements
use Rattle.v_tree.specs.declared.statement.CaseItem.{CaseItem}
use Rattle.v_elab.specs.Statements.{labels_in_text, read_in_text, all_read_in_text, items_read_in_text}
use Rattle.name_checks.specs.Rows.{list-more}
use Rattle.object_statements.specs.CaseItems.{item_read_in_text}
use Rattle.object_statements.proofs.Rows.{then-more, then-same, then-three, then-four}
use Rattle.object_statements.proofs.Items.{item-read}
use Rattle.object_statements.specs.Texts.{IsSizedText, AreSizedTexts, AreSizedLabels, AreSizedItemTexts, IsSizedItemText}
use Rattle.object_statements.proofs.Levels.{levels_of, levels_of_all, levels_of_items, statement-levels, statement-at, item-levels, item-at, items-of}
use Rattle.object_statements.proofs.reads.+reads.Goals as goal

pub add_statements-statements-preserved : goal.add_statements-statements-preserved
add_statements-statements-preserved t c plain are =
    list-more (λ (s : Stmt). read_in_text plain (statement_of s)) (λ (ss : List Stmt). all_read_in_text plain (statements_of ss)) c.args.statements.now c.statements.statement-index
    c.statement-item.result
    (map object_number c.statements.objects.items) (map object_number c.add_statement.new.objects.items) _ (λ y ys. refl) c.statements-test.true c.statement-item.is
    (c.in_ok-add_statement.ensures plain are) (c.statements.invariant plain are)

pub add_items-items-preserved : goal.add_items-items-preserved
add_items-items-preserved t c plain are =
    list-more (item_read_in_text plain) (λ (items : List CaseItem). items_read_in_text plain (case_items_of items)) c.args.items.now c.items.item-index c.item-item.result
    (map object_number c.items.objects.items) (map object_number c.add_item.new.objects.items) _ (item-read plain) c.items-test.true c.item-item.is (c.in_ok-add_item.ensures plain are)
    (c.items.invariant plain are)

pub add_item-returns-in_ok-add_statement-in-Labelled : goal.add_item-returns-in_ok-add_statement-in-Labelled
add_item-returns-in_ok-add_statement-in-Labelled t c plain are =
    let old : List ℕ = map object_number c.args.objects.now.items in
    then-more _ _ _ _ _ (c.in_ok-add_labels-in-Labelled.ensures plain are ∙ ap (λ (ls : List Expr). old ++ labels_in_text plain (expressions_of ls)) c.as_slice.ensures)
    (c.in_ok-add_statement-in-Labelled.ensures plain are)
    ∙ ap (λ (i : CaseItem). old ++ item_read_in_text plain i) (sym c.in-Labelled.is)

pub add_item-returns-in_ok-add_statement-in-Default : goal.add_item-returns-in_ok-add_statement-in-Default
add_item-returns-in_ok-add_statement-in-Default t c plain are =
    c.in_ok-add_statement-in-Default.ensures plain are ∙ ap (λ (i : CaseItem). map object_number c.args.objects.now.items ++ item_read_in_text plain i) (sym c.in-Default.is)

pub add_statement-returns-in_ok-add_statements-in-Block : goal.add_statement-returns-in_ok-add_statements-in-Block
add_statement-returns-in_ok-add_statements-in-Block t c plain are =
    let old : List ℕ = map object_number c.args.objects.now.items in
    c.in_ok-add_statements-in-Block.ensures plain are ∙ ap (λ (ss : List Stmt). old ++ all_read_in_text plain (statements_of ss)) c.deref.ensures.value
    ∙ ap (λ (s : SourceStatement). old ++ read_in_text plain s) (sym (statement_of-Block c.in-Block.place c.in-Block.statements))
    ∙ ap (λ (s : Stmt). old ++ read_in_text plain (statement_of s)) (sym c.in-Block.is)

pub add_statement-returns-in-None : goal.add_statement-returns-in-None
add_statement-returns-in-None t c plain are =
    then-same _ _ _ _ _ _ (c.in_ok-add_expr-in-If.ensures plain are) (c.in_ok-add_statement-in-If.ensures plain are) (ap (λ (s : Stmt). read_in_text plain (statement_of s)) c.deref-in-If.ensures)
    ∙ ap (λ (s : Stmt). map object_number c.args.objects.now.items ++ read_in_text plain (statement_of s))
    (sym (c.in-If.is ∙ ap (λ x. statements.If c.in-If.place c.in-If.condition c.in-If.first x) c.in-None.is))

pub add_statement-returns-in_ok-add_statement-in-Some : goal.add_statement-returns-in_ok-add_statement-in-Some
add_statement-returns-in_ok-add_statement-in-Some t c plain are =
    then-three _ _ _ _ _ _ _ _ _ (c.in_ok-add_expr-in-If.ensures plain are) (c.in_ok-add_statement-in-If.ensures plain are) (c.in_ok-add_statement-in-Some.ensures plain are)
    (ap (λ (s : Stmt). read_in_text plain (statement_of s)) c.deref-in-If.ensures) (ap (λ (s : Stmt). read_in_text plain (statement_of s)) c.deref-in-Some.ensures)
    ∙ ap (λ (s : Stmt). map object_number c.args.objects.now.items ++ read_in_text plain (statement_of s))
    (sym (c.in-If.is ∙ ap (λ x. statements.If c.in-If.place c.in-If.condition c.in-If.first x) c.in-Some.is))

pub add_statement-returns-in_ok-add_items-in-Case : goal.add_statement-returns-in_ok-add_items-in-Case
add_statement-returns-in_ok-add_items-in-Case t c plain are =
    let old : List ℕ = map object_number c.args.objects.now.items in
    then-same _ _ _ _ _ _ (c.in_ok-add_expr-in-Case.ensures plain are) (c.in_ok-add_items-in-Case.ensures plain are)
    (ap (λ (items : List CaseItem). items_read_in_text plain (case_items_of items)) c.deref-in-Case.ensures.value)
    ∙ ap (λ (s : SourceStatement). old ++ read_in_text plain s) (sym (statement_of-Case c.in-Case.place c.in-Case.kind c.in-Case.value c.in-Case.items))
    ∙ ap (λ (s : Stmt). old ++ read_in_text plain (statement_of s)) (sym c.in-Case.is)

pub add_statement-returns-in_ok-add_statement-in-For : goal.add_statement-returns-in_ok-add_statement-in-For
add_statement-returns-in_ok-add_statement-in-For t c plain are =
    then-four _ _ _ _ _ _ _ _ _ _ (c.in_ok-add_assignment-in-For.ensures plain are) (c.in_ok-add_expr-in-For.ensures plain are) (c.in_ok-add_assignment-in-For-2.ensures plain are)
    (c.in_ok-add_statement-in-For.ensures plain are)
    (ap (λ (s : Stmt). read_in_text plain (statement_of s)) c.deref-in-For.ensures)
    ∙ ap (λ (s : Stmt). map object_number c.args.objects.now.items ++ read_in_text plain (statement_of s)) (sym c.in-For.is)

pub add_statement-returns-in_ok-add_statement-in-While : goal.add_statement-returns-in_ok-add_statement-in-While
add_statement-returns-in_ok-add_statement-in-While t c plain are =
    then-same _ _ _ _ _ _ (c.in_ok-add_expr-in-While.ensures plain are) (c.in_ok-add_statement-in-While.ensures plain are)
    (ap (λ (s : Stmt). read_in_text plain (statement_of s)) c.deref-in-While.ensures)
    ∙ ap (λ (s : Stmt). map object_number c.args.objects.now.items ++ read_in_text plain (statement_of s)) (sym c.in-While.is)

pub add_statement-returns-in_ok-add_statement-in-Repeat : goal.add_statement-returns-in_ok-add_statement-in-Repeat
add_statement-returns-in_ok-add_statement-in-Repeat t c plain are =
    then-same _ _ _ _ _ _ (c.in_ok-add_expr-in-Repeat.ensures plain are) (c.in_ok-add_statement-in-Repeat.ensures plain are)
    (ap (λ (s : Stmt). read_in_text plain (statement_of s)) c.deref-in-Repeat.ensures)
    ∙ ap (λ (s : Stmt). map object_number c.args.objects.now.items ++ read_in_text plain (statement_of s)) (sym c.in-Repeat.is)

pub add_statement-returns-in_ok-add_statement-in-Forever : goal.add_statement-returns-in_ok-add_statement-in-Forever
add_statement-returns-in_ok-add_statement-in-Forever t c plain are =
    let read : Stmt → List ℕ = λ s. map object_number c.args.objects.now.items ++ read_in_text plain (statement_of s) in
    c.in_ok-add_statement-in-Forever.ensures plain are ∙ ap read c.deref-in-Forever.ensures ∙ ap read (sym c.in-Forever.is)

pub add_statement-returns-in_ok-add_statement-in-Wait : goal.add_statement-returns-in_ok-add_statement-in-Wait
add_statement-returns-in_ok-add_statement-in-Wait t c plain are =
    let read : Stmt → List ℕ = λ s. map object_number c.args.objects.now.items ++ read_in_text plain (statement_of s) in
    c.in_ok-add_statement-in-Wait.ensures plain are ∙ ap read c.deref-in-Wait.ensures ∙ ap read (sym c.in-Wait.is)

pub add_statement-returns-in_ok-add_statement-in-Event : goal.add_statement-returns-in_ok-add_statement-in-Event
add_statement-returns-in_ok-add_statement-in-Event t c plain are =
    let read : Stmt → List ℕ = λ s. map object_number c.args.objects.now.items ++ read_in_text plain (statement_of s) in
    c.in_ok-add_statement-in-Event.ensures plain are ∙ ap read c.deref-in-Event.ensures ∙ ap read (sym c.in-Event.is)

pub add_statement-returns-in_ok-add_statement-in-Delay : goal.add_statement-returns-in_ok-add_statement-in-Delay
add_statement-returns-in_ok-add_statement-in-Delay t c plain are =
    let read : Stmt → List ℕ = λ s. map object_number c.args.objects.now.items ++ read_in_text plain (statement_of s) in
    c.in_ok-add_statement-in-Delay.ensures plain are ∙ ap read c.deref-in-Delay.ensures ∙ ap read (sym c.in-Delay.is)

pub add_statement-returns-in_ok-add_assignment-in-Blocking : goal.add_statement-returns-in_ok-add_assignment-in-Blocking
add_statement-returns-in_ok-add_assignment-in-Blocking t c plain are =
    c.in_ok-add_assignment-in-Blocking.ensures plain are ∙ ap (λ (s : Stmt). map object_number c.args.objects.now.items ++ read_in_text plain (statement_of s)) (sym c.in-Blocking.is)

pub add_statement-returns-in_ok-add_assignment-in-Nonblocking : goal.add_statement-returns-in_ok-add_assignment-in-Nonblocking
add_statement-returns-in_ok-add_assignment-in-Nonblocking t c plain are =
    c.in_ok-add_assignment-in-Nonblocking.ensures plain are ∙ ap (λ (s : Stmt). map object_number c.args.objects.now.items ++ read_in_text plain (statement_of s)) (sym c.in-Nonblocking.is)

-- Sizes

pub add_statements-add_statement-requires : goal.add_statements-add_statement-requires
add_statements-add_statement-requires t c =
    let r = c.requires in
    let least = statement-levels c.args.statements.now c.statements.statement-index c.statement-item.result c.statements-test.true c.statement-item.is in
    (omega (arith, least, c.decreases), (r.0, r.1, statement-at r.0 c.args.statements.now c.statements.statement-index c.statement-item.result r.2 c.statements-test.true c.statement-item.is))

pub add_items-add_item-requires : goal.add_items-add_item-requires
add_items-add_item-requires t c =
    let r = c.requires in
    let least = item-levels c.args.items.now c.items.item-index c.item-item.result c.items-test.true c.item-item.is in
    (omega (arith, least, c.decreases), (r.0, r.1, item-at r.0 c.args.items.now c.items.item-index c.item-item.result r.2 c.items-test.true c.item-item.is))

pub add_statement-add_statements-requires : goal.add_statement-add_statements-requires
add_statement-add_statements-requires t c =
    let r = c.requires in
    let same = ap statement_of c.in-Block.is ∙ statement_of-Block c.in-Block.place c.in-Block.statements in
    let sized : AreSizedTexts r.0 (statements_of c.in-Block.statements.items) = subst (IsSizedText r.0) same r.2 in
    let level : levels_of (statement_of c.args.statement.now) ≡ levels_of_all (statements_of c.in-Block.statements.items) + 1 = ap levels_of same in
    let there = ap (λ (ss : List Stmt). levels_of_all (statements_of ss)) c.deref.ensures.value in
    (omega (arith, level, there, c.decreases), (r.0, r.1, subst (λ (ss : List Stmt). AreSizedTexts r.0 (statements_of ss)) (sym c.deref.ensures.value) sized))

pub add_statement-add_items-requires : goal.add_statement-add_items-requires
add_statement-add_items-requires t c =
    let r = c.requires in
    let same = ap statement_of c.in-Case.is ∙ statement_of-Case c.in-Case.place c.in-Case.kind c.in-Case.value c.in-Case.items in
    let sized : AreSizedItemTexts r.0 (case_items_of c.in-Case.items.items) = items-of r.0 _ _ _ _ _ same r.2 in
    let level : levels_of (statement_of c.args.statement.now) ≡ levels_of_items (case_items_of c.in-Case.items.items) + 1 = ap levels_of same in
    let there = ap (λ (is : List CaseItem). levels_of_items (case_items_of is)) c.deref-in-Case.ensures.value in
    (omega (arith, level, there, c.decreases), (r.0, r.1, subst (λ (is : List CaseItem). AreSizedItemTexts r.0 (case_items_of is)) (sym c.deref-in-Case.ensures.value) sized))

pub add_item-add_labels-requires : goal.add_item-add_labels-requires
add_item-add_labels-requires t c =
    let r = c.requires in
    let sized = subst (IsSizedItemText r.0) c.in-Labelled.is r.2 in
    (r.0, r.1, subst (λ (ls : List Expr). AreSizedLabels r.0 (expressions_of ls)) (sym c.as_slice.ensures) sized.0)
