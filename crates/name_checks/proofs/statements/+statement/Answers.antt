use Rattle.std.proofs.Common.{◌≡◌, ◌++◌, List, ap, refl, sym, ◌∙◌}
use Rattle.v_tree.specs.Views.{expression_of, statement_of, statements_of, case_items_of}
use Rattle.v_tree.specs.declared.statement.Stmt.{Stmt}
use Rattle.v_tree.specs.declared.statement.CaseItem.{CaseItem}
use Rattle.v_names.specs.Constants.{name_faults}
use Rattle.v_names.specs.Names.{statement_name_faults, statements_name_faults, case_name_faults}
use Rattle.name_checks.specs.Noted.{noted}
use Rattle.name_checks.specs.CodeFaults.{case_item_faults}
use Rattle.name_checks.proofs.Trees.{block-faults, case-faults, item-first}
use Rattle.name_checks.specs.Noted.{noted-two}
use Rattle.name_checks.specs.Rows.{rest-more}
use Rattle.name_checks.proofs.statements.+statement.Goals as goal

pub note_statement-returns-in_ok-note_statements-in-Block : goal.note_statement-returns-in_ok-note_statements-in-Block
note_statement-returns-in_ok-note_statements-in-Block t c =
    c.in_ok-note_statements-in-Block.ensures
    ∙ ap (noted c.args.first.now)
    (ap (λ (ss : List Stmt). statements_name_faults c.args.scope.now (statements_of ss)) c.deref.ensures.value ∙ sym (block-faults c.args.scope.now c.in-Block.place c.in-Block.statements)
    ∙ ap (λ (s : Stmt). statement_name_faults c.args.scope.now (statement_of s)) (sym c.in-Block.is))

pub note_statement-returns-in_ok-note_case_items-in-Case : goal.note_statement-returns-in_ok-note_case_items-in-Case
note_statement-returns-in_ok-note_case_items-in-Case t c =
    noted-two c.args.first.now _ _ (name_faults c.args.scope.now (expression_of c.in-Case.value)) (case_name_faults c.args.scope.now (case_items_of c.deref-in-Case.result.now))
    (statement_name_faults c.args.scope.now (statement_of c.args.stmt.now))
    c.in_ok-note_names-in-Case.ensures c.in_ok-note_case_items-in-Case.ensures
    (ap (λ (s : Stmt). statement_name_faults c.args.scope.now (statement_of s)) c.in-Case.is ∙ case-faults c.args.scope.now c.in-Case.place c.in-Case.kind c.in-Case.value c.in-Case.items
    ∙ ap (λ (items : List CaseItem). name_faults c.args.scope.now (expression_of c.in-Case.value) ++ case_name_faults c.args.scope.now (case_items_of items)) (sym c.deref-in-Case.ensures.value))

pub note_statements-statements-preserved : goal.note_statements-statements-preserved
note_statements-statements-preserved t c =
    rest-more (λ (s : Stmt). statement_name_faults c.args.scope.now (statement_of s)) (λ (ss : List Stmt). statements_name_faults c.args.scope.now (statements_of ss)) c.args.statements.now
    c.statements.stmt-index c.stmt-item.result
    c.statements.first c.note_statement.new.first _ (λ y ys. refl) c.statements-test.true c.stmt-item.is c.in_ok-note_statement.ensures c.statements.invariant

pub note_case_items-items-preserved : goal.note_case_items-items-preserved
note_case_items-items-preserved t c =
    rest-more (case_item_faults c.args.scope.now) (λ (items : List CaseItem). case_name_faults c.args.scope.now (case_items_of items)) c.args.items.now c.items.item-index c.item-item.result
    c.items.first c.note_case_item.new.first _ (item-first c.args.scope.now) c.items-test.true c.item-item.is c.in_ok-note_case_item.ensures c.items.invariant
