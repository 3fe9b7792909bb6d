use Rattle.std.proofs.Common.{◌++◌, List, map, sym, ap, subst, rules, arith, ◌∙◌}
use Rattle.vf_base.specs.Base.{object_number}
use Rattle.v_design.specs.Expressions.{width_of, sign_of}
use Rattle.v_design.specs.Plain.{expression_of, expressions_of, statement_of}
use Rattle.v_design.specs.Sized.{IsSizedStatement, AreSizedStatements, AreSizedItems}
use Rattle.v_design.specs.declared.tree.CaseItem.{CaseItem}
use Rattle.v_design.specs.declared.tree.FlatExpr.{FlatExpr}
use Rattle.v_design.specs.declared.tree.FlatStmt.{FlatStmt}
use Rattle.v_design.specs.PlainLemmas.{statements_of, items_of, statement_of-Block, statement_of-Case}
use Rattle.v_design.specs.Reads.{read_objects, all_read, items_read}
use Rattle.object_reads.specs.SizedReads.{AreSized, item-at, item-levels, statement-at, statement-levels}
use Rattle.object_reads.proofs.Threes.{three}
use Rattle.object_reads.proofs.statement.+statements.Goals as goal

pub push_statement_reads-returns-in_ok-push_statements_reads-in-Block : goal.push_statement_reads-returns-in_ok-push_statements_reads-in-Block
push_statement_reads-returns-in_ok-push_statements_reads-in-Block t c =
    let old = map object_number c.args.objects.now.items in
    let same = ap statement_of c.in-Block.is ∙ statement_of-Block c.in-Block.place c.in-Block.statements in
    c.in_ok-push_statements_reads-in-Block.ensures ∙ ap (λ l. old ++ all_read (statements_of l)) c.deref.ensures.value ∙ ap (λ s. old ++ read_objects s) (sym same)

pub push_statement_reads-returns-in_ok-push_statement_reads-in-Case : goal.push_statement_reads-returns-in_ok-push_statement_reads-in-Case
push_statement_reads-returns-in_ok-push_statement_reads-in-Case t c =
    let old = map object_number c.args.objects.now.items in
    let same = ap statement_of c.in-Case.is ∙ statement_of-Case c.in-Case.place c.in-Case.kind c.in-Case.value c.in-Case.items c.in-Case.default in
    three old _ _ _ _ _ _ c.in_ok-push_reads-in-Case.ensures
    (c.in_ok-push_items_reads-in-Case.ensures ∙ ap (λ l. map object_number c.push_reads-in-Case.new.objects.items ++ items_read (items_of l)) c.deref-in-Case.ensures.value)
    (c.in_ok-push_statement_reads-in-Case.ensures ∙ ap (λ s. map object_number c.push_items_reads.new.objects.items ++ read_objects (statement_of s)) c.deref-in-Case-2.ensures)
    ∙ ap (λ s. old ++ read_objects s) (sym same)

-- Sizes

pub push_items_reads-push_all_reads-requires : goal.push_items_reads-push_all_reads-requires
push_items_reads-push_all_reads-requires t c =
    let sized = item-at c.requires.0 c.requires.1 c.args.items.now c.items.item-index c.item-item.result c.requires.2 c.items-test.true c.item-item.is in
    subst (λ (es : List FlatExpr). AreSized (expressions_of es)) (sym c.deref.ensures.value) sized.0

pub push_items_reads-push_statement_reads-requires : goal.push_items_reads-push_statement_reads-requires
push_items_reads-push_statement_reads-requires t c =
    let sized = item-at c.requires.0 c.requires.1 c.args.items.now c.items.item-index c.item-item.result c.requires.2 c.items-test.true c.item-item.is in
    let least = item-levels c.args.items.now c.items.item-index c.item-item.result c.items-test.true c.item-item.is in
    (omega (arith, least, c.decreases), sized.1)

pub push_statement_reads-push_statements_reads-requires : goal.push_statement_reads-push_statements_reads-requires
push_statement_reads-push_statements_reads-requires t c =
    let same = ap statement_of c.in-Block.is ∙ statement_of-Block c.in-Block.place c.in-Block.statements in
    let sized : AreSizedStatements (statements_of c.in-Block.statements.items) = subst IsSizedStatement same c.requires in
    (search rules, subst (λ (all : List FlatStmt). AreSizedStatements (statements_of all)) (sym c.deref.ensures.value) sized)

pub push_statement_reads-push_items_reads-requires : goal.push_statement_reads-push_items_reads-requires
push_statement_reads-push_items_reads-requires t c =
    let same = ap statement_of c.in-Case.is ∙ statement_of-Case c.in-Case.place c.in-Case.kind c.in-Case.value c.in-Case.items c.in-Case.default in
    let whole = subst IsSizedStatement same c.requires in
    let value = expression_of c.in-Case.value in
    (search rules, (width_of value, sign_of value, subst (λ (all : List CaseItem). AreSizedItems (width_of value) (sign_of value) (items_of all)) (sym c.deref-in-Case.ensures.value) whole.2))

pub push_statements_reads-push_statement_reads-requires : goal.push_statements_reads-push_statement_reads-requires
push_statements_reads-push_statement_reads-requires t c =
    let least = statement-levels c.args.statements.now c.statements.statement-index c.statement-item.result c.statements-test.true c.statement-item.is in
    (omega (arith, least, c.decreases), statement-at c.args.statements.now c.statements.statement-index c.statement-item.result c.requires c.statements-test.true c.statement-item.is)
