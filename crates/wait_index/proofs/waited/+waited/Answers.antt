-- The statements of a block, and the items of a case.
use Rattle.std.proofs.Common.{◌≡◌, List, ◌++◌, map, ap, sym, ◌∙◌, append_assoc}
use Rattle.vf_base.specs.Base.{object_number, source_place}
use Rattle.v_design.specs.Trees as plain
use Rattle.v_design.specs.Plain.{expression_of, statement_of}
use Rattle.v_design.specs.PlainLemmas.{statements_of, items_of, statement_of-Block, statement_of-Case}
use Rattle.wait_index.specs.Waits.{waited_objects, all_waited, items_waited}
use Rattle.wait_index.proofs.waited.+waited.Goals as goal

pub add_statement-returns-in_ok-add_statements-in-Block : goal.add_statement-returns-in_ok-add_statements-in-Block
add_statement-returns-in_ok-add_statements-in-Block t c =
    let old = map object_number c.args.objects.now.items in
    c.in_ok-add_statements-in-Block.ensures ∙ ap (λ l. old ++ all_waited (statements_of l)) c.deref.ensures.value
    ∙ sym (ap (λ s. old ++ waited_objects (statement_of s)) c.in-Block.is ∙ ap (λ s. old ++ waited_objects s) (statement_of-Block c.in-Block.place c.in-Block.statements))

pub add_statement-returns-in_ok-add_statement-in-Case : goal.add_statement-returns-in_ok-add_statement-in-Case
add_statement-returns-in_ok-add_statement-in-Case t c =
    let old = map object_number c.args.objects.now.items in
    let items = items_waited (items_of c.deref-in-Case.result.now) in
    let default = waited_objects (statement_of c.deref-in-Case-2.result.now) in
    let s : statement_of c.args.statement.now ≡ plain.Case (source_place c.in-Case.place) c.in-Case.kind (expression_of c.in-Case.value) (items_of c.deref-in-Case.result.now)
    (statement_of c.deref-in-Case-2.result.now) =
    ap statement_of c.in-Case.is ∙ statement_of-Case c.in-Case.place c.in-Case.kind c.in-Case.value c.in-Case.items c.in-Case.default
    ∙ ap (λ xs. plain.Case (source_place c.in-Case.place) c.in-Case.kind (expression_of c.in-Case.value) (items_of xs) (statement_of c.in-Case.default.value)) (sym c.deref-in-Case.ensures.value)
    ∙ ap (λ x. plain.Case (source_place c.in-Case.place) c.in-Case.kind (expression_of c.in-Case.value) (items_of c.deref-in-Case.result.now) (statement_of x)) (sym c.deref-in-Case-2.ensures) in
    c.in_ok-add_statement-in-Case.ensures ∙ ap (λ l. l ++ default) c.in_ok-add_items-in-Case.ensures ∙ append_assoc old items default ∙ sym (ap (λ x. old ++ waited_objects x) s)
