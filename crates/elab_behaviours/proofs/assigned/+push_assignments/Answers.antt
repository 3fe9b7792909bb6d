use Rattle.std.proofs.Common.{◌++◌, flat_map, sym, ap, ◌∙◌}
use Rattle.v_tree.specs.declared.statement.Stmt.{Stmt}
use Rattle.elab_behaviours.specs.Assignments.{assignments_listed, statement_assigned, item_assigned}
use Rattle.elab_behaviours.proofs.Assigning.{block-assigned, case-assigned}
use Rattle.elab_behaviours.proofs.assigned.+push_assignments.Goals as goal

pub push_assignments-returns-in_ok-push_all-in-Block : goal.push_assignments-returns-in_ok-push_all-in-Block
push_assignments-returns-in_ok-push_all-in-Block t c =
    c.in_ok-push_all-in-Block.ensures
    ∙ ap (λ ns. assignments_listed c.args.names.now.items ++ ns)
    (ap (flat_map statement_assigned) c.deref.ensures.value ∙ sym (block-assigned c.in-Block.place c.in-Block.statements) ∙ ap (λ (s : Stmt). statement_assigned s) (sym c.in-Block.is))

pub push_assignments-returns-in_ok-push_items-in-Case : goal.push_assignments-returns-in_ok-push_items-in-Case
push_assignments-returns-in_ok-push_items-in-Case t c =
    c.in_ok-push_items-in-Case.ensures
    ∙ ap (λ ns. assignments_listed c.args.names.now.items ++ ns)
    (ap (flat_map item_assigned) c.deref-in-Case.ensures.value ∙ sym (case-assigned c.in-Case.place c.in-Case.kind c.in-Case.value c.in-Case.items)
    ∙ ap (λ (s : Stmt). statement_assigned s) (sym c.in-Case.is))
