use Rattle.std.proofs.Common.{flat_map, refl, ap, sym, ◌∙◌}
use Rattle.v_tree.specs.declared.statement.Stmt.{Stmt}
use Rattle.v_comb.specs.Occurrences.{listed, assigned_names_of, assigned_names_of_item}
use Rattle.v_comb.proofs.Trees.{block-assigned, case-assigned, if-assigned-some}
use Rattle.v_comb.proofs.Turns.{one-more, two-more}
use Rattle.v_comb.proofs.occurrences.+push_assigned.Goals as goal

pub push_assigned-returns-in_ok-push_all_assigned-in-Block : goal.push_assigned-returns-in_ok-push_all_assigned-in-Block
push_assigned-returns-in_ok-push_all_assigned-in-Block t c =
    one-more (listed c.args.names.now.items) (listed c.push_all_assigned.new.names.items) c.in_ok-push_all_assigned-in-Block.ensures
    (ap (flat_map assigned_names_of) c.deref.ensures.value ∙ sym (block-assigned c.in-Block.place c.in-Block.statements) ∙ ap (λ (s : Stmt). assigned_names_of s) (sym c.in-Block.is))

pub push_assigned-returns-in_ok-push_items_assigned-in-Case : goal.push_assigned-returns-in_ok-push_items_assigned-in-Case
push_assigned-returns-in_ok-push_items_assigned-in-Case t c =
    one-more (listed c.args.names.now.items) (listed c.push_items_assigned.new.names.items) c.in_ok-push_items_assigned-in-Case.ensures
    (ap (flat_map assigned_names_of_item) c.deref-in-Case.ensures.value ∙ sym (case-assigned c.in-Case.place c.in-Case.kind c.in-Case.value c.in-Case.items)
    ∙ ap (λ (s : Stmt). assigned_names_of s) (sym c.in-Case.is))
