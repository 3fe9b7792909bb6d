use Rattle.std.proofs.Common.{◌++◌, map, sym, ap, ◌∙◌}
use Rattle.v_tree.specs.declared.expression.Target.{Target}
use Rattle.elab_behaviours.specs.Assignments.{assignments_listed, select_assigned, target_assigned}
use Rattle.elab_behaviours.proofs.Assigning.{selects-assigned}
use Rattle.elab_behaviours.proofs.assigned.push_target.Goals as goal

pub returns-in_ok-push_selects-in-Joined : goal.returns-in_ok-push_selects-in-Joined
returns-in_ok-push_selects-in-Joined c =
    c.in_ok-push_selects-in-Joined.ensures
    ∙ ap (λ ns. assignments_listed c.args.names.now.items ++ ns) (ap (map select_assigned) c.as_slice.ensures ∙ sym (selects-assigned c.in-Joined.selects)
    ∙ ap (λ (t : Target). target_assigned t) (sym c.in-Joined.is))
