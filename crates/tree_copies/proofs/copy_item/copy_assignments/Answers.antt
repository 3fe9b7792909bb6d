use Rattle.std.proofs.Common.{map, ap, ◌∙◌}
use Rattle.v_tree.specs.Views.{assignment_of}
use Rattle.tree_copies.specs.Turns.{one-more}
use Rattle.tree_copies.proofs.copy_item.copy_assignments.Goals as goal

pub assignments-preserved : goal.assignments-preserved
assignments-preserved c =
    ap (map assignment_of) c.in_ok-push.ensures.items
    ∙ one-more assignment_of c.args.assignments.now c.assignments.copies.items c.assignments.assignment-index c.assignment-item.result c.in_ok-copy.copy c.assignments-test.true c.assignment-item.is
    c.in_ok-copy.ensures c.assignments.invariant
