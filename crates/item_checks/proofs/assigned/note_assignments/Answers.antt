use Rattle.std.proofs.Common.{List, map, flat_map, refl}
use Rattle.v_elab.specs.ItemFaults.{assigned_faults}
use Rattle.v_width.specs.Targets.{ByNode}
use Rattle.v_tree.specs.Trees.{SourceAssignment}
use Rattle.v_tree.specs.Views.{expression_of, target_of, assignment_of}
use Rattle.v_tree.specs.declared.item.Assignment.{Assignment}
use Rattle.name_checks.specs.Rows.{rest-more}
use Rattle.item_checks.proofs.assigned.note_assignments.Goals as goal

pub assignments-preserved : goal.assignments-preserved
assignments-preserved c =
    rest-more (λ (x : Assignment). assigned_faults ByNode c.args.scope.now (target_of x.target) (expression_of x.value))
    (λ (xs : List Assignment). flat_map (λ (a : SourceAssignment). assigned_faults ByNode c.args.scope.now a.target a.value) (map assignment_of xs)) c.args.assignments.now
    c.assignments.assignment-index c.assignment-item.result
    c.assignments.first c.note_assigned.new.first _ (λ y ys. refl) c.assignments-test.true c.assignment-item.is c.in_ok-note_assigned.ensures c.assignments.invariant
