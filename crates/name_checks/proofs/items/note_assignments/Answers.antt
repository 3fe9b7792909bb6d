use Rattle.std.proofs.Common.{◌++◌, List, map, flat_map, refl, ap, sym, ◌∙◌}
use Rattle.v_names.specs.Constants.{name_faults}
use Rattle.v_names.specs.Names.{fixed_target_faults}
use Rattle.v_tree.specs.Trees.{SourceAssignment}
use Rattle.v_tree.specs.Views.{expression_of, target_of, assignment_of}
use Rattle.v_tree.specs.declared.item.Assignment.{Assignment}
use Rattle.name_checks.specs.Noted.{noted-two}
use Rattle.name_checks.specs.Rows.{rest-more}
use Rattle.name_checks.proofs.items.note_assignments.Goals as goal

pub assignments-preserved : goal.assignments-preserved
assignments-preserved c =
    rest-more (λ (x : Assignment). fixed_target_faults c.args.scope.now (target_of x.target) ++ name_faults c.args.scope.now (expression_of x.value))
    (λ (xs : List Assignment). flat_map (λ (a : SourceAssignment). fixed_target_faults c.args.scope.now a.target ++ name_faults c.args.scope.now a.value) (map assignment_of xs))
    c.args.assignments.now c.assignments.assignment-index c.assignment-item.result
    c.assignments.first c.note_names.new.first _ (λ y ys. refl) c.assignments-test.true c.assignment-item.is
    (noted-two c.assignments.first _ _ (fixed_target_faults c.args.scope.now (target_of c.assignment-item.result.target))
    (name_faults c.args.scope.now (expression_of c.assignment-item.result.value)) (fixed_target_faults c.args.scope.now (target_of c.assignment-item.result.target)
    ++ name_faults c.args.scope.now (expression_of c.assignment-item.result.value)) c.in_ok-note_fixed_target.ensures c.in_ok-note_names.ensures refl) c.assignments.invariant
