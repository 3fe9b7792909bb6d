use Rattle.std.proofs.Common.{List, refl}
use Rattle.v_tree.specs.Views.{expression_of, expressions_of}
use Rattle.v_tree.specs.declared.expression.Expr.{Expr}
use Rattle.v_names.specs.Readings.{reading_of}
use Rattle.item_checks.specs.Groups.{group_of, labels_group}
use Rattle.item_checks.proofs.GroupsGrow.{grows-step, grows-end}
use Rattle.item_checks.proofs.cases.with_labels.Goals as goal

pub labels-preserved : goal.labels-preserved
labels-preserved c final rest =
    c.labels.invariant final
    (grows-step (λ (x : Expr). group_of (reading_of c.args.scope.now (expression_of x))) (λ (xs : List Expr). labels_group c.args.scope.now (expressions_of xs)) c.args.labels.now
    c.labels.label-index c.label-item.result c.labels.faults c.in_ok-faults.faults final (λ y ys. refl)
    c.labels-test.true c.label-item.is c.in_ok-faults.ensures rest)

pub returns : goal.returns
returns c = c.labels.invariant c.labels.faults (grows-end (λ (xs : List Expr). labels_group c.args.scope.now (expressions_of xs)) c.args.labels.now c.labels.label-index c.labels.faults refl
    c.labels-test.false)
