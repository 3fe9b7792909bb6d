use Rattle.std.proofs.Common.{◌+◌, List, drop, ap, ◌∙◌, option_map}
use Rattle.v_tree.specs.Views.{expression_of, expressions_of}
use Rattle.v_tree.specs.declared.expression.Expr.{Expr}
use Rattle.v_names.specs.Readings.{reading_of}
use Rattle.v_names.specs.SizeViews.{size_of}
use Rattle.v_elab.specs.Statements.{labels_size}
use Rattle.object_statements.proofs.Sizes.{labels-turned}
use Rattle.object_statements.proofs.Rows.{made-step}
use Rattle.object_statements.proofs.cases.with_labels.Goals as goal

pub labels-preserved : goal.labels-preserved
labels-preserved c =
    let left = expressions_of (drop (c.labels.label-index + 1) c.args.labels.now) in
    ap (labels_size c.args.scope.now left) c.in_ok-all.ensures
    ∙ labels-turned c.args.scope.now left (reading_of c.args.scope.now (expression_of c.label-item.result)).size (option_map size_of c.labels.all)
    ∙ made-step (λ (xs : List Expr). labels_size c.args.scope.now (expressions_of xs) (option_map size_of c.labels.all)) c.args.labels.now c.labels.label-index c.label-item.result _
    c.labels-test.true c.label-item.is c.labels.invariant
