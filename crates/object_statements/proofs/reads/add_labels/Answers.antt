use Rattle.std.proofs.Common.{List, map, refl}
use Rattle.vf_base.specs.Base.{object_number}
use Rattle.v_tree.specs.Views.{expression_of, expressions_of}
use Rattle.v_tree.specs.declared.expression.Expr.{Expr}
use Rattle.v_elab.specs.Statements.{expression_in_text, labels_in_text}
use Rattle.name_checks.specs.Rows.{list-more}
use Rattle.object_statements.proofs.Levels.{label-at}
use Rattle.object_statements.proofs.reads.add_labels.Goals as goal

pub labels-preserved : goal.labels-preserved
labels-preserved c plain are =
    list-more (λ (e : Expr). expression_in_text plain (expression_of e)) (λ (es : List Expr). labels_in_text plain (expressions_of es)) c.args.labels.now c.labels.label-index c.label-item.result
    (map object_number c.labels.objects.items) (map object_number c.add_expr.new.objects.items) _ (λ y ys. refl) c.labels-test.true c.label-item.is (c.in_ok-add_expr.ensures plain are)
    (c.labels.invariant plain are)

pub add_expr-requires : goal.add_expr-requires
add_expr-requires c =
    let r = c.requires in (r.0, r.1, label-at r.0 c.args.labels.now c.labels.label-index c.label-item.result r.2 c.labels-test.true c.label-item.is)
