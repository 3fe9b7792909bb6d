use Rattle.std.proofs.Common.{◌+◌, List, drop, ap, sym, ◌∙◌, option_map}
use Rattle.v_design.specs.Trees.{Expression, Expressions, more_expressions}
use Rattle.v_design.specs.Plain.{expressions_of}
use Rattle.v_design.specs.declared.tree.FlatExpr.{FlatExpr}
use Rattle.v_tree.specs.Views as source
use Rattle.v_tree.specs.declared.expression.Expr.{Expr}
use Rattle.v_names.specs.SizeViews.{size_of}
use Rattle.v_elab.specs.Statements.{label_expressions}
use Rattle.object_statements.proofs.Levels.{label-at}
use Rattle.object_statements.proofs.Rows.{then_expressions, expressions-push, expressions-end, made-step, made-end}
use Rattle.object_statements.proofs.cases.labels_over.Goals as goal

pub labels-preserved : goal.labels-preserved
labels-preserved c plain are =
    let left : Expressions = label_expressions plain (option_map size_of c.args.size) (source.expressions_of (drop (c.labels.label-index + 1) c.args.labels.now)) in
    ap (λ (es : List FlatExpr). then_expressions (expressions_of es) left) c.in_ok-push.ensures.items
    ∙ expressions-push c.labels.flats.items c.in_ok-flat.flat left
    ∙ ap (λ (e : Expression). then_expressions (expressions_of c.labels.flats.items) (more_expressions e left)) (c.in_ok-flat.ensures plain are)
    ∙ made-step (λ (xs : List Expr). then_expressions (expressions_of c.labels.flats.items) (label_expressions plain (option_map size_of c.args.size) (source.expressions_of xs))) c.args.labels.now
    c.labels.label-index c.label-item.result _
    c.labels-test.true c.label-item.is (c.labels.invariant plain are)

pub returns : goal.returns
returns c plain are =
    sym (expressions-end (expressions_of c.labels.flats.items))
    ∙ made-end (λ (xs : List Expr). then_expressions (expressions_of c.labels.flats.items) (label_expressions plain (option_map size_of c.args.size) (source.expressions_of xs))) c.args.labels.now
    c.labels.label-index _
    c.labels-test.false (c.labels.invariant plain are)

pub expr_at-requires : goal.expr_at-requires
expr_at-requires c =
    let r = c.requires in
    let read = label-at r.0 c.args.labels.now c.labels.label-index c.label-item.result r.2 c.labels-test.true c.label-item.is in
    (r.0, r.1, read.1)
