use Rattle.std.proofs.Common.{sym, subst}
use Rattle.v_tree.specs.Views as views
use Rattle.v_names.specs.Readings.{reading_of}
use Rattle.object_expr.specs.Narrow.{IsNarrowTree}
use Rattle.object_expr.proofs.value.expr_alone.Goals as goal

pub over_objects-requires : goal.over_objects-requires
over_objects-requires c =
    let reading = reading_of c.args.scope.now (views.expression_of c.args.expr.now) in
    subst IsNarrowTree (sym (c.tree_alone-tree.ensures reading c.in_ok-read_expr.ensures)) (c.requires _ _)
