use Rattle.std.proofs.Common.{◌≡◌, option_map, sym, subst, ◌∙◌}
use Rattle.v_tree.specs.Views as source
use Rattle.v_names.specs.Scopes.{Scope}
use Rattle.v_names.specs.Readings.{reading_of, tree_at}
use Rattle.v_names.specs.SizeViews.{size_of}
use Rattle.v_width.specs.SizedViews.{sized_of}
use Rattle.object_expr.specs.Narrow.{IsNarrowTree, IsNarrow}
use Rattle.object_statements.proofs.cases.expr_at.Goals as goal

pub over_objects-flat-requires : goal.over_objects-flat-requires
over_objects-flat-requires c =
    let r = c.requires in
    let scope = c.args.meaning.scope.now in
    let e = source.expression_of c.args.expr.now in
    let narrow = subst (λ (s : Scope). IsNarrow s e) r.1.scope_is r.2 in
    subst IsNarrowTree (sym (c.tree_at-tree.ensures (reading_of scope e) c.in_ok-read_expr.ensures)) (narrow _ _)
