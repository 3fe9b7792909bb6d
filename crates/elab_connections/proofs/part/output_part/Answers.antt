use Rattle.std.proofs.Common.{sym, subst, ◌∙◌}
use Rattle.v_tree.specs.Views as views
use Rattle.v_tree.specs.Views.{expression_of}
use Rattle.v_names.specs.Scopes.{Scope}
use Rattle.select_bits.specs.Runs.{TargetTakesRuns}
use Rattle.elab_connections.proofs.OutputLaws.{output-is}
use Rattle.elab_connections.proofs.part.output_part.Goals as goal

pub returns : goal.returns
returns c child are takes p paths =
    let target = views.target_of c.args.target.now in
    output-is child p c.args.port.now (expression_of c.args.expr.now) target _ _ c.in_ok-width.width _ _ _ _ _ _ paths.0 (c.deref.ensures ∙ paths.1) are.inner_is are.outer_is c.place_of_expr.ensures
    c.in_ok-alone.ensures c.in_ok-width.ensures (c.in_ok-drives.ensures (subst (λ (s : Scope). TargetTakesRuns s target) (sym are.outer_is) takes)) c.in_ok-value.ensures
