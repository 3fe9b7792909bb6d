use Rattle.std.proofs.Common.{subst}
use Rattle.v_tree.specs.Views as source
use Rattle.v_names.specs.Scopes.{Scope}
use Rattle.object_expr.specs.Narrow.{IsNarrow}
use Rattle.object_statements.proofs.meaning.expr_assigned.Goals as goal

pub expr_assigned-requires : goal.expr_assigned-requires
expr_assigned-requires c = let r = c.requires in subst (λ (s : Scope). IsNarrow s (source.expression_of c.args.expr.now)) r.1.scope_is r.2
