use Rattle.std.proofs.Common.{subst}
use Rattle.v_tree.specs.Views as source
use Rattle.v_names.specs.Scopes.{Scope}
use Rattle.object_expr.specs.Narrow.{IsNarrow}
use Rattle.object_statements.proofs.meaning.expr_alone.Goals as goal

pub expr_alone-requires : goal.expr_alone-requires
expr_alone-requires c = let r = c.requires in subst (λ (s : Scope). IsNarrow s (source.expression_of c.args.expr.now)) r.1.scope_is r.2
