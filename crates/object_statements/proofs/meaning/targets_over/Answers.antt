use Rattle.std.proofs.Common.{subst}
use Rattle.v_tree.specs.Views as source
use Rattle.v_names.specs.Scopes.{Scope}
use Rattle.object_expr.specs.Narrow.{IsNarrowTarget}
use Rattle.object_statements.specs.Meanings.{names_meant}
use Rattle.object_statements.proofs.meaning.targets_over.Goals as goal

pub targets_over-requires-clause-narrow : goal.targets_over-requires-clause-narrow
targets_over-requires-clause-narrow c =
    let r = c.requires in subst (λ (s : Scope). IsNarrowTarget s (source.target_of c.args.target.now)) r.1.scope_is r.2.1

pub targets_over-requires-clause-sized : goal.targets_over-requires-clause-sized
targets_over-requires-clause-sized c = let r = c.requires in (r.0, names_meant r.0 c.args.meaning r.1, r.2.0)
