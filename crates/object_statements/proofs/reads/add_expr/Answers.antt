use Rattle.std.proofs.Common.{sym, subst}
use Rattle.v_design.specs.Sized.{IsSized}
use Rattle.object_statements.proofs.reads.add_expr.Goals as goal

pub expr_alone-requires : goal.expr_alone-requires
expr_alone-requires c = let r = c.requires in (r.0, r.1, r.2.1)

pub add_flat-added-requires : goal.add_flat-added-requires
add_flat-added-requires c = let r = c.requires in subst IsSized (sym (c.in_ok-flat.ensures r.0 r.1)) r.2.0.1
