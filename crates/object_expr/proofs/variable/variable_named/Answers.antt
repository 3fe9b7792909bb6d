use Rattle.std.proofs.Common.{◌≤◌, sym, subst}
use Rattle.v_design.specs.Trees.{Vector}
use Rattle.v_design.specs.Sized.{most_bits, pieces_width}
use Rattle.object_expr.proofs.variable.variable_named.Goals as goal

pub variable_of-variable-requires : goal.variable_of-variable-requires
variable_of-variable-requires c = let r = c.requires in subst (λ (v : Vector). pieces_width v.pieces ≤ most_bits) (sym (c.in_ok-vector.ensures r.0 r.1)) r.2
