use Rattle.std.proofs.Common.{◌≡◌, ◌+◌, ◌*◌, ◌++◌, drop}
use Rattle.v_design.specs.Sized.{levels_of, levels_of_parts}
use Rattle.v_design.specs.Plain.{expression_of, expressions_of}
use Rattle.v_design.specs.Assignments.{value_at}
use Rattle.v_design.specs.Expressions.{parts_value}
use Rattle.expr_eval.specs.Operands.{bits_so_far}
use Rattle.expr_eval.proofs.value.+eval.Given as goal

abbrev pub invariant-parts_bits-parts : goal.invariant-parts_bits-parts
invariant-parts_bits-parts g l = parts_value (value_at (g.V.Values.values l.values)) (expressions_of l.parts) ≡ parts_value (value_at (g.V.Values.values l.values))
    (expressions_of (drop l.part-index l.parts)) ++ bits_so_far l.bits

abbrev pub decreases-value_in : goal.decreases-value_in
decreases-value_in g l = 2 * levels_of (expression_of l.expr.now)

abbrev pub decreases-parts_bits : goal.decreases-parts_bits
decreases-parts_bits g l = 2 * levels_of_parts (expressions_of l.parts.now) + 1
