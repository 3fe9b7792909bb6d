use Rattle.std.proofs.Common.{◌≡◌, map, take}
use Rattle.v_design.specs.Plain.{piece_of}
use Rattle.v_design.specs.Assignments.{value_at}
use Rattle.v_design.specs.Expressions.{vector_value}
use Rattle.expr_eval.specs.Operands.{bits_so_far}
use Rattle.expr_eval.proofs.operand.vector_bits.Given as goal

abbrev pub invariant-pieces : goal.invariant-pieces
invariant-pieces g l = bits_so_far l.bits ≡ vector_value (value_at (g.V.Values.values l.values)) (map piece_of (take l.piece-index l.pieces))
