use Rattle.std.proofs.Common.{◌≡◌, map, drop}
use Rattle.four_value.specs.Values.{bit_at}
use Rattle.v_design.specs.Plain.{piece_of}
use Rattle.v_design.specs.Assignments.{value_at}
use Rattle.v_design.specs.Expressions.{vector_value}
use Rattle.expr_eval.proofs.operand.bit_at_place_of.Given as goal

abbrev pub invariant-pieces : goal.invariant-pieces
invariant-pieces g l =
    bit_at (vector_value (value_at (g.V.Values.values l.values)) (map piece_of (drop l.piece-index l.pieces))) l.left
    ≡ bit_at (vector_value (value_at (g.V.Values.values l.values)) (map piece_of l.pieces)) l.fn.place
