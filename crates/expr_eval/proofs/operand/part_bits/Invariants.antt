use Rattle.std.proofs.Common.{◌≡◌, map, take}
use Rattle.v_design.specs.Plain.{piece_of}
use Rattle.v_design.specs.Assignments.{value_at}
use Rattle.v_design.specs.Expressions.{bit_at_place, place_of, part_indexes, vector_value}
use Rattle.expr_eval.specs.Operands.{bits_so_far}
use Rattle.expr_eval.proofs.operand.part_bits.Given as goal

abbrev pub invariant-bits : goal.invariant-bits
invariant-bits g l =
    bits_so_far l.part
    ≡ map (bit_at_place (vector_value (value_at (g.V.Values.values l.values)) (map piece_of l.vector.pieces))) (map (place_of l.vector.high l.vector.low) (take l.place (part_indexes l.from l.to)))
