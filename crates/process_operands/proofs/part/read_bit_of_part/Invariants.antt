use Rattle.std.proofs.Common.{◌≡◌, ◌≤◌, ◌*◌, drop, map}
use Rattle.v_design.specs.Plain.{piece_of}
use Rattle.v_design.specs.Expressions.{part_places, bit_at_place, slices_at, read_slices}
use Rattle.process_operands.specs.Sought.{sought_bit, got}
use Rattle.process_operands.proofs.part.read_bit_of_part.Given as goal

abbrev pub invariant-pieces : goal.invariant-pieces
invariant-pieces l =
    record {
      low : l.low ≤ 255 * l.piece-index;
      left : got (sought_bit l.sought) (read_slices (slices_at (part_places l.vector.high l.vector.low l.from l.to) l.low (map piece_of (drop l.piece-index l.pieces))) (drop l.used l.operands))
          ≡ got (λ bits. bit_at_place bits l.fn.place) (read_slices (slices_at (part_places l.vector.high l.vector.low l.from l.to) 0 (map piece_of l.vector.pieces)) (drop l.fn.used l.operands));
    }
