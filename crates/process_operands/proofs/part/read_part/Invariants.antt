use Rattle.std.proofs.Common.{◌≡◌, ◌≤◌, drop, take, map, length}
use Rattle.v_design.specs.Plain.{piece_of}
use Rattle.v_design.specs.Expressions.{Has, part_places, bit_at_place, slices_at, read_slices}
use Rattle.expr_eval.specs.Operands.{bits_so_far}
use Rattle.process_operands.specs.Sought.{got}
use Rattle.process_operands.proofs.part.read_part.Given as goal

abbrev pub invariant-bits : goal.invariant-bits
invariant-bits l =
    record {
      bits : length (bits_so_far l.part) ≡ l.bit;
      some : 1 ≤ l.bit →
          got (λ bits. map (bit_at_place bits) (take l.bit (part_places l.vector.high l.vector.low l.from l.to)))
          (read_slices (slices_at (part_places l.vector.high l.vector.low l.from l.to) 0 (map piece_of l.vector.pieces)) (drop l.fn.used l.operands))
          ≡ Has (bits_so_far l.part) (drop l.used l.operands);
    }
