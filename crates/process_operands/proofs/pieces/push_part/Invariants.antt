use Rattle.std.proofs.Common.{◌≡◌, ◌≤◌, ◌*◌, ◌++◌, drop, map}
use Rattle.v_design.specs.Plain.{piece_of}
use Rattle.v_design.specs.Expressions.{part_places, slices_at, slice_pieces}
use Rattle.process_operands.proofs.pieces.push_part.Given as goal

-- the pieces so far, and of those to come the ones that hold some bit
abbrev pub invariant-pieces : goal.invariant-pieces
invariant-pieces l =
    record {
      low : l.low ≤ 255 * l.piece-index;
      left : map piece_of l.pieces.items ++ slice_pieces (slices_at (part_places l.vector.high l.vector.low l.from l.to) l.low (map piece_of (drop l.piece-index l.own)))
          ≡ map piece_of l.initial.pieces.items ++ slice_pieces (slices_at (part_places l.vector.high l.vector.low l.from l.to) 0 (map piece_of l.vector.pieces));
    }
