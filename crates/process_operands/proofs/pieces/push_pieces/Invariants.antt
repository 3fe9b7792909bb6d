use Rattle.std.proofs.Common.{◌≡◌, ◌++◌, drop, map}
use Rattle.v_design.specs.Plain.{piece_of}
use Rattle.process_operands.proofs.pieces.push_pieces.Given as goal

abbrev pub invariant-pieces : goal.invariant-pieces
invariant-pieces l = map piece_of l.pieces.items ++ map piece_of (drop l.piece-index l.more) ≡ map piece_of l.initial.pieces.items ++ map piece_of l.more
