use Rattle.std.proofs.Common.{◌≡◌, map, drop}
use Rattle.v_design.specs.Plain.{piece_of}
use Rattle.fault_list.specs.Spelled.{piece_bit}
use Rattle.fault_list.proofs.spelled.piece_bit.Given as goal

abbrev pub invariant-pieces : goal.invariant-pieces
invariant-pieces l = piece_bit (map piece_of l.pieces) l.place ≡ piece_bit (map piece_of (drop l.piece-index l.pieces)) l.left
