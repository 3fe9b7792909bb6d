use Rattle.std.proofs.Common.{◌≡◌, ◌++◌, map, take}
use Rattle.vf_base.specs.Base.{object_number}
use Rattle.vf_base.specs.Lists.{joined, map_numbered}
use Rattle.v_design.specs.Plain.{object_of, name_joined, piece_of}
use Rattle.plan_read.specs.Plain.{watched_bits}
use Rattle.plan_read.specs.Watched.{object_bits, pieces_bits, bits_in_object, bits_in_joined}
use Rattle.plan_read.proofs.watch.add_pieces_bits.Given as goal

abbrev pub invariant-pieces : goal.invariant-pieces
invariant-pieces l = watched_bits l.bits.items ≡ watched_bits l.initial.bits.items ++ pieces_bits (map piece_of (take l.piece-index l.pieces))
