use Rattle.std.proofs.Common.{◌≡◌, ◌++◌, drop, map}
use Rattle.vf_base.specs.Base.{object_number}
use Rattle.v_design.specs.Plain.{piece_of}
use Rattle.v_design.specs.Expressions.{piece_objects}
use Rattle.object_waits.proofs.reads.add_pieces.Given as goal

abbrev pub invariant-pieces : goal.invariant-pieces
invariant-pieces l = map object_number l.objects.items ++ piece_objects (map piece_of (drop l.piece-index l.pieces)) ≡ map object_number l.initial.objects.items
    ++ piece_objects (map piece_of l.pieces)
