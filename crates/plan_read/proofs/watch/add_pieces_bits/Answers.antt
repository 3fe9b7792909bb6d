use Rattle.v_design.specs.Plain.{piece_of}
use Rattle.plan_read.specs.Watched.{object_bits}
use Rattle.plan_read.proofs.Grown.{copied-more}
use Rattle.plan_read.proofs.watch.add_pieces_bits.Goals as goal

pub pieces-preserved : goal.pieces-preserved
pieces-preserved c = copied-more piece_of (λ piece. object_bits piece.object piece.width) c.args.pieces.now c.pieces.piece-index _ _ _ _ c.pieces-test.true c.pieces.invariant
    c.in_ok-add_piece_bits.ensures
