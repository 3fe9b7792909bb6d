use Rattle.expr_eval.specs.WidthLaws.{piece_there}
use Rattle.expr_eval.proofs.operand.bit_at_place_of.Goals as goal

pub value-value-requires : goal.value-value-requires
value-value-requires g c = (piece_there (g.V.Values.values c.args.values.now) c.args.pieces.now c.pieces.piece-index _ c.requires c.pieces-test.true).0
