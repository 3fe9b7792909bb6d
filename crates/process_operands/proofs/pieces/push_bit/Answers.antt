use Rattle.std.proofs.Common.{◌∙◌, map, ap}
use Rattle.v_design.specs.Plain.{piece_of}
use Rattle.v_design.specs.Expressions.{place_of_number}
use Rattle.process_operands.specs.PieceLaws.{pieces-nowhere}
use Rattle.process_operands.proofs.pieces.push_bit.Goals as goal

pub returns-in-None : goal.returns-in-None
returns-in-None c =
    let v = c.args.vector.now in
    pieces-nowhere (map piece_of c.args.pieces.now.items) (place_of_number v.high v.low c.args.index) (map piece_of v.pieces) (ap (place_of_number v.high v.low) c.in-None.is)

pub returns-in-None-index_within : goal.returns-in-None-index_within
returns-in-None-index_within c =
    let v = c.args.vector.now in
    pieces-nowhere (map piece_of c.args.pieces.now.items) (place_of_number v.high v.low c.args.index) (map piece_of v.pieces)
    (ap (place_of_number v.high v.low) c.in-Some.is ∙ c.in-None-index_within.ensures.none)
