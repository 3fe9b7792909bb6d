use Rattle.std.proofs.Common.{arith, ◌∙◌, ◌++◌, ap, sym, length, map, take}
use Rattle.std.proofs.lemmas.List.{take_all}
use Rattle.v_design.specs.Plain.{piece_of}
use Rattle.v_design.specs.Assignments.{value_at}
use Rattle.v_design.specs.Expressions.{vector_value}
use Rattle.expr_eval.specs.Operands.{bits_so_far}
use Rattle.expr_eval.specs.WidthLaws.{piece_there, vector_value-more, vector_value-room, length-vector_value}
use Rattle.expr_eval.proofs.operand.vector_bits.Goals as goal

pub value-value-requires : goal.value-value-requires
value-value-requires g c = (piece_there (g.V.Values.values c.args.values.now) c.args.pieces.now c.pieces.piece-index _ c.requires.there c.pieces-test.true).0

pub put_left-requires : goal.put_left-requires
put_left-requires g c =
    vector_value-room (g.V.Values.values c.args.values.now) c.args.pieces.now c.pieces.piece-index _
    (bits_so_far c.pieces.bits) c.value-value.result c.requires.there c.pieces-test.true c.requires.few c.pieces.invariant c.value-value.ensures

pub pieces-preserved : goal.pieces-preserved
pieces-preserved g c =
    c.put_left.ensures
    ∙ ap (λ bits. bits ++ c.value-value.result) c.pieces.invariant
    ∙ ap (λ bits. vector_value (value_at (g.V.Values.values c.args.values.now)) (map piece_of (take c.pieces.piece-index c.args.pieces.now)) ++ bits) c.value-value.ensures
    ∙ sym (vector_value-more (value_at (g.V.Values.values c.args.values.now)) c.args.pieces.now c.pieces.piece-index _ c.pieces-test.true)

pub unreachable-requires : goal.unreachable-requires
unreachable-requires g c =
    let all = take_all c.pieces.piece-index c.args.pieces.now c.pieces-test.false in
    let none = ap length (sym (ap bits_so_far c.in-None.is) ∙ c.pieces.invariant ∙ ap (λ l. vector_value (value_at (g.V.Values.values c.args.values.now)) (map piece_of l)) all) in
    omega (arith, none, length-vector_value (g.V.Values.values c.args.values.now) (map piece_of c.args.pieces.now) c.requires.there, c.requires.some)
