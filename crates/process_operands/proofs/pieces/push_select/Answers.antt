use Rattle.std.proofs.Common.{◌++◌, ◌∙◌, map, ap, sym}
use Rattle.four_value.specs.Values.{natural_number}
use Rattle.v_design.specs.Plain.{expression_of, piece_of, vector_of}
use Rattle.process_operands.specs.ReadLaws.{constant-needs}
use Rattle.process_operands.specs.PieceLaws.{pieces-any, pieces-constant}
use Rattle.process_operands.proofs.pieces.push_select.Goals as goal

pub unreachable-requires : goal.unreachable-requires
unreachable-requires c = constant-needs (expression_of c.args.index.now) _ _ (sym c.names_nothing.ensures ∙ c.if-names_nothing.true) c.in-Err.ensures.needs

pub returns-in_ok-push_bit-in-Ok : goal.returns-in_ok-push_bit-in-Ok
returns-in_ok-push_bit-in-Ok c =
    pieces-constant (vector_of c.args.vector.now) (expression_of c.args.index.now) _ _ c.in-Ok.value c.as_natural.result (map piece_of c.args.pieces.now.items)
    (map piece_of c.push_bit.new.pieces.items)
    (sym c.names_nothing.ensures ∙ c.if-names_nothing.true) c.in-Ok.ensures.has (c.as_natural.ensures ∙ ap (λ s. natural_number s c.in-Ok.value) c.is_signed.ensures) c.in_ok-push_bit-in-Ok.ensures

pub returns-in_ok-push_pieces : goal.returns-in_ok-push_pieces
returns-in_ok-push_pieces c =
    pieces-any (vector_of c.args.vector.now) (expression_of c.args.index.now) (map piece_of c.args.pieces.now.items) (map piece_of c.push_pieces.new.pieces.items)
    (sym c.names_nothing.ensures ∙ c.if-names_nothing.false)
    (c.in_ok-push_pieces.ensures ∙ ap (λ l. map piece_of c.args.pieces.now.items ++ map piece_of l) c.as_slice.ensures)
