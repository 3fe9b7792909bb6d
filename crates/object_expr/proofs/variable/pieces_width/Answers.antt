use Rattle.std.proofs.Common.{arith}
use Rattle.v_design.specs.declared.tree.PieceRef.{PieceRef}
use Rattle.object_expr.proofs.Pieces.{width-within}
use Rattle.object_expr.proofs.variable.pieces_width.Goals as goal

pub overflow_add-width : goal.overflow_add-width
overflow_add-width c =
    let none : PieceRef = record { object = record { 0 = 0 }; width = 0 } in
    let so_far = c.pieces.invariant in
    let within = width-within c.args.pieces.now c.pieces.piece-index none c.pieces-test.true in
    let all = c.requires in
    omega (arith, so_far, within, all)
