use Rattle.std.proofs.Common.{arith, ◌≡◌, ◌+◌, ◌≤◌, ◌++◌, ◌∙◌, map, ap, sym, subst}
use Rattle.v_design.specs.Plain.{expression_of, expressions_of, piece_of}
use Rattle.v_design.specs.PlainLemmas.{expression_of-Concatenation, expression_of-Replication}
use Rattle.v_design.specs.Sized.{IsSized, AreSizedAlone, levels_of, levels_of_parts}
use Rattle.v_design.specs.Expressions.{pieces_read, parts_read}
use Rattle.expr_eval.specs.PartsLaws.{part_sized, part_levels}
use Rattle.process_operands.proofs.pieces.+pieces.Goals as goal

pub push_parts-push_read-requires : goal.push_parts-push_read-requires
push_parts-push_read-requires t c =
    let sized : IsSized (expression_of c.part-item.result) = subst (λ e. IsSized (expression_of e)) (sym c.part-item.is)
    (part_sized c.args.parts.now c.parts.part-index c.part-item.result c.parts-test.true c.requires).1 in
    let least : levels_of (expression_of c.part-item.result) ≤ levels_of_parts (expressions_of c.args.parts.now) =
    part_levels c.args.parts.now c.parts.part-index c.part-item.result c.parts-test.true c.part-item.is in
    (omega (arith, least, c.decreases), sized)

pub push_read-push_parts-requires : goal.push_read-push_parts-requires
push_read-push_parts-requires t c =
    let same = ap expression_of c.in-Concatenation.is ∙ expression_of-Concatenation c.in-Concatenation.width c.in-Concatenation.signed c.in-Concatenation.parts in
    let whole = subst IsSized same c.requires in
    let sized : AreSizedAlone (expressions_of c.deref-in-Concatenation.result.now) = subst (λ l. AreSizedAlone (expressions_of l)) (sym c.deref-in-Concatenation.ensures.value) whole.2 in
    let whole_levels : levels_of (expression_of c.args.expr.now) ≡ 1 + levels_of_parts (expressions_of c.in-Concatenation.parts.items) = ap levels_of same in
    let part_levels' = ap (λ l. levels_of_parts (expressions_of l)) c.deref-in-Concatenation.ensures.value in
    (omega (arith, whole_levels, part_levels', c.decreases), sized)

pub push_read-push_parts-requires-in-Replication : goal.push_read-push_parts-requires-in-Replication
push_read-push_parts-requires-in-Replication t c =
    let same = ap expression_of c.in-Replication.is ∙ expression_of-Replication c.in-Replication.width c.in-Replication.signed c.in-Replication.count c.in-Replication.parts in
    let whole = subst IsSized same c.requires in
    let sized : AreSizedAlone (expressions_of c.deref-in-Replication.result.now) = subst (λ l. AreSizedAlone (expressions_of l)) (sym c.deref-in-Replication.ensures.value) whole.2 in
    let whole_levels : levels_of (expression_of c.args.expr.now) ≡ 1 + levels_of_parts (expressions_of c.in-Replication.parts.items) = ap levels_of same in
    let part_levels' = ap (λ l. levels_of_parts (expressions_of l)) c.deref-in-Replication.ensures.value in
    (omega (arith, whole_levels, part_levels', c.decreases), sized)

pub push_read-returns-in_ok-push_parts-in-Concatenation : goal.push_read-returns-in_ok-push_parts-in-Concatenation
push_read-returns-in_ok-push_parts-in-Concatenation t c =
    let same = ap expression_of c.in-Concatenation.is ∙ expression_of-Concatenation c.in-Concatenation.width c.in-Concatenation.signed c.in-Concatenation.parts in
    c.in_ok-push_parts-in-Concatenation.ensures ∙ ap (λ l. map piece_of c.args.pieces.now.items ++ parts_read (expressions_of l)) c.deref-in-Concatenation.ensures.value
    ∙ ap (λ e. map piece_of c.args.pieces.now.items ++ pieces_read e) (sym same)

pub push_read-returns-in_ok-push_parts-in-Replication : goal.push_read-returns-in_ok-push_parts-in-Replication
push_read-returns-in_ok-push_parts-in-Replication t c =
    let same = ap expression_of c.in-Replication.is ∙ expression_of-Replication c.in-Replication.width c.in-Replication.signed c.in-Replication.count c.in-Replication.parts in
    c.in_ok-push_parts-in-Replication.ensures ∙ ap (λ l. map piece_of c.args.pieces.now.items ++ parts_read (expressions_of l)) c.deref-in-Replication.ensures.value
    ∙ ap (λ e. map piece_of c.args.pieces.now.items ++ pieces_read e) (sym same)
