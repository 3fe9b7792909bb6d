use Rattle.std.proofs.Common.{rules, arith, ◌≡◌, ◌+◌, ◌*◌, ◌<◌, ◌≤◌, ◌∙◌, ◌++◌, ap, sym, subst, length, map, max}
use Rattle.four_value.specs.Values.{resized}
use Rattle.v_design.specs.Plain.{expression_of, expressions_of, piece_of, memory_of}
use Rattle.v_design.specs.PlainLemmas.{expression_of-Concatenation, expression_of-Replication}
use Rattle.v_design.specs.Reads.{named_in, named_in_parts}
use Rattle.v_design.specs.Sized.{IsSized, AreSizedAlone, own_width_of_parts, levels_of, levels_of_parts}
use Rattle.v_design.specs.Assignments.{value_at}
use Rattle.v_design.specs.Expressions.{width_of, value_of, parts_value, repeated, memory_pieces}
use Rattle.expr_eval.specs.Operands.{IsThere, AreThere, bits_so_far}
use Rattle.expr_eval.specs.WidthLaws.{AllHold-left, AllHold-right, length-value_of, length-parts_value}
use Rattle.expr_eval.specs.PartsLaws.{equal_widths, factors, part_sized, part_there, parts_more, parts_room, parts_all, part_levels}
use Rattle.expr_eval.proofs.value.+eval.Goals as goal

pub value_in-value_in-requires : goal.value_in-value_in-requires
value_in-value_in-requires g t c κs within =
    let whole = subst (λ e. IsSized (expression_of e)) c.in-BitSelect.is c.requires.sized in
    let named = subst (λ e. AreThere (g.V.Values.values c.args.values.now) (named_in (expression_of e))) c.in-BitSelect.is c.requires.there in
    let sized : IsSized (expression_of c.deref.result.now) = subst (λ e. IsSized (expression_of e)) (sym c.deref.ensures) whole.4 in
    let there : AreThere (g.V.Values.values c.args.values.now) (named_in (expression_of c.deref.result.now)) =
    subst (λ e. AreThere (g.V.Values.values c.args.values.now) (named_in (expression_of e))) (sym c.deref.ensures)
    (AllHold-right (IsThere (g.V.Values.values c.args.values.now)) (map piece_of c.in-BitSelect.vector.pieces) (named_in (expression_of c.in-BitSelect.index.value)) named) in
    let whole_levels : levels_of (expression_of c.args.expr.now) ≡ 1 + levels_of (expression_of c.in-BitSelect.index.value) = ap (λ e. levels_of (expression_of e)) c.in-BitSelect.is in
    let part_levels' = ap (λ e. levels_of (expression_of e)) c.deref.ensures in
    let level : 2 * levels_of (expression_of c.deref.result.now) < 2 * levels_of (expression_of c.args.expr.now) = omega arith in
    search rules

pub value_in-value_in-requires-in-WordSelect : goal.value_in-value_in-requires-in-WordSelect
value_in-value_in-requires-in-WordSelect g t c κs within =
    let whole = subst (λ e. IsSized (expression_of e)) c.in-WordSelect.is c.requires.sized in
    let named = subst (λ e. AreThere (g.V.Values.values c.args.values.now) (named_in (expression_of e))) c.in-WordSelect.is c.requires.there in
    let sized : IsSized (expression_of c.deref-in-WordSelect.result.now) = subst (λ e. IsSized (expression_of e)) (sym c.deref-in-WordSelect.ensures) whole.3 in
    let there : AreThere (g.V.Values.values c.args.values.now) (named_in (expression_of c.deref-in-WordSelect.result.now)) =
    subst (λ e. AreThere (g.V.Values.values c.args.values.now) (named_in (expression_of e))) (sym c.deref-in-WordSelect.ensures)
    (AllHold-left (IsThere (g.V.Values.values c.args.values.now)) (named_in (expression_of c.in-WordSelect.index.value)) (memory_pieces (memory_of c.in-WordSelect.memory)) named) in
    let whole_levels : levels_of (expression_of c.args.expr.now) ≡ 1 + levels_of (expression_of c.in-WordSelect.index.value) = ap (λ e. levels_of (expression_of e)) c.in-WordSelect.is in
    let part_levels' = ap (λ e. levels_of (expression_of e)) c.deref-in-WordSelect.ensures in
    let level : 2 * levels_of (expression_of c.deref-in-WordSelect.result.now) < 2 * levels_of (expression_of c.args.expr.now) = omega arith in
    search rules

pub value_in-value_in-a-requires : goal.value_in-value_in-a-requires
value_in-value_in-a-requires g t c κs within =
    let whole = subst (λ e. IsSized (expression_of e)) c.in-Binary.is c.requires.sized in
    let named = subst (λ e. AreThere (g.V.Values.values c.args.values.now) (named_in (expression_of e))) c.in-Binary.is c.requires.there in
    let sized : IsSized (expression_of c.deref-in-Binary.result.now) = subst (λ e. IsSized (expression_of e)) (sym c.deref-in-Binary.ensures) whole.2 in
    let there : AreThere (g.V.Values.values c.args.values.now) (named_in (expression_of c.deref-in-Binary.result.now)) =
    subst (λ e. AreThere (g.V.Values.values c.args.values.now) (named_in (expression_of e))) (sym c.deref-in-Binary.ensures)
    (AllHold-left (IsThere (g.V.Values.values c.args.values.now)) (named_in (expression_of c.in-Binary.left.value)) (named_in (expression_of c.in-Binary.right.value)) named) in
    let whole_levels : levels_of (expression_of c.args.expr.now) ≡ 1 + max (levels_of (expression_of c.in-Binary.left.value)) (levels_of (expression_of c.in-Binary.right.value)) =
    ap (λ e. levels_of (expression_of e)) c.in-Binary.is in
    let part_levels' = ap (λ e. levels_of (expression_of e)) c.deref-in-Binary.ensures in
    let level : 2 * levels_of (expression_of c.deref-in-Binary.result.now) < 2 * levels_of (expression_of c.args.expr.now) = omega arith in
    search rules

pub value_in-value_in-b-requires : goal.value_in-value_in-b-requires
value_in-value_in-b-requires g t c κs within =
    let whole = subst (λ e. IsSized (expression_of e)) c.in-Binary.is c.requires.sized in
    let named = subst (λ e. AreThere (g.V.Values.values c.args.values.now) (named_in (expression_of e))) c.in-Binary.is c.requires.there in
    let sized : IsSized (expression_of c.deref-in-Binary-2.result.now) = subst (λ e. IsSized (expression_of e)) (sym c.deref-in-Binary-2.ensures) whole.3 in
    let there : AreThere (g.V.Values.values c.args.values.now) (named_in (expression_of c.deref-in-Binary-2.result.now)) =
    subst (λ e. AreThere (g.V.Values.values c.args.values.now) (named_in (expression_of e))) (sym c.deref-in-Binary-2.ensures)
    (AllHold-right (IsThere (g.V.Values.values c.args.values.now)) (named_in (expression_of c.in-Binary.left.value)) (named_in (expression_of c.in-Binary.right.value)) named) in
    let whole_levels : levels_of (expression_of c.args.expr.now) ≡ 1 + max (levels_of (expression_of c.in-Binary.left.value)) (levels_of (expression_of c.in-Binary.right.value)) =
    ap (λ e. levels_of (expression_of e)) c.in-Binary.is in
    let part_levels' = ap (λ e. levels_of (expression_of e)) c.deref-in-Binary-2.ensures in
    let level : 2 * levels_of (expression_of c.deref-in-Binary-2.result.now) < 2 * levels_of (expression_of c.args.expr.now) = omega arith in
    search rules

pub value_in-binary-requires : goal.value_in-binary-requires
value_in-binary-requires g t c = λ needs.
    let values = value_at (g.V.Values.values c.args.values.now) in
    let whole = subst (λ e. IsSized (expression_of e)) c.in-Binary.is c.requires.sized in
    let same : width_of (expression_of c.in-Binary.left.value) ≡ width_of (expression_of c.in-Binary.right.value) =
    equal_widths c.in-Binary.operator c.in-Binary.width c.in-Binary.signed (expression_of c.in-Binary.left.value) (expression_of c.in-Binary.right.value) whole.1 needs in
    ap length c.value_in-a.ensures ∙ length-value_of (value_at (g.V.Values.values c.args.values.now)) (expression_of c.deref-in-Binary.result.now)
    ∙ ap (λ e. width_of (expression_of e)) c.deref-in-Binary.ensures ∙ same ∙ sym (ap (λ e. width_of (expression_of e)) c.deref-in-Binary-2.ensures)
    ∙ sym (ap length c.value_in-b.ensures ∙ length-value_of (value_at (g.V.Values.values c.args.values.now)) (expression_of c.deref-in-Binary-2.result.now))

pub value_in-value_in-c-requires : goal.value_in-value_in-c-requires
value_in-value_in-c-requires g t c κs within =
    let whole = subst (λ e. IsSized (expression_of e)) c.in-Conditional.is c.requires.sized in
    let named = subst (λ e. AreThere (g.V.Values.values c.args.values.now) (named_in (expression_of e))) c.in-Conditional.is c.requires.there in
    let sized : IsSized (expression_of c.deref-in-Conditional.result.now) = subst (λ e. IsSized (expression_of e)) (sym c.deref-in-Conditional.ensures) whole.4 in
    let there : AreThere (g.V.Values.values c.args.values.now) (named_in (expression_of c.deref-in-Conditional.result.now)) =
    subst (λ e. AreThere (g.V.Values.values c.args.values.now) (named_in (expression_of e))) (sym c.deref-in-Conditional.ensures)
    (AllHold-left (IsThere (g.V.Values.values c.args.values.now)) (named_in (expression_of c.in-Conditional.condition.value))
    (named_in (expression_of c.in-Conditional.first.value) ++ named_in (expression_of c.in-Conditional.second.value)) named) in
    let whole_levels : levels_of (expression_of c.args.expr.now) ≡ 1 + max (levels_of (expression_of c.in-Conditional.condition.value))
    (max (levels_of (expression_of c.in-Conditional.first.value)) (levels_of (expression_of c.in-Conditional.second.value))) = ap (λ e. levels_of (expression_of e)) c.in-Conditional.is in
    let part_levels' = ap (λ e. levels_of (expression_of e)) c.deref-in-Conditional.ensures in
    let level : 2 * levels_of (expression_of c.deref-in-Conditional.result.now) < 2 * levels_of (expression_of c.args.expr.now) = omega arith in
    search rules

pub value_in-value_in-a-requires-in-Conditional : goal.value_in-value_in-a-requires-in-Conditional
value_in-value_in-a-requires-in-Conditional g t c κs within =
    let whole = subst (λ e. IsSized (expression_of e)) c.in-Conditional.is c.requires.sized in
    let named = subst (λ e. AreThere (g.V.Values.values c.args.values.now) (named_in (expression_of e))) c.in-Conditional.is c.requires.there in
    let sized : IsSized (expression_of c.deref-in-Conditional-2.result.now) = subst (λ e. IsSized (expression_of e)) (sym c.deref-in-Conditional-2.ensures) whole.5 in
    let there : AreThere (g.V.Values.values c.args.values.now) (named_in (expression_of c.deref-in-Conditional-2.result.now)) =
    subst (λ e. AreThere (g.V.Values.values c.args.values.now) (named_in (expression_of e))) (sym c.deref-in-Conditional-2.ensures)
    (AllHold-left (IsThere (g.V.Values.values c.args.values.now)) (named_in (expression_of c.in-Conditional.first.value)) (named_in (expression_of c.in-Conditional.second.value))
    (AllHold-right (IsThere (g.V.Values.values c.args.values.now)) (named_in (expression_of c.in-Conditional.condition.value))
    (named_in (expression_of c.in-Conditional.first.value) ++ named_in (expression_of c.in-Conditional.second.value)) named)) in
    let whole_levels : levels_of (expression_of c.args.expr.now) ≡ 1 + max (levels_of (expression_of c.in-Conditional.condition.value))
    (max (levels_of (expression_of c.in-Conditional.first.value)) (levels_of (expression_of c.in-Conditional.second.value))) = ap (λ e. levels_of (expression_of e)) c.in-Conditional.is in
    let part_levels' = ap (λ e. levels_of (expression_of e)) c.deref-in-Conditional-2.ensures in
    let level : 2 * levels_of (expression_of c.deref-in-Conditional-2.result.now) < 2 * levels_of (expression_of c.args.expr.now) = omega arith in
    search rules

pub value_in-value_in-b-requires-in-Conditional : goal.value_in-value_in-b-requires-in-Conditional
value_in-value_in-b-requires-in-Conditional g t c κs within =
    let whole = subst (λ e. IsSized (expression_of e)) c.in-Conditional.is c.requires.sized in
    let named = subst (λ e. AreThere (g.V.Values.values c.args.values.now) (named_in (expression_of e))) c.in-Conditional.is c.requires.there in
    let sized : IsSized (expression_of c.deref-in-Conditional-3.result.now) = subst (λ e. IsSized (expression_of e)) (sym c.deref-in-Conditional-3.ensures) whole.6 in
    let there : AreThere (g.V.Values.values c.args.values.now) (named_in (expression_of c.deref-in-Conditional-3.result.now)) =
    subst (λ e. AreThere (g.V.Values.values c.args.values.now) (named_in (expression_of e))) (sym c.deref-in-Conditional-3.ensures)
    (AllHold-right (IsThere (g.V.Values.values c.args.values.now)) (named_in (expression_of c.in-Conditional.first.value)) (named_in (expression_of c.in-Conditional.second.value))
    (AllHold-right (IsThere (g.V.Values.values c.args.values.now)) (named_in (expression_of c.in-Conditional.condition.value))
    (named_in (expression_of c.in-Conditional.first.value) ++ named_in (expression_of c.in-Conditional.second.value)) named)) in
    let whole_levels : levels_of (expression_of c.args.expr.now) ≡ 1 + max (levels_of (expression_of c.in-Conditional.condition.value))
    (max (levels_of (expression_of c.in-Conditional.first.value)) (levels_of (expression_of c.in-Conditional.second.value))) = ap (λ e. levels_of (expression_of e)) c.in-Conditional.is in
    let part_levels' = ap (λ e. levels_of (expression_of e)) c.deref-in-Conditional-3.ensures in
    let level : 2 * levels_of (expression_of c.deref-in-Conditional-3.result.now) < 2 * levels_of (expression_of c.args.expr.now) = omega arith in
    search rules

pub value_in-chosen-requires : goal.value_in-chosen-requires
value_in-chosen-requires g t c =
    let whole = subst (λ e. IsSized (expression_of e)) c.in-Conditional.is c.requires.sized in
    ap length c.value_in-a-in-Conditional.ensures ∙ length-value_of (value_at (g.V.Values.values c.args.values.now)) (expression_of c.deref-in-Conditional-2.result.now)
    ∙ ap (λ e. width_of (expression_of e)) c.deref-in-Conditional-2.ensures ∙ whole.2.0 ∙ sym whole.3.0 ∙ sym (ap (λ e. width_of (expression_of e)) c.deref-in-Conditional-3.ensures)
    ∙ sym (ap length c.value_in-b-in-Conditional.ensures ∙ length-value_of (value_at (g.V.Values.values c.args.values.now)) (expression_of c.deref-in-Conditional-3.result.now))

pub value_in-parts_bits-requires : goal.value_in-parts_bits-requires
value_in-parts_bits-requires g t c κs within =
    let same = ap expression_of c.in-Concatenation.is ∙ expression_of-Concatenation c.in-Concatenation.width c.in-Concatenation.signed c.in-Concatenation.parts in
    let whole = subst IsSized same c.requires.sized in
    let named = subst (λ e. AreThere (g.V.Values.values c.args.values.now) (named_in e)) same c.requires.there in
    let sized : AreSizedAlone (expressions_of c.deref-in-Concatenation.result.now) = subst (λ l. AreSizedAlone (expressions_of l)) (sym c.deref-in-Concatenation.ensures.value) whole.2 in
    let there : AreThere (g.V.Values.values c.args.values.now) (named_in_parts (expressions_of c.deref-in-Concatenation.result.now)) =
    subst (λ l. AreThere (g.V.Values.values c.args.values.now) (named_in_parts (expressions_of l))) (sym c.deref-in-Concatenation.ensures.value) named in
    let some : 1 ≤ own_width_of_parts (expressions_of c.deref-in-Concatenation.result.now) =
    subst (λ l. 1 ≤ own_width_of_parts (expressions_of l)) (sym c.deref-in-Concatenation.ensures.value) whole.0.0 in
    let few' : own_width_of_parts (expressions_of c.in-Concatenation.parts.items) ≤ 128 = omega (arith, whole.0.1, whole.0.2) in
    let few : own_width_of_parts (expressions_of c.deref-in-Concatenation.result.now) ≤ 128 =
    subst (λ l. own_width_of_parts (expressions_of l) ≤ 128) (sym c.deref-in-Concatenation.ensures.value) few' in
    let whole_levels : levels_of (expression_of c.args.expr.now) ≡ 1 + levels_of_parts (expressions_of c.in-Concatenation.parts.items) = ap levels_of same in
    let part_levels' = ap (λ l. levels_of_parts (expressions_of l)) c.deref-in-Concatenation.ensures.value in
    let level : 2 * levels_of_parts (expressions_of c.deref-in-Concatenation.result.now) + 1 < 2 * levels_of (expression_of c.args.expr.now) = omega arith in
    search rules

pub value_in-parts_bits-requires-in-Replication : goal.value_in-parts_bits-requires-in-Replication
value_in-parts_bits-requires-in-Replication g t c κs within =
    let same = ap expression_of c.in-Replication.is ∙ expression_of-Replication c.in-Replication.width c.in-Replication.signed c.in-Replication.count c.in-Replication.parts in
    let whole = subst IsSized same c.requires.sized in
    let named = subst (λ e. AreThere (g.V.Values.values c.args.values.now) (named_in e)) same c.requires.there in
    let product : c.in-Replication.count * own_width_of_parts (expressions_of c.in-Replication.parts.items) ≤ 128 = omega (arith, whole.0.1, whole.0.2) in
    let parts = factors c.in-Replication.count (own_width_of_parts (expressions_of c.in-Replication.parts.items)) whole.0.0 product in
    let sized : AreSizedAlone (expressions_of c.deref-in-Replication.result.now) = subst (λ l. AreSizedAlone (expressions_of l)) (sym c.deref-in-Replication.ensures.value) whole.2 in
    let there : AreThere (g.V.Values.values c.args.values.now) (named_in_parts (expressions_of c.deref-in-Replication.result.now)) =
    subst (λ l. AreThere (g.V.Values.values c.args.values.now) (named_in_parts (expressions_of l))) (sym c.deref-in-Replication.ensures.value) named in
    let some : 1 ≤ own_width_of_parts (expressions_of c.deref-in-Replication.result.now) =
    subst (λ l. 1 ≤ own_width_of_parts (expressions_of l)) (sym c.deref-in-Replication.ensures.value) parts.own_some in
    let few : own_width_of_parts (expressions_of c.deref-in-Replication.result.now) ≤ 128 =
    subst (λ l. own_width_of_parts (expressions_of l) ≤ 128) (sym c.deref-in-Replication.ensures.value) parts.own_few in
    let whole_levels : levels_of (expression_of c.args.expr.now) ≡ 1 + levels_of_parts (expressions_of c.in-Replication.parts.items) = ap levels_of same in
    let part_levels' = ap (λ l. levels_of_parts (expressions_of l)) c.deref-in-Replication.ensures.value in
    let level : 2 * levels_of_parts (expressions_of c.deref-in-Replication.result.now) + 1 < 2 * levels_of (expression_of c.args.expr.now) = omega arith in
    search rules

pub value_in-repeated_bits-requires-clause-few : goal.value_in-repeated_bits-requires-clause-few
value_in-repeated_bits-requires-clause-few g t c =
    let same = ap expression_of c.in-Replication.is ∙ expression_of-Replication c.in-Replication.width c.in-Replication.signed c.in-Replication.count c.in-Replication.parts in
    let whole = subst IsSized same c.requires.sized in
    let own : length c.parts_bits-in-Replication.result ≡ own_width_of_parts (expressions_of c.in-Replication.parts.items) =
    ap length c.parts_bits-in-Replication.ensures ∙ ap (λ l. length (parts_value (value_at (g.V.Values.values c.args.values.now)) (expressions_of l))) c.deref-in-Replication.ensures.value
    ∙ length-parts_value (value_at (g.V.Values.values c.args.values.now)) (expressions_of c.in-Replication.parts.items) whole.2 in
    let product : c.in-Replication.count * own_width_of_parts (expressions_of c.in-Replication.parts.items) ≤ 128 = omega (arith, whole.0.1, whole.0.2) in
    subst (λ n. c.in-Replication.count * n ≤ 128) (sym own) product

pub value_in-returns-in-Concatenation : goal.value_in-returns-in-Concatenation
value_in-returns-in-Concatenation g t c =
    c.resize_by_sign-in-Concatenation.ensures
    ∙ ap (resized c.in-Concatenation.signed c.in-Concatenation.width)
    (c.parts_bits.ensures ∙ ap (λ l. parts_value (value_at (g.V.Values.values c.args.values.now)) (expressions_of l)) c.deref-in-Concatenation.ensures.value)
    ∙ sym (ap (λ e. value_of (value_at (g.V.Values.values c.args.values.now)) (expression_of e)) c.in-Concatenation.is
    ∙ ap (value_of (value_at (g.V.Values.values c.args.values.now))) (expression_of-Concatenation c.in-Concatenation.width c.in-Concatenation.signed c.in-Concatenation.parts))

pub value_in-returns-in-Replication : goal.value_in-returns-in-Replication
value_in-returns-in-Replication g t c =
    c.resize_by_sign-in-Replication.ensures
    ∙ ap (resized c.in-Replication.signed c.in-Replication.width)
    (c.repeated_bits.ensures ∙ ap (repeated c.in-Replication.count)
    (c.parts_bits-in-Replication.ensures ∙ ap (λ l. parts_value (value_at (g.V.Values.values c.args.values.now)) (expressions_of l)) c.deref-in-Replication.ensures.value))
    ∙ sym (ap (λ e. value_of (value_at (g.V.Values.values c.args.values.now)) (expression_of e)) c.in-Replication.is
    ∙ ap (value_of (value_at (g.V.Values.values c.args.values.now))) (expression_of-Replication c.in-Replication.width c.in-Replication.signed c.in-Replication.count c.in-Replication.parts))

pub parts_bits-value_in-value-requires : goal.parts_bits-value_in-value-requires
parts_bits-value_in-value-requires g t c κs within =
    let sized : IsSized (expression_of c.part-item.result) = subst (λ e. IsSized (expression_of e)) (sym c.part-item.is)
    (part_sized c.args.parts.now c.parts.part-index c.part-item.result c.parts-test.true c.requires.sized).1 in
    let there : AreThere (g.V.Values.values c.args.values.now) (named_in (expression_of c.part-item.result)) =
    subst (λ e. AreThere (g.V.Values.values c.args.values.now) (named_in (expression_of e))) (sym c.part-item.is)
    (part_there (g.V.Values.values c.args.values.now) c.args.parts.now c.parts.part-index c.part-item.result c.parts-test.true c.requires.there) in
    let least : levels_of (expression_of c.part-item.result) ≤ levels_of_parts (expressions_of c.args.parts.now) =
    part_levels c.args.parts.now c.parts.part-index c.part-item.result c.parts-test.true c.part-item.is in
    let level : 2 * levels_of (expression_of c.part-item.result) < 2 * levels_of_parts (expressions_of c.args.parts.now) + 1 = omega arith in
    search rules

pub parts_bits-put_right-requires : goal.parts_bits-put_right-requires
parts_bits-put_right-requires g t c =
    parts_room (value_at (g.V.Values.values c.args.values.now)) c.args.parts.now c.parts.part-index c.part-item.result c.value_in-value.result
    (bits_so_far c.parts.bits) c.parts-test.true c.part-item.is
    c.requires.sized c.requires.few c.value_in-value.ensures c.parts.invariant

pub parts_bits-parts-preserved : goal.parts_bits-parts-preserved
parts_bits-parts-preserved g t c =
    parts_more (value_at (g.V.Values.values c.args.values.now)) c.args.parts.now c.parts.part-index c.part-item.result c.value_in-value.result (bits_so_far c.parts.bits) c.put_right.result
    (parts_value (value_at (g.V.Values.values c.args.values.now)) (expressions_of c.args.parts.now)) c.parts-test.true c.part-item.is c.value_in-value.ensures c.parts.invariant c.put_right.ensures

pub parts_bits-unreachable-requires : goal.parts_bits-unreachable-requires
parts_bits-unreachable-requires g t c =
    let none = parts_all (value_at (g.V.Values.values c.args.values.now)) c.args.parts.now c.parts.part-index (bits_so_far c.parts.bits) c.parts-test.false c.parts.invariant
    ∙ ap bits_so_far c.in-None.is in
    omega (arith, ap length none, length-parts_value (value_at (g.V.Values.values c.args.values.now)) (expressions_of c.args.parts.now) c.requires.sized, c.requires.some)

pub value_in-word_bits-requires-clause-there : goal.value_in-word_bits-requires-clause-there
value_in-word_bits-requires-clause-there g t c =
    AllHold-right (IsThere (g.V.Values.values c.args.values.now)) (named_in (expression_of c.in-WordSelect.index.value)) (memory_pieces (memory_of c.in-WordSelect.memory))
    (subst (λ e. AreThere (g.V.Values.values c.args.values.now) (named_in (expression_of e))) c.in-WordSelect.is c.requires.there)
