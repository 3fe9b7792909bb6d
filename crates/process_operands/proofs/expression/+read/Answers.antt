use Rattle.std.proofs.Common.{rules, arith, ◌≡◌, ◌+◌, ◌*◌, ◌≤◌, ◌∙◌, ◌++◌, [], ◌∷◌, ap, sym, subst, length, get_or, map, drop, length-append}
use Rattle.four_value.specs.Values.{LogicValue, resized, natural_number}
use Rattle.v_design.specs.Plain.{expression_of, expressions_of, vector_of, piece_of}
use Rattle.v_design.specs.PlainLemmas.{expression_of-Concatenation, expression_of-Replication}
use Rattle.v_design.specs.Sized.{IsSized, AreSizedAlone, own_width, own_width_of_parts, levels_of, levels_of_parts}
use Rattle.v_design.specs.Expressions.{Has, width_of, sign_of, read_expression, read_parts, read_slices, slices_at, place_of_number, bit_at_place}
use Rattle.expr_eval.specs.Operands.{bits_so_far}
use Rattle.expr_eval.specs.PartsLaws.{factors, part_sized, part_levels}
use Rattle.process_operands.specs.Sought.{got}
use Rattle.process_operands.specs.ReadLaws.{reads-name, constant-needs, bit-needs, bit-has, then-has, then-needs, parts-more, read_parts-at, own_width-at}
use Rattle.process_operands.proofs.expression.+read.Goals as goal

pub read_bit-returns-in_err-read_value-clause-needs : goal.read_bit-returns-in_err-read_value-clause-needs
read_bit-returns-in_err-read_value-clause-needs t c =
    absurd (constant-needs (expression_of c.args.index.now) (drop c.args.used.now c.args.operands.now) _ (sym c.names_nothing.ensures ∙ c.if-names_nothing.true) c.in_err-read_value.ensures.needs)

pub read_bit-returns-in_err-bit-clause-needs : goal.read_bit-returns-in_err-bit-clause-needs
read_bit-returns-in_err-bit-clause-needs t c =
    let v = c.args.vector.now in
    let index = expression_of c.args.index.now in
    let left = drop c.read_value.new.used c.args.operands.now in
    let number : c.as_natural-number.result ≡ natural_number (sign_of index) c.in_ok-read_value.field-0 = c.as_natural-number.ensures
    ∙ ap (λ s. natural_number s c.in_ok-read_value.field-0) c.is_signed.ensures in
    let needs = bit-needs (vector_of v) index (drop c.args.used.now c.args.operands.now) left c.in_ok-read_value.field-0 _
    (sym c.names_nothing.ensures ∙ c.if-names_nothing.true) c.in_ok-read_value.ensures.has
    (ap (λ n. read_slices (slices_at (place_of_number v.high v.low n ∷ []) 0 (map piece_of v.pieces)) left) (sym number) ∙ c.in_err-bit.ensures.needs) in
    search rules

pub read_bit-returns-in_ok-bit-clause-has : goal.read_bit-returns-in_ok-bit-clause-has
read_bit-returns-in_ok-bit-clause-has t c =
    let v = c.args.vector.now in
    let index = expression_of c.args.index.now in
    let left = drop c.read_value.new.used c.args.operands.now in
    let number : c.as_natural-number.result ≡ natural_number (sign_of index) c.in_ok-read_value.field-0 = c.as_natural-number.ensures
    ∙ ap (λ s. natural_number s c.in_ok-read_value.field-0) c.is_signed.ensures in
    bit-has (vector_of v) index (drop c.args.used.now c.args.operands.now) left (drop c.read_constant_bit.new.used c.args.operands.now) c.in_ok-read_value.field-0 c.in_ok-bit.bit
    (sym c.names_nothing.ensures ∙ c.if-names_nothing.true) c.in_ok-read_value.ensures.has
    (ap (λ n. got (λ bits. bit_at_place bits (place_of_number v.high v.low n)) (read_slices (slices_at (place_of_number v.high v.low n ∷ []) 0 (map piece_of v.pieces)) left)) (sym number)
    ∙ c.in_ok-bit.ensures.has)

pub read_value-read_joined-requires : goal.read_value-read_joined-requires
read_value-read_joined-requires t c =
    let same = ap expression_of c.in-Concatenation.is ∙ expression_of-Concatenation c.in-Concatenation.width c.in-Concatenation.signed c.in-Concatenation.parts in
    let whole = subst IsSized same c.requires in
    let sized : AreSizedAlone (expressions_of c.deref-in-Concatenation.result.now) = subst (λ l. AreSizedAlone (expressions_of l)) (sym c.deref-in-Concatenation.ensures.value) whole.2 in
    let some : 1 ≤ own_width_of_parts (expressions_of c.deref-in-Concatenation.result.now) =
    subst (λ l. 1 ≤ own_width_of_parts (expressions_of l)) (sym c.deref-in-Concatenation.ensures.value) whole.0.0 in
    let few' : own_width_of_parts (expressions_of c.in-Concatenation.parts.items) ≤ 128 = omega (arith, whole.0.1, whole.0.2) in
    let few : own_width_of_parts (expressions_of c.deref-in-Concatenation.result.now) ≤ 128 =
    subst (λ l. own_width_of_parts (expressions_of l) ≤ 128) (sym c.deref-in-Concatenation.ensures.value) few' in
    let whole_levels : levels_of (expression_of c.args.expr.now) ≡ 1 + levels_of_parts (expressions_of c.in-Concatenation.parts.items) = ap levels_of same in
    let part_levels' = ap (λ l. levels_of_parts (expressions_of l)) c.deref-in-Concatenation.ensures.value in
    (omega (arith, whole_levels, part_levels', c.decreases), (sized, (some, few)))

pub read_value-read_joined-requires-in-Replication : goal.read_value-read_joined-requires-in-Replication
read_value-read_joined-requires-in-Replication t c =
    let same = ap expression_of c.in-Replication.is ∙ expression_of-Replication c.in-Replication.width c.in-Replication.signed c.in-Replication.count c.in-Replication.parts in
    let whole = subst IsSized same c.requires in
    let product : c.in-Replication.count * own_width_of_parts (expressions_of c.in-Replication.parts.items) ≤ 128 = omega (arith, whole.0.1, whole.0.2) in
    let parts = factors c.in-Replication.count (own_width_of_parts (expressions_of c.in-Replication.parts.items)) whole.0.0 product in
    let sized : AreSizedAlone (expressions_of c.deref-in-Replication.result.now) = subst (λ l. AreSizedAlone (expressions_of l)) (sym c.deref-in-Replication.ensures.value) whole.2 in
    let some : 1 ≤ own_width_of_parts (expressions_of c.deref-in-Replication.result.now) =
    subst (λ l. 1 ≤ own_width_of_parts (expressions_of l)) (sym c.deref-in-Replication.ensures.value) parts.own_some in
    let few : own_width_of_parts (expressions_of c.deref-in-Replication.result.now) ≤ 128 =
    subst (λ l. own_width_of_parts (expressions_of l) ≤ 128) (sym c.deref-in-Replication.ensures.value) parts.own_few in
    let whole_levels : levels_of (expression_of c.args.expr.now) ≡ 1 + levels_of_parts (expressions_of c.in-Replication.parts.items) = ap levels_of same in
    let part_levels' = ap (λ l. levels_of_parts (expressions_of l)) c.deref-in-Replication.ensures.value in
    (omega (arith, whole_levels, part_levels', c.decreases), (sized, (some, few)))

pub read_value-returns-in_err-bits-in-Concatenation-clause-needs : goal.read_value-returns-in_err-bits-in-Concatenation-clause-needs
read_value-returns-in_err-bits-in-Concatenation-clause-needs t c =
    let same = ap expression_of c.in-Concatenation.is ∙ expression_of-Concatenation c.in-Concatenation.width c.in-Concatenation.signed c.in-Concatenation.parts in
    let ops = drop c.args.used.now c.args.operands.now in
    let needs = ap (λ e. read_expression e ops) same
    ∙ then-needs (read_parts (expressions_of c.in-Concatenation.parts.items) ops) _ _ (ap (λ l. read_parts (expressions_of l) ops) (sym c.deref-in-Concatenation.ensures.value)
    ∙ c.in_err-bits-in-Concatenation.ensures.needs) in
    search rules

pub read_value-returns-in_err-bits-in-Replication-clause-needs : goal.read_value-returns-in_err-bits-in-Replication-clause-needs
read_value-returns-in_err-bits-in-Replication-clause-needs t c =
    let same = ap expression_of c.in-Replication.is ∙ expression_of-Replication c.in-Replication.width c.in-Replication.signed c.in-Replication.count c.in-Replication.parts in
    let ops = drop c.args.used.now c.args.operands.now in
    let needs = ap (λ e. read_expression e ops) same
    ∙ then-needs (read_parts (expressions_of c.in-Replication.parts.items) ops) _ _ (ap (λ l. read_parts (expressions_of l) ops) (sym c.deref-in-Replication.ensures.value)
    ∙ c.in_err-bits-in-Replication.ensures.needs) in
    search rules

pub read_value-returns-in_ok-bits-in-Concatenation-clause-has : goal.read_value-returns-in_ok-bits-in-Concatenation-clause-has
read_value-returns-in_ok-bits-in-Concatenation-clause-has t c =
    let same = ap expression_of c.in-Concatenation.is ∙ expression_of-Concatenation c.in-Concatenation.width c.in-Concatenation.signed c.in-Concatenation.parts in
    let ops = drop c.args.used.now c.args.operands.now in
    ap (λ e. read_expression e ops) same
    ∙ then-has (read_parts (expressions_of c.in-Concatenation.parts.items) ops) _ _ _ (ap (λ l. read_parts (expressions_of l) ops) (sym c.deref-in-Concatenation.ensures.value)
    ∙ c.in_ok-bits-in-Concatenation.ensures.has)
    ∙ ap (λ v. Has v (drop c.read_joined.new.used c.args.operands.now)) (sym c.resize_by_sign-in-Concatenation.ensures)

pub read_value-returns-in_ok-bits-in-Replication-clause-has : goal.read_value-returns-in_ok-bits-in-Replication-clause-has
read_value-returns-in_ok-bits-in-Replication-clause-has t c =
    let same = ap expression_of c.in-Replication.is ∙ expression_of-Replication c.in-Replication.width c.in-Replication.signed c.in-Replication.count c.in-Replication.parts in
    let ops = drop c.args.used.now c.args.operands.now in
    ap (λ e. read_expression e ops) same
    ∙ then-has (read_parts (expressions_of c.in-Replication.parts.items) ops) _ _ _ (ap (λ l. read_parts (expressions_of l) ops) (sym c.deref-in-Replication.ensures.value)
    ∙ c.in_ok-bits-in-Replication.ensures.has)
    ∙ ap (λ v. Has v (drop c.read_joined-in-Replication.new.used c.args.operands.now)) (sym
    (c.resize_by_sign-in-Replication.ensures ∙ ap (resized c.in-Replication.signed c.in-Replication.width) c.repeated_bits.ensures))

pub read_value-repeated_bits-requires-clause-few : goal.read_value-repeated_bits-requires-clause-few
read_value-repeated_bits-requires-clause-few t c =
    let same = ap expression_of c.in-Replication.is ∙ expression_of-Replication c.in-Replication.width c.in-Replication.signed c.in-Replication.count c.in-Replication.parts in
    let whole = subst IsSized same c.requires in
    let own : length c.in_ok-bits-in-Replication.bits ≡ own_width_of_parts (expressions_of c.in-Replication.parts.items) =
    c.in_ok-bits-in-Replication.ensures.width ∙ ap (λ l. own_width_of_parts (expressions_of l)) c.deref-in-Replication.ensures.value in
    let product : c.in-Replication.count * own_width_of_parts (expressions_of c.in-Replication.parts.items) ≤ 128 = omega (arith, whole.0.1, whole.0.2) in
    subst (λ n. c.in-Replication.count * n ≤ 128) (sym own) product

pub read_value-returns-in_ok-bits-in-Name-clause-has : goal.read_value-returns-in_ok-bits-in-Name-clause-has
read_value-returns-in_ok-bits-in-Name-clause-has t c =
    let whole = subst (λ e. IsSized (expression_of e)) c.in-Name.is c.requires in
    ap (λ e. read_expression (expression_of e) (drop c.args.used.now c.args.operands.now)) c.in-Name.is
    ∙ reads-name c.in-Name.width c.in-Name.signed (vector_of c.in-Name.vector) (drop c.args.used.now c.args.operands.now) c.in_ok-bits-in-Name.bits _ whole.0.2 c.in_ok-bits-in-Name.ensures.has
    ∙ ap (λ v. Has v (drop c.read_name.new.used c.args.operands.now)) (sym c.resize_by_sign-in-Name.ensures)

pub read_joined-read_value-requires : goal.read_joined-read_value-requires
read_joined-read_value-requires t c =
    let sized : IsSized (expression_of c.part-item.result) = subst (λ e. IsSized (expression_of e)) (sym c.part-item.is)
    (part_sized c.args.parts.now c.parts.part-index c.part-item.result c.parts-test.true c.requires.sized).1 in
    let least : levels_of (expression_of c.part-item.result) ≤ levels_of_parts (expressions_of c.args.parts.now) =
    part_levels c.args.parts.now c.parts.part-index c.part-item.result c.parts-test.true c.part-item.is in
    (omega (arith, least, c.decreases), sized)

pub read_joined-put_right-requires : goal.read_joined-put_right-requires
read_joined-put_right-requires t c =
    let sized = part_sized c.args.parts.now c.parts.part-index c.part-item.result c.parts-test.true c.requires.sized in
    let own : width_of (expression_of c.part-item.result) ≡ own_width (expression_of (get_or c.args.parts.now c.parts.part-index c.part-item.result)) =
    ap (λ e. width_of (expression_of e)) c.part-item.is ∙ sized.0 in
    omega (arith, c.parts.invariant.width, own_width-at c.args.parts.now c.parts.part-index c.part-item.result c.parts-test.true, own, c.in_ok-value.ensures.width, c.requires.few)

pub read_joined-parts-preserved : goal.read_joined-parts-preserved
read_joined-parts-preserved t c =
    let i = c.parts.part-index in
    let parts = c.args.parts.now in
    let d = c.part-item.result in
    let sized = part_sized parts i d c.parts-test.true c.requires.sized in
    let own : width_of (expression_of d) ≡ own_width (expression_of (get_or parts i d)) = ap (λ e. width_of (expression_of e)) c.part-item.is ∙ sized.0 in
    let bits = bits_so_far c.parts.bits in
    let value = c.in_ok-value.value in
    let ops = drop c.parts.used c.args.operands.now in
    let left = drop c.read_value.new.used c.args.operands.now in
    let has : read_expression (expression_of (get_or parts i d)) ops ≡ Has value left = ap (λ e. read_expression (expression_of e) ops) (sym c.part-item.is) ∙ c.in_ok-value.ensures.has in
    record {
      left = c.parts.invariant.left
          ∙ ap (λ l. got (λ (lower : LogicValue). lower ++ bits) (read_parts l ops)) (read_parts-at parts i d c.parts-test.true)
          ∙ parts-more (expression_of (get_or parts i d)) (expressions_of (drop (i + 1) parts)) ops left value bits has
          ∙ ap (λ (b : LogicValue). got (λ (lower : LogicValue). lower ++ b) (read_parts (expressions_of (drop (i + 1) parts)) left)) (sym c.put_right.ensures);
      width = omega (arith, c.parts.invariant.width, own_width-at parts i d c.parts-test.true, own, c.in_ok-value.ensures.width, ap length c.put_right.ensures, length-append value bits);
    }
