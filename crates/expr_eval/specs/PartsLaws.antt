-- The parts of a sized expression: words, operands and concatenations (IEEE 1364-2001, clause 4.1 and clause 4.4).
use Rattle.std.proofs.Common.{◌≡◌, ℕ, zero, suc, ◌+◌, ◌*◌, ◌-◌, ◌<◌, ◌≤◌, min, Bool, true, false, List, [], ◌∷◌, ◌++◌, length, get_or, drop, map, refl, ap, sym, ◌∙◌, subst, arith, length-append}
use Rattle.std.specs.Prelude.{Option, Some, None, slice_get, nat_le, if◌then◌else◌}
use Rattle.std.proofs.lemmas.List.{drop_more, drop_all, append_assoc}
use Rattle.four_value.specs.Values.{LogicValue}
use Rattle.four_value.specs.Operators.{NeedsEqualWidths}
use Rattle.four_value.specs.declared.operator.BinaryOperator.{BinaryOperator}
use Rattle.four_value.specs.declared.operator.BinaryOperator.TheVariants.{Multiply, Divide, Remainder, Add, Subtract, ShiftLeft, ShiftRight, ArithmeticShiftLeft, ArithmeticShiftRight, Less}
use Rattle.four_value.specs.declared.operator.BinaryOperator.TheVariants.{LessEqual, Greater, GreaterEqual, Equal, NotEqual, CaseEqual, CaseNotEqual, BitwiseAnd, BitwiseXor, BitwiseXnor, BitwiseOr}
use Rattle.four_value.specs.declared.operator.BinaryOperator.TheVariants.{LogicalAnd, LogicalOr}
use Rattle.vf_base.specs.Lists.{AllHold}
use Rattle.v_design.specs.Trees.{Memory, Expression}
use Rattle.v_design.specs.declared.tree.FlatExpr.{FlatExpr}
use Rattle.v_design.specs.Plain.{expression_of, expressions_of}
use Rattle.v_design.specs.Reads.{named_in, named_in_parts}
use Rattle.v_design.specs.Sized.{IsSized, IsAlone, AreSizedAlone, BinaryAgrees, binary_sizing, own_width_of_parts, levels_of, levels_of_parts}
use Rattle.v_design.specs.Expressions.{width_of, value_of, parts_value, word_at, memory_pieces}
use Rattle.expr_eval.specs.Operands.{IsThere, AreThere}
use Rattle.expr_eval.specs.WidthLaws.{AllHold-left, AllHold-right, length-parts_value}

word_of : (values : List LogicValue) (width : ℕ) (words : List ℕ) (k o : ℕ) → AllHold (IsThere values) (map (λ word. record { object = word; width = width }) words) → slice_get words k ≡ Some o →
    o < length values
word_of values width [] k o there e = absurd (cc)
word_of values width (w ∷ words) zero o there e = let same : w ≡ o = cc in subst (λ x. x < length values) same there.0.0
word_of values width (w ∷ words) (suc k) o there e = word_of values width words k o there.1 e

-- a word that an index selects has a value
pub word_there : (values : List LogicValue) (memory : Memory) (index : Option ℕ) (o : ℕ) → AreThere values (memory_pieces memory) → word_at memory index ≡ Some o → o < length values
word_there values memory None o there e = absurd (cc)
word_there values memory (Some address) o there e =
    elim (nat_le (min memory.first memory.last) address) as (λ b. (if b then slice_get memory.words (address - min memory.first memory.last) else None) ≡ Some o → o < length values) [
      | true ↦ λ h. word_of values memory.width memory.words (address - min memory.first memory.last) o there h
      | false ↦ λ h. absurd (cc)
    ] e

-- operands that have to be equally wide are
pub equal_widths : (operator : BinaryOperator) (width : ℕ) (signed : Bool) (a b : Expression) → BinaryAgrees (binary_sizing operator) width signed a b → NeedsEqualWidths operator →
    width_of a ≡ width_of b
equal_widths Multiply width signed a b h n = h.0.0 ∙ sym h.1.0
equal_widths Divide width signed a b h n = h.0.0 ∙ sym h.1.0
equal_widths Remainder width signed a b h n = h.0.0 ∙ sym h.1.0
equal_widths Add width signed a b h n = h.0.0 ∙ sym h.1.0
equal_widths Subtract width signed a b h n = h.0.0 ∙ sym h.1.0
equal_widths ShiftLeft width signed a b h n = absurd n
equal_widths ShiftRight width signed a b h n = absurd n
equal_widths ArithmeticShiftLeft width signed a b h n = absurd n
equal_widths ArithmeticShiftRight width signed a b h n = absurd n
equal_widths Less width signed a b h n = sym h.2
equal_widths LessEqual width signed a b h n = sym h.2
equal_widths Greater width signed a b h n = sym h.2
equal_widths GreaterEqual width signed a b h n = sym h.2
equal_widths Equal width signed a b h n = sym h.2
equal_widths NotEqual width signed a b h n = sym h.2
equal_widths CaseEqual width signed a b h n = sym h.2
equal_widths CaseNotEqual width signed a b h n = sym h.2
equal_widths BitwiseAnd width signed a b h n = h.0.0 ∙ sym h.1.0
equal_widths BitwiseXor width signed a b h n = h.0.0 ∙ sym h.1.0
equal_widths BitwiseXnor width signed a b h n = h.0.0 ∙ sym h.1.0
equal_widths BitwiseOr width signed a b h n = h.0.0 ∙ sym h.1.0
equal_widths LogicalAnd width signed a b h n = absurd n
equal_widths LogicalOr width signed a b h n = absurd n

-- a count and a size whose product is within the most bits
pub record Factors (count own : ℕ) : Type 0 where
  pub count_some : 1 ≤ count
  pub own_some : 1 ≤ own
  pub own_few : own ≤ 128

pub factors : (count own : ℕ) → 1 ≤ count * own → count * own ≤ 128 → Factors count own
factors zero own low high = absurd (omega arith)
factors (suc count) zero low high = absurd (omega arith)
factors (suc count) (suc own) low high = record { count_some = omega arith; own_some = omega arith; own_few = at_most count (suc own) high }
  where
    at_most : (count own : ℕ) → suc count * own ≤ 128 → own ≤ 128
    at_most count own h = omega arith

-- each part of a concatenation is sized alone
pub part_sized : (parts : List FlatExpr) (i : ℕ) (p : FlatExpr) → i < length parts → AreSizedAlone (expressions_of parts) →
    IsAlone (expression_of (get_or parts i p)) × IsSized (expression_of (get_or parts i p))
part_sized [] i p low h = absurd (omega arith)
part_sized (q ∷ parts) zero p low h = (h.0, h.1)
part_sized (q ∷ parts) (suc i) p low h = part_sized parts i p (omega arith) h.2

-- what a part names has values
pub part_there : (values : List LogicValue) (parts : List FlatExpr) (i : ℕ) (p : FlatExpr) → i < length parts → AreThere values (named_in_parts (expressions_of parts)) →
    AreThere values (named_in (expression_of (get_or parts i p)))
part_there values [] i p low h = absurd (omega arith)
part_there values (q ∷ parts) zero p low h = AllHold-left (IsThere values) (named_in (expression_of q)) (named_in_parts (expressions_of parts)) h
part_there values (q ∷ parts) (suc i) p low h = part_there values parts i p (omega arith) (AllHold-right (IsThere values) (named_in (expression_of q)) (named_in_parts (expressions_of parts)) h)

parts_step : (values : ℕ → LogicValue) (parts : List FlatExpr) (i : ℕ) (p : FlatExpr) → i < length parts → p ≡ get_or parts i p →
    parts_value values (expressions_of (drop i parts)) ≡ parts_value values (expressions_of (drop (i + 1) parts)) ++ value_of values (expression_of p)
parts_step values parts i p low at =
    ap (λ l. parts_value values (expressions_of l)) (drop_more parts i p low)
    ∙ ap (λ q. parts_value values (expressions_of (drop (i + 1) parts)) ++ value_of values (expression_of q)) (sym at)

-- one more part on the right
pub parts_more : (values : ℕ → LogicValue) (parts : List FlatExpr) (i : ℕ) (p : FlatExpr) (value bits later all : LogicValue) → i < length parts → p ≡ get_or parts i p →
    value ≡ value_of values (expression_of p) → all ≡ parts_value values (expressions_of (drop i parts)) ++ bits → later ≡ value ++ bits →
    all ≡ parts_value values (expressions_of (drop (i + 1) parts)) ++ later
parts_more values parts i p value bits later all low at is had put =
    had ∙ ap (λ l. l ++ bits) (parts_step values parts i p low at)
    ∙ append_assoc (parts_value values (expressions_of (drop (i + 1) parts))) (value_of values (expression_of p)) bits
    ∙ ap (λ v. parts_value values (expressions_of (drop (i + 1) parts)) ++ (v ++ bits)) (sym is)
    ∙ ap (λ l. parts_value values (expressions_of (drop (i + 1) parts)) ++ l) (sym put)

-- there is room for it
pub parts_room : (values : ℕ → LogicValue) (parts : List FlatExpr) (i : ℕ) (p : FlatExpr) (value bits : LogicValue) → i < length parts → p ≡ get_or parts i p →
    AreSizedAlone (expressions_of parts) → own_width_of_parts (expressions_of parts) ≤ 128 → value ≡ value_of values (expression_of p) →
    parts_value values (expressions_of parts) ≡ parts_value values (expressions_of (drop i parts)) ++ bits → length bits + length value ≤ 128
parts_room values parts i p value bits low at sized few is had =
    let more = parts_more values parts i p value bits (value ++ bits) (parts_value values (expressions_of parts)) low at is had refl in
    omega (
      arith,
      ap length more,
      length-append (parts_value values (expressions_of (drop (i + 1) parts))) (value ++ bits),
      length-append value bits,
      length-parts_value values (expressions_of parts) sized,
    )

-- with no part left, what there is so far is all
pub parts_all : (values : ℕ → LogicValue) (parts : List FlatExpr) (i : ℕ) (bits : LogicValue) → length parts ≤ i →
    parts_value values (expressions_of parts) ≡ parts_value values (expressions_of (drop i parts)) ++ bits → parts_value values (expressions_of parts) ≡ bits
parts_all values parts i bits past had = had ∙ ap (λ l. parts_value values (expressions_of l) ++ bits) (drop_all i parts past)

levels_at : (parts : List FlatExpr) (i : ℕ) (p : FlatExpr) → i < length parts → levels_of (expression_of (get_or parts i p)) ≤ levels_of_parts (expressions_of parts)
levels_at [] i p low = absurd (omega arith)
levels_at (q ∷ parts) zero p low = omega arith
levels_at (q ∷ parts) (suc i) p low = let rest : levels_of (expression_of (get_or parts i p)) ≤ levels_of_parts (expressions_of parts) = levels_at parts i p (omega arith) in omega arith

-- a part has at most the levels of all parts
pub part_levels : (parts : List FlatExpr) (i : ℕ) (p : FlatExpr) → i < length parts → p ≡ get_or parts i p → levels_of (expression_of p) ≤ levels_of_parts (expressions_of parts)
part_levels parts i p low at = subst (λ e. levels_of (expression_of e) ≤ levels_of_parts (expressions_of parts)) (sym at) (levels_at parts i p low)
