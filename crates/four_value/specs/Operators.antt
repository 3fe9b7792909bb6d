-- What each operator of an expression answers, and how a case matches (IEEE 1364-2001, clause 4.1 and clause 9.5).
use Rattle.std.specs.Prelude.{Bool, false, not, ◌||◌, [], ◌∷◌}
use Rattle.four_value.specs.Bits.{is_z, is_unknown, same_bit, bit_of, not_bit, and_bit, or_bit, xor_bit}
use Rattle.four_value.specs.Values.{LogicValue, each_place, sum_of, difference_of, product_of, quotient_of, remainder_of, negated, plus_value, less_than, at_most, logical_equality, same_value}
use Rattle.four_value.specs.Values.{truth_of, truth_bit, and_value, or_value, xor_value, not_value, reduced, shifted_left, shifted_right}
use Rattle.four_value.specs.declared.logic.Bit.{Bit}
use Rattle.four_value.specs.declared.logic.Bit.TheVariants.{Zero, One}
use Rattle.four_value.specs.declared.operator.CaseKind.{CaseKind}
use Rattle.four_value.specs.declared.operator.CaseKind.TheVariants.{Exact, IgnoreZ, IgnoreXz}
use Rattle.four_value.specs.declared.operator.UnaryOperator.{UnaryOperator}
use Rattle.four_value.specs.declared.operator.UnaryOperator.TheVariants.{Plus, Minus, LogicalNot, BitwiseNot, ReduceAnd, ReduceNand, ReduceOr, ReduceNor, ReduceXor, ReduceXnor}
use Rattle.four_value.specs.declared.operator.BinaryOperator.{BinaryOperator}
use Rattle.four_value.specs.declared.operator.BinaryOperator.TheVariants.{Multiply, Divide, Remainder, Add, Subtract, ShiftLeft, ShiftRight, ArithmeticShiftLeft, ArithmeticShiftRight, Less}
use Rattle.four_value.specs.declared.operator.BinaryOperator.TheVariants.{LessEqual, Greater, GreaterEqual, Equal, NotEqual, CaseEqual, CaseNotEqual, BitwiseAnd, BitwiseXor, BitwiseXnor, BitwiseOr}
use Rattle.four_value.specs.declared.operator.BinaryOperator.TheVariants.{LogicalAnd, LogicalOr}

-- what a value says as a condition, as a bit
abbrev pub truth_as_bit : LogicValue → Bit
truth_as_bit a = truth_bit (truth_of a)

-- the answer of an operator with one operand, before it is brought to its width
abbrev pub unary_value : UnaryOperator → LogicValue → LogicValue
unary_value Plus a = plus_value a
unary_value Minus a = negated a
unary_value LogicalNot a = not_bit (truth_as_bit a) ∷ []
unary_value BitwiseNot a = not_value a
unary_value ReduceAnd a = reduced and_bit One a ∷ []
unary_value ReduceNand a = not_bit (reduced and_bit One a) ∷ []
unary_value ReduceOr a = reduced or_bit Zero a ∷ []
unary_value ReduceNor a = not_bit (reduced or_bit Zero a) ∷ []
unary_value ReduceXor a = reduced xor_bit Zero a ∷ []
unary_value ReduceXnor a = not_bit (reduced xor_bit Zero a) ∷ []

-- the operators whose operands have one width: all but the shifts, && and ||
abbrev pub NeedsEqualWidths : BinaryOperator → Type 0
NeedsEqualWidths ShiftLeft = ⊥
NeedsEqualWidths ShiftRight = ⊥
NeedsEqualWidths ArithmeticShiftLeft = ⊥
NeedsEqualWidths ArithmeticShiftRight = ⊥
NeedsEqualWidths LogicalAnd = ⊥
NeedsEqualWidths LogicalOr = ⊥
NeedsEqualWidths _ = Unit {0}

-- the sign is that of the left operand
abbrev pub binary_value : BinaryOperator → Bool → LogicValue → LogicValue → LogicValue
binary_value Multiply signed a b = product_of a b
binary_value Divide signed a b = quotient_of signed a b
binary_value Remainder signed a b = remainder_of signed a b
binary_value Add signed a b = sum_of a b
binary_value Subtract signed a b = difference_of a b
binary_value ShiftLeft signed a b = shifted_left a b
binary_value ShiftRight signed a b = shifted_right false a b
binary_value ArithmeticShiftLeft signed a b = shifted_left a b
binary_value ArithmeticShiftRight signed a b = shifted_right signed a b
binary_value Less signed a b = less_than signed a b ∷ []
binary_value LessEqual signed a b = at_most signed a b ∷ []
binary_value Greater signed a b = less_than signed b a ∷ []
binary_value GreaterEqual signed a b = at_most signed b a ∷ []
binary_value Equal signed a b = logical_equality a b ∷ []
binary_value NotEqual signed a b = not_bit (logical_equality a b) ∷ []
binary_value CaseEqual signed a b = bit_of (same_value a b) ∷ []
binary_value CaseNotEqual signed a b = bit_of (not (same_value a b)) ∷ []
binary_value BitwiseAnd signed a b = and_value a b
binary_value BitwiseXor signed a b = xor_value a b
binary_value BitwiseXnor signed a b = not_value (xor_value a b)
binary_value BitwiseOr signed a b = or_value a b
binary_value LogicalAnd signed a b = and_bit (truth_as_bit a) (truth_as_bit b) ∷ []
binary_value LogicalOr signed a b = or_bit (truth_as_bit a) (truth_as_bit b) ∷ []

-- whether a case doesn't look at a place with these bits: casez where either is z, casex where either is x or z
abbrev pub is_ignored : CaseKind → Bit → Bit → Bool
is_ignored Exact a b = false
is_ignored IgnoreZ a b = is_z a || is_z b
is_ignored IgnoreXz a b = is_unknown a || is_unknown b

-- whether one place of a case's value matches that of a label
abbrev pub label_bit_matches : CaseKind → Bit → Bit → Bool
label_bit_matches kind a b = is_ignored kind a b || same_bit a b

-- whether a case's value matches a label, place by place
abbrev pub label_matches : CaseKind → LogicValue → LogicValue → Bool
label_matches kind a b = each_place (label_bit_matches kind) a b
