-- Constants that are read once: what is sized alone has its value, the rest takes the width and the sign of the whole (IEEE 1364-2001, clause 4.4).
use Rattle.std.specs.Prelude.{◌≡◌, ℕ, ◌+◌, ◌≤◌, ◌<◌, Bool, false, cond, ◌++◌, length, Option, Some, None, nat_le, ◌&&◌}
use Rattle.four_value.specs.Values.{LogicValue, IsWidth, resized, chosen_value, truth_of, shifted_left, shifted_right}
use Rattle.four_value.specs.Operators.{unary_value, binary_value}
use Rattle.four_value.specs.declared.operator.BinaryOperator.{BinaryOperator}
use Rattle.four_value.specs.declared.operator.BinaryOperator.TheVariants.{ShiftRight, ArithmeticShiftRight}
use Rattle.v_design.specs.Sized.{most_bits}
use Rattle.v_tree.specs.Trees.{SourceExpression, SourceExpressions, named_in_parts}
use Rattle.v_names.specs.declared.term.Term.{Term}
use Rattle.v_names.specs.declared.term.Term.TheVariants.{Alone, Unary', Binary', Shift', Choice'}
use Rattle.v_names.specs.declared.term.Known.{Known}
use Rattle.v_design.specs.Expressions.{repeated}
use Rattle.v_names.specs.Scopes.{ScopeEntry, ParameterEntry, Scope}
use Rattle.v_names.specs.Readings.{Size, all_known, number_or}
use Rattle.v_names.specs.SizeViews.{size_of}
use Rattle.v_names.specs.OwnSizes.{own_size, parts_width, repeated_size}
use Rattle.v_names.specs.ConstantLaws.{are_known}
use Rattle.v_names.specs.ConstantValues.{value_at, joined_value}

-- what a shift answers
abbrev pub shift_value : BinaryOperator → Bool → LogicValue → LogicValue → LogicValue
shift_value ShiftRight signed bits amount = shifted_right false bits amount
shift_value ArithmeticShiftRight signed bits amount = shifted_right signed bits amount
shift_value _ signed bits amount = shifted_left bits amount

-- the value of a term at a width and a sign
abbrev pub term_value : Term → ℕ → Bool → LogicValue
term_value (Alone value) width signed = resized signed width value
term_value (Unary' operator p operand) width signed = resized signed width (unary_value operator (term_value operand width signed))
term_value (Binary' operator p left q right) width signed = resized signed width (binary_value operator signed (term_value left width signed) (term_value right width signed))
term_value (Shift' operator p left amount) width signed = resized signed width (shift_value operator signed (term_value left width signed) amount)
term_value (Choice' condition p first q second) width signed = resized signed width (chosen_value (truth_of condition) (term_value first width signed) (term_value second width signed))

-- its value at its own size
abbrev pub value_alone : Known → LogicValue
value_alone known = term_value known.term known.size.width known.size.signed

-- the size of a constant; none where a name in it is no parameter with a value
abbrev pub known_size : Scope → SourceExpression → Option Size
known_size scope e = cond (all_known scope e) (own_size scope e) None

-- what is known of a constant is its size, and its value at each width and sign
pub record IsKnown (scope : Scope) (e : SourceExpression) (known : Known) : Type 0 where
  pub size_is : known_size scope e ≡ Some (size_of known.size)
  pub value_is : (width : ℕ) (signed : Bool) → term_value known.term width signed ≡ value_at scope e width signed
  pub wide : IsWidth known.size.width

-- what has been read of a constant
abbrev pub IsRead : Scope → SourceExpression → Option Known → Type 0
IsRead scope e None = known_size scope e ≡ None
IsRead scope e (Some known) = IsKnown scope e known

-- a width that is at least 1 and at most the most
abbrev pub fitting : Option ℕ → Option ℕ
fitting None = None
fitting (Some width) = cond (nat_le 1 width && nat_le width most_bits) (Some width) None

-- the width of the parts of a concatenation of constants
abbrev pub known_width : Scope → SourceExpressions → Option ℕ
known_width scope parts = cond (are_known scope (named_in_parts parts)) (parts_width scope parts) None

-- the bits of the parts of a concatenation, none where they have no width or too large a one
abbrev pub AreJoined : Scope → SourceExpressions → Option LogicValue → Type 0
AreJoined scope parts None = fitting (known_width scope parts) ≡ None
AreJoined scope parts (Some bits) = (known_width scope parts ≡ Some (length bits)) × (joined_value scope parts ≡ bits)

-- what a name alone is as a constant: a parameter with a value
abbrev pub IsKnownName : Option ScopeEntry → Option Known → Type 0
IsKnownName (Some (ParameterEntry value signed)) (Some known) = (size_of known.size ≡ record { width = length value; signed = signed }) × (known.term ≡ Alone value) × IsWidth (length value)
IsKnownName (Some (ParameterEntry value signed)) None = ⊥
IsKnownName entry (Some known) = ⊥
IsKnownName entry None = Unit {0}

-- the bits so many times over, where their width fits
abbrev pub IsReplication : Option ℕ → LogicValue → Option Known → Type 0
IsReplication count bits None = repeated_size count (Some (length bits)) ≡ None
IsReplication count bits (Some known) =
    (repeated_size count (Some (length bits)) ≡ Some (size_of known.size)) × (known.term ≡ Alone (repeated (number_or 0 count) bits)) × IsWidth known.size.width

-- bits with some more put on their right, none where they are more than 128
abbrev pub IsLonger : LogicValue → LogicValue → Option LogicValue → Type 0
IsLonger bits more None = most_bits < length bits + length more
IsLonger bits more (Some longer) = (longer ≡ more ++ bits) × (length longer ≤ most_bits)
