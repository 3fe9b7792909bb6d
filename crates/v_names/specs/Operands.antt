-- The value of an operator's answer over those of its operands, each at the size that the operator asks for (IEEE 1364-2001, clause 4.4).
use Rattle.std.specs.Prelude.{◌≡◌, ℕ, Bool, Some}
use Rattle.four_value.specs.Values.{LogicValue, IsWidth, resized, chosen_value, truth_of}
use Rattle.four_value.specs.Operators.{unary_value}
use Rattle.four_value.specs.declared.operator.UnaryOperator.{UnaryOperator}
use Rattle.four_value.specs.declared.operator.BinaryOperator.{BinaryOperator}
use Rattle.v_design.specs.Sized.{UnarySizing, BinarySizing}
use Rattle.v_names.specs.declared.term.Known.{Known}
use Rattle.v_names.specs.Readings.{Size, larger_size}
use Rattle.v_names.specs.SizeViews.{size_of}
use Rattle.v_names.specs.OwnSizes.{unary_size, binary_size}
use Rattle.v_names.specs.ConstantValues.{operand_size, binary_at}
use Rattle.v_names.specs.Terms.{term_value}

abbrev pub unary_at : UnarySizing → UnaryOperator → Size → (ℕ → Bool → LogicValue) → ℕ → Bool → LogicValue
unary_at sizing operator size value width whole = let z = operand_size sizing (record { width = width; signed = whole }) (Some size) in
    resized whole width (unary_value operator (value z.width z.signed))

-- an operator's answer is known over its operand
pub record IsUnary (sizing : UnarySizing) (operator : UnaryOperator) (operand whole : Known) : Type 0 where
  pub size_is : unary_size sizing (Some (size_of operand.size)) ≡ Some (size_of whole.size)
  pub value_is : (width : ℕ) (signed : Bool) → term_value whole.term width signed ≡ unary_at sizing operator (size_of operand.size) (term_value operand.term) width signed
  pub wide : IsWidth whole.size.width

-- an operator's answer is known over its two operands
pub record IsBinary (sizing : BinarySizing) (operator : BinaryOperator) (left right whole : Known) : Type 0 where
  pub size_is : binary_size sizing (Some (size_of left.size)) (Some (size_of right.size)) ≡ Some (size_of whole.size)
  pub value_is : (width : ℕ) (signed : Bool) → term_value whole.term width signed
      ≡ binary_at sizing operator (Some (size_of left.size)) (Some (size_of right.size)) (term_value left.term) (term_value right.term) width signed
  pub wide : IsWidth whole.size.width

abbrev pub choice_at : Size → (ℕ → Bool → LogicValue) → (ℕ → Bool → LogicValue) → (ℕ → Bool → LogicValue) → ℕ → Bool → LogicValue
choice_at size condition first second width whole = resized whole width (chosen_value (truth_of (condition size.width size.signed)) (first width whole) (second width whole))

-- a choice is known over its condition and its branches
pub record IsChoice (condition first second whole : Known) : Type 0 where
  pub size_is : larger_size (Some (size_of first.size)) (Some (size_of second.size)) ≡ Some (size_of whole.size)
  pub value_is : (width : ℕ) (signed : Bool) → term_value whole.term width signed
      ≡ choice_at (size_of condition.size) (term_value condition.term) (term_value first.term) (term_value second.term) width signed
  pub wide : IsWidth whole.size.width
