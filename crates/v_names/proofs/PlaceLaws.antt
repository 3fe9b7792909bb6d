-- What is wrong with a constant at its place, by what is asked of it.
use Rattle.std.proofs.Common.{◌≡◌, ℕ, Bool, true, false, ◌&&◌, ◌||◌, [], ◌∷◌, Option, Some, None, is_none, refl, sym, ap, ap₂, ◌∙◌}
use Rattle.four_value.specs.Bits.{is_unknown}
use Rattle.four_value.specs.Values.{LogicValue, some_bit, number_of, with_low_bit}
use Rattle.four_value.specs.declared.logic.Bit.{Bit}
use Rattle.four_value.specs.declared.logic.Bit.TheVariants.{Zero, One, X, Z}
use Rattle.v_tree.specs.Trees.{SourceExpression, place_of_expression}
use Rattle.v_names.specs.Faults.{NoConstant, first_fault, fault_if}
use Rattle.v_names.specs.Scopes.{Scope}
use Rattle.v_names.specs.Readings.{constant_of}
use Rattle.v_names.specs.Constants.{ConstantPlace, all_parameters, some_waiting, is_unfit_if_some, value_faults_within}

pub others-named : (width : ℕ) (scope : Scope) (kind : ConstantPlace) (e : SourceExpression) → all_parameters scope e ≡ false → None ≡ first_fault (value_faults_within width scope kind e)
others-named width scope kind e h =
    sym (ap (λ b. first_fault (fault_if (b && (some_waiting scope e || is_unfit_if_some kind (constant_of scope width e))) (place_of_expression e) NoConstant)) h)

pub still-waiting : (width : ℕ) (scope : Scope) (kind : ConstantPlace) (e : SourceExpression) → all_parameters scope e ≡ true → some_waiting scope e ≡ true
    → first_fault (fault_if true (place_of_expression e) NoConstant) ≡ first_fault (value_faults_within width scope kind e)
still-waiting width scope kind e h k =
    sym (ap₂ (λ b w. first_fault (fault_if (b && (w || is_unfit_if_some kind (constant_of scope width e))) (place_of_expression e) NoConstant)) h k)

pub by-value : (width : ℕ) (scope : Scope) (kind : ConstantPlace) (e : SourceExpression) (unfit : Bool) → all_parameters scope e ≡ true → some_waiting scope e ≡ false
    → unfit ≡ is_unfit_if_some kind (constant_of scope width e) → first_fault (fault_if unfit (place_of_expression e) NoConstant) ≡ first_fault (value_faults_within width scope kind e)
by-value width scope kind e unfit h k u =
    ap (λ b. first_fault (fault_if b (place_of_expression e) NoConstant)) u
    ∙ sym (ap₂ (λ b w. first_fault (fault_if (b && (w || is_unfit_if_some kind (constant_of scope width e))) (place_of_expression e) NoConstant)) h k)

none-with : (b : Bit) (n : Option ℕ) → is_none (with_low_bit b n) ≡ (is_unknown b || is_none n)
none-with Zero None = refl
none-with Zero (Some n) = refl
none-with One None = refl
none-with One (Some n) = refl
none-with X None = refl
none-with X (Some n) = refl
none-with Z None = refl
none-with Z (Some n) = refl

-- a value has no number where it has x or z
pub unknown-number : (bits : LogicValue) → is_none (number_of bits) ≡ some_bit is_unknown bits
unknown-number [] = refl
unknown-number (b ∷ bits) = none-with b (number_of bits) ∙ ap (λ n. is_unknown b || n) (unknown-number bits)
