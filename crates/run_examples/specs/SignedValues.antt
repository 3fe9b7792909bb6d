-- Signed values and wide vectors.
use Rattle.std.specs.Prelude.{◌≡◌, refl, ℕ, true, false, List, [], ◌∷◌, ◌++◌, Some, None, map, replicate}
use Rattle.four_value.specs.Values.{bits_of, resized, quotient_of, remainder_of, less_than, at_most, plus_value, negated}
use Rattle.vf_base.specs.Base.{WatchedBit}
use Rattle.v_design.specs.Trees.{Expression, Constant, Name, WordSelect, Binary, Conditional, Concatenation, Blocking, Repeat, WordTarget, Memory}
use Rattle.v_design.specs.Expressions.{value_of, no_values, up_from}
use Rattle.v_design.specs.Designs.{FlatDesign, TestPlan}
use Rattle.v_design.specs.Grades.{grade, Judged, Detected}
use Rattle.run_examples.specs.Build.{at, block, number, object, operand, plus_one, reg_bit, reg_vector, set_bit, set_vector, terminals, variable_fault, vector_of}
use Rattle.run_examples.specs.Features.{one_process, ends_with}
use Rattle.four_value.specs.declared.logic.Bit.TheVariants.{Zero, One, X, Z}
use Rattle.v_design.specs.declared.logic.ObjectKind.TheVariants.{Word}
use Rattle.four_value.specs.declared.operator.BinaryOperator.TheVariants.{Add, Multiply, Less, ArithmeticShiftRight}

-- Runs

abbrev pub signed_operand : ℕ → ℕ → ℕ → Expression
signed_operand number own width = Name width true (vector_of number own)

-- integer i = -1; reg [31:0] u = 1: p = i < 0 is by sign, q = i < u isn't
abbrev pub compared : FlatDesign
compared =
    one_process (reg_vector 32 4294967295 ∷ reg_vector 32 1 ∷ reg_bit X ∷ reg_bit X ∷ [])
    (block
    (set_bit 3 2 (Binary 1 false Less (signed_operand 0 32 32) (Constant 32 true (bits_of 32 0)))
    ∷ set_bit 3 3 (Binary 1 false Less (operand 0 32 32) (operand 1 32 32))
    ∷ []))

abbrev pub bits_watched : ℕ → ℕ → List WatchedBit
bits_watched object width = map (λ bit. record { object = object; bit = bit }) (up_from 0 width)

abbrev pub compared_plan : TestPlan
compared_plan = record {
  end = 2;
  strobes = 1 ∷ [];
  watched = bits_watched 2 1 ++ bits_watched 3 1;
  faults = variable_fault 2 0 false ∷ variable_fault 3 0 true ∷ variable_fault 0 31 false ∷ [];
}

-- w = {64'd1, 64'd0} * 2 in 128 bits
abbrev pub wide : FlatDesign
wide =
    one_process (reg_vector 128 0 ∷ [])
    (set_vector 3 0 128 (Binary 128 false Multiply (Concatenation 128 false (terminals (number 64 1 ∷ number 64 0 ∷ []))) (number 128 2)))

abbrev pub wide_plan : TestPlan
wide_plan = record {
  end = 2;
  strobes = 1 ∷ [];
  watched = bits_watched 0 128;
  faults = variable_fault 0 65 false ∷ variable_fault 0 64 true ∷ [];
}

-- repeat (-1) runs zero times; m[-1] reads x and is not written
abbrev pub two_words : Memory
two_words = record { first = 0; last = 1; width = 4; words = 0 ∷ 1 ∷ [] }

abbrev pub minus_one : Expression
minus_one = Constant 32 true (bits_of 32 4294967295)

abbrev pub negative : FlatDesign
negative =
    one_process (object Word 4 (bits_of 4 3) ∷ object Word 4 (bits_of 4 5) ∷ reg_vector 4 0 ∷ reg_vector 4 0 ∷ [])
    (block
    (Repeat (at 1) minus_one (set_vector 2 2 4 (plus_one 2 4))
    ∷ Blocking (at 3) (WordTarget two_words minus_one ∷ []) None (number 4 9)
    ∷ set_vector 4 3 4 (WordSelect 4 false two_words minus_one)
    ∷ []))

pub record Holds : Type 0 where
  -- z001 to 8 bits is zzzzz001, with its sign
  pub extends_by_z : resized true 8 (One ∷ Zero ∷ Zero ∷ Z ∷ []) ≡ One ∷ Zero ∷ Zero ∷ Z ∷ Z ∷ Z ∷ Z ∷ Z ∷ []
  -- at 8 bits -7 / 2 is -3 and -7 % 2 is -1
  pub divides_towards_zero : (quotient_of true (bits_of 8 249) (bits_of 8 2) ≡ bits_of 8 253) × (remainder_of true (bits_of 8 249) (bits_of 8 2) ≡ bits_of 8 255)
  -- the remainder of 7 by -2 is 1; at 4 bits -8 / -1 wraps, and a division by 0 is unknown
  pub divides_at_the_edge : (remainder_of true (bits_of 4 7) (bits_of 4 14) ≡ bits_of 4 1) × (quotient_of true (bits_of 4 8) (bits_of 4 15) ≡ bits_of 4 8)
      × (quotient_of true (bits_of 4 8) (bits_of 4 0) ≡ replicate 4 X)
  -- -1 is less than 1, 15 isn't
  pub orders_by_sign : (less_than true (bits_of 4 15) (bits_of 4 1) ≡ One) × (less_than false (bits_of 4 15) (bits_of 4 1) ≡ Zero) × (at_most true (bits_of 4 8) (bits_of 4 8) ≡ One)
  -- 4'sb1101 >>> 1 at 8 bits is 11111110
  pub shifts_its_sign_in : value_of no_values (Binary 8 true ArithmeticShiftRight (Constant 8 true (One ∷ Zero ∷ One ∷ One ∷ [])) (number 32 1)) ≡ bits_of 8 254
  -- an unsigned whole shifts 0 in, and its parts are extended by 0
  pub shifts_zeros_in : value_of no_values (Binary 8 false ArithmeticShiftRight (Constant 8 false (One ∷ Zero ∷ One ∷ One ∷ [])) (number 32 1)) ≡ bits_of 8 6
  -- 1 ? 4'sb1000 : 8'sd1 at 8 bits is 11111000: the signed branch is extended by its top bit
  pub chooses_by_sign : value_of no_values (Conditional 8 true (number 1 1) (Constant 8 true (bits_of 4 8)) (Constant 8 true (bits_of 8 1))) ≡ bits_of 8 248
  -- {4'sb1000} + 8'd0 at 8 bits is 00001000: a concatenation is unsigned, and so is the whole
  pub joins_without_sign : value_of no_values (Binary 8 false Add (Concatenation 8 false (terminals (Constant 4 true (bits_of 4 8) ∷ []))) (number 8 0)) ≡ bits_of 8 8
  -- 0 + v and 0 - v are unknown where v holds z
  pub signs_of_unknowns : (plus_value (One ∷ Z ∷ []) ≡ X ∷ X ∷ []) × (negated (One ∷ Z ∷ []) ≡ X ∷ X ∷ []) × (negated (bits_of 4 1) ≡ bits_of 4 15)
  pub compared_grades : map (grade compared compared_plan) compared_plan.faults ≡ replicate 3 (Some (Judged (Detected 1)))
  pub wide_grades : map (grade wide wide_plan) wide_plan.faults ≡ replicate 2 (Some (Judged (Detected 1)))
  pub negative_ends : ends_with negative 0 ≡ Some 3 ∷ Some 5 ∷ Some 0 ∷ None ∷ []

pub holds : Holds
holds = record {
  extends_by_z = refl;
  divides_towards_zero = (refl, refl);
  divides_at_the_edge = (refl, refl, refl);
  orders_by_sign = (refl, refl, refl);
  shifts_its_sign_in = refl;
  shifts_zeros_in = refl;
  chooses_by_sign = refl;
  joins_without_sign = refl;
  signs_of_unknowns = (refl, refl, refl);
  compared_grades = refl;
  wide_grades = refl;
  negative_ends = refl;
}
