-- Answers of operators on small values, written with the most significant bit on the left.
use Rattle.std.specs.Prelude.{◌≡◌, refl, true, false, List, [], ◌∷◌, ◌++◌}
use Rattle.four_value.specs.Values.{LogicValue, bits_of, sum_of, quotient_of, remainder_of, logical_equality, less_than, truth_of, merged, edge_matches}
use Rattle.four_value.specs.declared.logic.Bit.{Bit}
use Rattle.four_value.specs.declared.logic.Bit.TheVariants.{Zero, One, X, Z}
use Rattle.four_value.specs.declared.logic.Truth.TheVariants.{True, Unknown}
use Rattle.four_value.specs.declared.logic.Edge.TheVariants.{Pos}

-- four bits, the most significant first
abbrev pub bits : Bit → Bit → Bit → Bit → LogicValue
bits a b c d = d ∷ c ∷ b ∷ a ∷ []

pub record Holds : Type 0 where
  -- 1010 + 0111 is 0001
  pub sum_wraps : sum_of (bits One Zero One Zero) (bits Zero One One One) ≡ bits Zero Zero Zero One
  -- 200 / 7 is 28, and the remainder is 4
  pub divides : (quotient_of false (bits_of 8 200) (bits_of 8 7) ≡ bits_of 8 28) × (remainder_of false (bits_of 8 200) (bits_of 8 7) ≡ bits_of 8 4)
  -- 10x0 == 0xx0 is 0, since one position has 1 against 0; 10x0 == 1010 is x
  pub compares : (logical_equality (bits One Zero X Zero) (bits Zero X X Zero) ≡ Zero) × (logical_equality (bits One Zero X Zero) (bits One Zero One Zero) ≡ X)
  -- z001 < 2 is x
  pub orders_unknown : less_than false (bits Z Zero Zero One) (bits_of 4 2) ≡ X
  -- 1x00 is true, 0x00 is unknown
  pub truths : (truth_of (bits One X Zero Zero) ≡ True) × (truth_of (bits Zero X Zero Zero) ≡ Unknown)
  -- the merge of 1010 and 1001 is 10xx
  pub merges : merged (bits One Zero One Zero) (bits One Zero Zero One) ≡ bits One Zero X X
  -- 0 to x is a positive edge
  pub rises : edge_matches Pos (Zero ∷ []) (X ∷ []) ≡ true

pub holds : Holds
holds = record {
  sum_wraps = refl;
  divides = (refl, refl);
  compares = (refl, refl);
  orders_unknown = refl;
  truths = (refl, refl);
  merges = refl;
  rises = refl;
}
