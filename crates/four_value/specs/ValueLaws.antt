-- Widths of what the operators answer, and that values which are the same by all four values are one (IEEE 1364-2001, clause 4.1).
use Rattle.std.proofs.Common.{◌≡◌, ℕ, zero, suc, ◌+◌, ◌/◌, Bool, true, false, ◌&&◌, [], ◌∷◌, ◌++◌, length, replicate, refl, ap, ap₂, ◌∙◌, arith}
use Rattle.std.proofs.lemmas.List.{length-append, length-take, length-replicate, take-append-le, take_all}
use Rattle.four_value.specs.Bits.{same_bit}
use Rattle.four_value.specs.Values.{LogicValue, bit_by_bit, bits_of, fill_bit, resized, part_of, with_part, joined_to, same_value}
use Rattle.four_value.specs.declared.logic.Bit.{Bit}
use Rattle.four_value.specs.declared.logic.Bit.TheVariants.{Zero, One, X, Z}

-- Widths

pub length-bit_by_bit : (f : Bit → Bit → Bit) (a b : LogicValue) → length a ≡ length b → length (bit_by_bit f a b) ≡ length a
length-bit_by_bit f [] b h = refl
length-bit_by_bit f (x ∷ a) [] h = absurd (omega (arith, h))
length-bit_by_bit f (x ∷ a) (y ∷ b) h = ap suc (length-bit_by_bit f a b (omega (arith, h)))

pub length-bits_of : (w n : ℕ) → length (bits_of w n) ≡ w
length-bits_of zero n = refl
length-bits_of (suc w) n = ap suc (length-bits_of w (n / 2))

pub length-resized : (signed : Bool) (w : ℕ) (bits : LogicValue) → length (resized signed w bits) ≡ w
length-resized signed w bits =
    omega (arith, length-take w (bits ++ replicate w (fill_bit signed bits)), length-append bits (replicate w (fill_bit signed bits)), length-replicate w (fill_bit signed bits))

pub length-part_of : (bits : LogicValue) (low width : ℕ) → length (part_of bits low width) ≡ width
length-part_of bits low zero = refl
length-part_of bits low (suc width) = ap suc (length-part_of bits (low + 1) width)

pub length-with_part : (bits : LogicValue) (low : ℕ) (part : LogicValue) → length (with_part bits low part) ≡ length bits
length-with_part [] low part = refl
length-with_part (b ∷ bits) (suc low) part = ap suc (length-with_part bits low part)
length-with_part (b ∷ bits) zero [] = refl
length-with_part (b ∷ bits) zero (p ∷ part) = ap suc (length-with_part bits zero part)

pub length-joined_to : (high low : LogicValue) → length (joined_to high low) ≡ length high + length low
length-joined_to high low = omega (arith, length-append low high)

-- a value at its own width is itself
pub resized-own : (signed : Bool) (bits : LogicValue) → resized signed (length bits) bits ≡ bits
resized-own signed bits =
    take-append-le (length bits) bits (replicate (length bits) (fill_bit signed bits)) (omega arith) ∙ take_all (length bits) bits (omega arith)

-- Sameness

same_bit-refl : (b : Bit) → same_bit b b ≡ true
same_bit-refl Zero = refl
same_bit-refl One = refl
same_bit-refl X = refl
same_bit-refl Z = refl

pub same_value-refl : (a : LogicValue) → same_value a a ≡ true
same_value-refl [] = refl
same_value-refl (b ∷ a) = rw (same_bit-refl b, same_value-refl a)

from_same_bit : (x y : Bit) → same_bit x y ≡ true → x ≡ y
from_same_bit Zero Zero h = refl
from_same_bit Zero One h = cc
from_same_bit Zero X h = cc
from_same_bit Zero Z h = cc
from_same_bit One Zero h = cc
from_same_bit One One h = refl
from_same_bit One X h = cc
from_same_bit One Z h = cc
from_same_bit X Zero h = cc
from_same_bit X One h = cc
from_same_bit X X h = refl
from_same_bit X Z h = cc
from_same_bit Z Zero h = cc
from_same_bit Z One h = cc
from_same_bit Z X h = cc
from_same_bit Z Z h = refl

both_true : (x y : Bool) → (x && y) ≡ true → (x ≡ true) × (y ≡ true)
both_true true y h = (refl, h)
both_true false y h = cc

pub from_same_value : (a b : LogicValue) → same_value a b ≡ true → a ≡ b
from_same_value [] [] h = refl
from_same_value [] (y ∷ b) h = cc
from_same_value (x ∷ a) [] h = cc
from_same_value (x ∷ a) (y ∷ b) h =
    let parts : (same_bit x y ≡ true) × (same_value a b ≡ true) = both_true (same_bit x y) (same_value a b) h in
    ap₂ (λ c cs. c ∷ cs) (from_same_bit x y parts.0) (from_same_value a b parts.1)
