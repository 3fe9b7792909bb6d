-- And, or and exclusive or of two numbers, digit by digit.
use Rattle.std.proofs.Common.{◌≡◌, ℕ, suc, ◌+◌, ◌-◌, ◌*◌, ◌^◌, ◌<◌, Bool, true, false, not, ◌&&◌, ◌||◌, refl, ap, ◌∙◌, arith}
use Rattle.std.specs.Int.Bits.{bit_and, bit_or, bit_xor}
use Rattle.std.proofs.lemmas.Nat.{and_block, or_block, xor_block}
use Rattle.four_value.specs.Planes.{one_if}

-- one of the two, and not both
abbrev pub either_one : Bool → Bool → Bool
either_one true y = not y
either_one false y = y

pub one_if-lt : (x : Bool) → one_if x < 2
one_if-lt true = omega arith
one_if-lt false = omega arith

and_digits : (x y : Bool) → bit_and (one_if x) (one_if y) ≡ one_if (x && y)
and_digits true true = refl
and_digits true false = refl
and_digits false true = refl
and_digits false false = refl

or_digits : (x y : Bool) → bit_or (one_if x) (one_if y) ≡ one_if (x || y)
or_digits true true = refl
or_digits true false = refl
or_digits false true = refl
or_digits false false = refl

xor_digits : (x y : Bool) → bit_xor (one_if x) (one_if y) ≡ one_if (either_one x y)
xor_digits true true = refl
xor_digits true false = refl
xor_digits false true = refl
xor_digits false false = refl

turned : (x : Bool) (m : ℕ) → one_if x + 2 * m ≡ m * 2 + one_if x
turned x m = omega arith

pub and_step : (x y : Bool) (m n : ℕ) → bit_and (one_if x + 2 * m) (one_if y + 2 * n) ≡ one_if (x && y) + 2 * bit_and m n
and_step x y m n =
    let block : bit_and (m * 2 + one_if x) (n * 2 + one_if y) ≡ bit_and m n * 2 + bit_and (one_if x) (one_if y)
    = and_block 1 m n (one_if x) (one_if y) (one_if-lt x) (one_if-lt y) in
    rw (turned x m, turned y n, block, and_digits x y) (omega arith)

pub or_step : (x y : Bool) (m n : ℕ) → bit_or (one_if x + 2 * m) (one_if y + 2 * n) ≡ one_if (x || y) + 2 * bit_or m n
or_step x y m n =
    let block : bit_or (m * 2 + one_if x) (n * 2 + one_if y) ≡ bit_or m n * 2 + bit_or (one_if x) (one_if y)
    = or_block 1 m n (one_if x) (one_if y) (one_if-lt x) (one_if-lt y) in
    rw (turned x m, turned y n, block, or_digits x y) (omega arith)

pub xor_step : (x y : Bool) (m n : ℕ) → bit_xor (one_if x + 2 * m) (one_if y + 2 * n) ≡ one_if (either_one x y) + 2 * bit_xor m n
xor_step x y m n =
    let block : bit_xor (m * 2 + one_if x) (n * 2 + one_if y) ≡ bit_xor m n * 2 + bit_xor (one_if x) (one_if y)
    = xor_block 1 m n (one_if x) (one_if y) (one_if-lt x) (one_if-lt y) in
    rw (turned x m, turned y n, block, xor_digits x y) (omega arith)

-- the inverse of a number, digit by digit
pub inverse_step : (y : Bool) (k n : ℕ) → n < 2 ^ k → 2 ^ suc k - 1 - (one_if y + 2 * n) ≡ one_if (not y) + 2 * (2 ^ k - 1 - n)
inverse_step true k n h = omega (arith, h)
inverse_step false k n h = omega (arith, h)

-- the digits of the one number that the other one hasn't
pub and_inverse_step : (x y : Bool) (m n k : ℕ) → n < 2 ^ k →
    bit_and (one_if x + 2 * m) (2 ^ suc k - 1 - (one_if y + 2 * n)) ≡ one_if (x && not y) + 2 * bit_and m (2 ^ k - 1 - n)
and_inverse_step x y m n k h = ap (bit_and (one_if x + 2 * m)) (inverse_step y k n h) ∙ and_step x (not y) m (2 ^ k - 1 - n)
