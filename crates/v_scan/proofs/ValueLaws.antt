-- Numbers that grow by a digit, and bits that are put behind others.
use Rattle.std.proofs.Common.{◌≡◌, ℕ, suc, ◌+◌, ◌-◌, ◌*◌, ◌/◌, ◌%◌, ◌<◌, ◌≤◌, Bool, true, false, List, [], ◌∷◌, ◌++◌, length, get_or, drop, replicate, nat_eq, refl, sym, ◌∙◌, ap, arith}
use Rattle.std.proofs.Common.{append_assoc, drop-cons, ne_eqb}
use Rattle.std.specs.Prelude.{◌==◌, if◌then◌else◌}
use Rattle.four_value.specs.declared.logic.Bit.{Bit}
use Rattle.four_value.specs.Bits.{bit_of}
use Rattle.four_value.specs.Values.{bits_of}
use Rattle.v_scan.specs.Numbers.{decimal_behind, decimal_number}

pub decimal-grows : (n : ℕ) (bs : List ℕ) → n ≤ decimal_behind n bs
decimal-grows n [] = omega arith
decimal-grows n (b ∷ bs) = at (decimal-grows n bs) (decimal-grows (10 * n + (b - 48)) bs) (b == 95)
  where
    at : n ≤ decimal_behind n bs → 10 * n + (b - 48) ≤ decimal_behind (10 * n + (b - 48)) bs → (t : Bool) → n ≤ (if t then decimal_behind n bs else decimal_behind (10 * n + (b - 48)) bs)
    at h g true = h
    at h g false = omega (arith, g)

-- a digit that makes a number too large
pub decimal-over : (digits : List ℕ) (i n most : ℕ) → i < length digits → (get_or digits i 0 ≡ 95 → ⊥) → decimal_behind 0 digits ≡ decimal_behind n (drop i digits)
    → most ≤ 10 * n + (get_or digits i 0 - 48) → most ≤ decimal_number digits
decimal-over digits i n most h other same over =
    let b = get_or digits i 0 in
    let no_gap : (b == 95) ≡ false = ne_eqb b 95 other in
    let step : decimal_behind n (b ∷ drop (suc i) digits) ≡ decimal_behind (10 * n + (b - 48)) (drop (suc i) digits) = rw no_gap refl in
    let grows = decimal-grows (10 * n + (b - 48)) (drop (suc i) digits) in
    let whole : decimal_behind 0 digits ≡ decimal_behind (10 * n + (b - 48)) (drop (suc i) digits) = same ∙ ap (decimal_behind n) (drop-cons digits i 0 h) ∙ step in
    omega (arith, whole, grows, over)

-- one more copy
pub copies-step : (bit : Bit) (items all : List Bit) (count i : ℕ) → i < count → items ++ replicate (count - i) bit ≡ all → (items ++ bit ∷ []) ++ replicate (count - (i + 1)) bit ≡ all
copies-step bit items all count i h e =
    let n : count - i ≡ suc (count - (i + 1)) = omega arith in
    append_assoc items (bit ∷ []) (replicate (count - (i + 1)) bit) ∙ ap (λ k. items ++ replicate k bit) (sym n) ∙ e

-- one more place
pub places-step : (items all : List Bit) (count i n : ℕ) → i < count → items ++ bits_of (count - i) n ≡ all → (items ++ bit_of (nat_eq (n % 2) 1) ∷ []) ++ bits_of (count - (i + 1)) (n / 2) ≡ all
places-step items all count i n h e =
    let k : count - i ≡ suc (count - (i + 1)) = omega arith in
    append_assoc items (bit_of (nat_eq (n % 2) 1) ∷ []) (bits_of (count - (i + 1)) (n / 2)) ∙ ap (λ m. items ++ bits_of m n) (sym k) ∙ e
