-- Arithmetic modulo a width: what the machine's numbers of 128 bits give.
use Rattle.std.proofs.Common.{◌≡◌, ℕ, zero, suc, ◌+◌, ◌-◌, ◌*◌, ◌/◌, ◌%◌, ◌^◌, ◌<◌, ◌≤◌, Bool, true, false, [], ◌∷◌, map, length, refl, ap, ap₂, sym, ◌∙◌, arith, Option, Some, None, ⊎_elim, Fits}
use Rattle.std.specs.Prelude.{nat_eq, ℤ, pos, negsuc, ◌-ℤ◌, neg_ℤ, int_div, FitsSigned}
use Rattle.std.specs.Int.Bits.{bit_or}
use Rattle.std.specs.Int.{w128, cast_signed, cast_unsigned, int_wrapping_div}
use Rattle.std.proofs.lemmas.Nat.{pow_pos, pow-add, or_comm, or_shifted}
use Rattle.std.proofs.Math.Nat.{mul-add-mod_self_right, div-le_self}
use Rattle.std.proofs.lemmas.Bool.Decides.{eqb_tells}
use Rattle.std.proofs.Math.Pow.{pow_mono}
use Rattle.std.proofs.Math.Facts.{to_z-neg, sfits_to_z}
use Rattle.std.proofs.lemmas.Int.{ints, to_z_pos, of_z-to_z}
use Rattle.four_value.specs.Bits.{is_one, is_unknown, bit_of, not_bit}
use Rattle.four_value.specs.Planes.{is_one_or_z, one_if, plane_of}
use Rattle.four_value.specs.Values.{LogicValue, bits_of, bits_of_whole, bits_or_unknown, both, by_divisor, whole_or_unknown, quotient_of, arithmetic, sum_of, difference_of, product_of, number_of}
use Rattle.four_value.specs.Values.{whole_of, whole_number, top_bit}
use Rattle.four_value.specs.declared.logic.Bit.{Bit}
use Rattle.four_value.specs.declared.logic.Bit.TheVariants.{Zero, One, X, Z}
use Rattle.four_value.proofs.Words.{one_if-lt}
use Rattle.four_value.proofs.Planes.{plane_of-lt}
use Rattle.four_value.proofs.Parts.{mod_step}
use Rattle.four_value.proofs.Places.{mod_narrower}
use Rattle.four_value.proofs.Readings.{number_of-known, number_of-unknown}

-- only the low digits count
pub bits_of-mod : (w n : ℕ) → bits_of w (n % 2 ^ w) ≡ bits_of w n
bits_of-mod zero n = refl
bits_of-mod (suc w) n =
    let low : n % 2 ^ suc w % 2 ≡ n % 2 = omega (arith, mod_step w n) in
    let half : n % 2 ^ suc w / 2 ≡ n / 2 % 2 ^ w = omega (arith, mod_step w n) in
    ap₂ (λ b m. bit_of (nat_eq b 1) ∷ bits_of w m) low half ∙ ap (λ bits. bit_of (nat_eq (n % 2) 1) ∷ bits) (bits_of-mod w (n / 2))

pub bits_of-same : (w m n : ℕ) → m % 2 ^ w ≡ n % 2 ^ w → bits_of w m ≡ bits_of w n
bits_of-same w m n e = sym (bits_of-mod w m) ∙ ap (bits_of w) e ∙ bits_of-mod w n

pub bits_of-narrower : (w k n : ℕ) → w ≤ k → bits_of w (n % 2 ^ k) ≡ bits_of w n
bits_of-narrower w k n h = bits_of-same w (n % 2 ^ k) n (mod_narrower n w k h)

-- Sums, differences and products

module _ (a b : LogicValue) (w l r : ℕ) (wide : w ≡ length a) (narrow : w ≤ 128) (left : Some l ≡ number_of a) (right : Some r ≡ number_of b) where
  answer : (f : ℕ → ℕ → Option ℕ) → bits_or_unknown w (f l r) ≡ arithmetic f a b
  answer f = ap (λ k. bits_or_unknown k (f l r)) wide ∙ ap₂ (λ x y. bits_or_unknown (length a) (both f x y)) left right

  pub sum_bits : bits_of w ((l + r) % 2 ^ 128) ≡ sum_of a b
  sum_bits = bits_of-narrower w 128 (l + r) narrow ∙ answer (λ m n. Some (m + n))

  pub product_bits : bits_of w ((l * r) % 2 ^ 128) ≡ product_of a b
  product_bits = bits_of-narrower w 128 (l * r) narrow ∙ answer (λ m n. Some (m * n))

  pub difference_bits : r < 2 ^ w → bits_of w ((l + (2 ^ 128 - r)) % 2 ^ 128) ≡ difference_of a b
  difference_bits below =
      let K : ℕ = 2 ^ (128 - w) - 1 in
      let room : 2 ^ (128 - w) ≡ K + 1 = omega (arith, pow_pos (128 - w)) in
      let split : 128 ≡ (128 - w) + w = omega (arith, narrow) in
      let power : 2 ^ 128 ≡ (K + 1) * 2 ^ w = ap (λ k. 2 ^ k) split ∙ pow-add 2 (128 - w) w ∙ ap (λ k. k * 2 ^ w) room in
      let more : l + (2 ^ 128 - r) ≡ K * 2 ^ w + (l + 2 ^ w - r) = omega (arith, power, below) in
      bits_of-narrower w 128 (l + (2 ^ 128 - r)) narrow
      ∙ bits_of-same w (l + (2 ^ 128 - r)) (l + 2 ^ w - r) (ap (λ k. k % 2 ^ w) more ∙ mul-add-mod_self_right K (2 ^ w) (l + 2 ^ w - r))
      ∙ ap (λ k. bits_of w (l + 2 ^ k - r)) wide ∙ answer (λ m n. Some (m + 2 ^ length a - n))

-- a value's number is that of its ones, and it holds no x or z
pub number_of-parts : (bits : LogicValue) (n : ℕ) → Some n ≡ number_of bits → (n ≡ plane_of is_one_or_z bits) × (plane_of is_unknown bits ≡ 0)
number_of-parts bits n e =
    ⊎_elim
    (λ t. let same : Some n ≡ Some (plane_of is_one_or_z bits) = e ∙ number_of-known bits t.1 in ((cc), t.1))
    (λ t. let none : Some n ≡ None = e ∙ number_of-unknown bits t.1 in cc)
    (eqb_tells (plane_of is_unknown bits) 0)

pub number_of-lt : (bits : LogicValue) (n : ℕ) → Some n ≡ number_of bits → n < 2 ^ length bits
number_of-lt bits n e = omega (arith, (number_of-parts bits n e).0, plane_of-lt is_one_or_z bits)

-- Two's complement

flipped : (r s : ℕ) → r + s ≡ 1 → bit_of (nat_eq s 1) ≡ not_bit (bit_of (nat_eq r 1))
flipped zero s e = let one : s ≡ 1 = omega (arith, e) in rw one
flipped (suc zero) s e = let none : s ≡ 0 = omega (arith, e) in rw none
flipped (suc (suc r)) s e = absurd (omega (arith, e))

-- the bits of -(n + 1)
pub bits_of-inverse : (w k n : ℕ) → w ≤ k → n < 2 ^ k → bits_of w (2 ^ k - suc n) ≡ map not_bit (bits_of w n)
bits_of-inverse zero k n h below = refl
bits_of-inverse (suc w) zero n h below = absurd (omega (arith, h))
bits_of-inverse (suc w) (suc k) n h below =
    let half : (2 ^ suc k - suc n) / 2 ≡ 2 ^ k - suc (n / 2) = omega (arith, below) in
    let low : n % 2 + (2 ^ suc k - suc n) % 2 ≡ 1 = omega (arith, below) in
    ap₂ (λ b m. b ∷ bits_of w m) (flipped (n % 2) ((2 ^ suc k - suc n) % 2) low) half
    ∙ ap (λ bits. not_bit (bit_of (nat_eq (n % 2) 1)) ∷ bits) (bits_of-inverse w k (n / 2) (omega (arith, h)) (omega (arith, below)))

-- n, or -(n + 1), for an n of 128 digits
abbrev pub IsWithin : ℤ → Type 0
IsWithin (pos n) = n < 2 ^ 128
IsWithin (negsuc n) = n < 2 ^ 128

pub bits_of-cast_unsigned : (w : ℕ) (z : ℤ) → w ≤ 128 → IsWithin z → bits_of w (cast_unsigned w128 z) ≡ bits_of_whole w z
bits_of-cast_unsigned w (pos n) h k = refl
bits_of-cast_unsigned w (negsuc n) h k = bits_of-inverse w 128 n h k

-- The sign

top_set : (test : Bit → Bool) (bits : LogicValue) (k : ℕ) → length bits ≡ suc k → test (top_bit bits) ≡ true → 2 ^ k ≤ plane_of test bits
top_set test [] k h e = absurd (omega (arith, h))
top_set test (b ∷ []) zero h e = rw e (omega arith)
top_set test (b ∷ []) (suc k) h e = absurd (omega (arith, h))
top_set test (b ∷ c ∷ bits) zero h e = absurd (omega (arith, h))
top_set test (b ∷ c ∷ bits) (suc k) h e =
    let rest : 2 ^ k ≤ plane_of test (c ∷ bits) = top_set test (c ∷ bits) k (omega (arith, h)) e in
    let whole : 2 ^ suc k ≤ one_if (test b) + 2 * plane_of test (c ∷ bits) = omega (arith, rest) in
    whole

top_clear : (test : Bit → Bool) (bits : LogicValue) (k : ℕ) → length bits ≡ suc k → test (top_bit bits) ≡ false → plane_of test bits < 2 ^ k
top_clear test [] k h e = absurd (omega (arith, h))
top_clear test (b ∷ []) zero h e = rw e (omega arith)
top_clear test (b ∷ []) (suc k) h e = absurd (omega (arith, h))
top_clear test (b ∷ c ∷ bits) zero h e = absurd (omega (arith, h))
top_clear test (b ∷ c ∷ bits) (suc k) h e =
    let rest : plane_of test (c ∷ bits) < 2 ^ k = top_clear test (c ∷ bits) k (omega (arith, h)) e in
    let whole : one_if (test b) + 2 * plane_of test (c ∷ bits) < 2 ^ suc k = omega (arith, rest, one_if-lt (test b)) in
    whole

known_top : (bits : LogicValue) → plane_of is_unknown bits ≡ 0 → is_one_or_z (top_bit bits) ≡ is_one (top_bit bits)
known_top [] h = refl
known_top (Zero ∷ []) h = refl
known_top (One ∷ []) h = refl
known_top (X ∷ []) h = absurd (omega (arith, h))
known_top (Z ∷ []) h = absurd (omega (arith, h))
known_top (b ∷ c ∷ bits) h = let rest : plane_of is_unknown (c ∷ bits) ≡ 0 = omega (arith, h) in known_top (c ∷ bits) rest

below_zero : (n w : ℕ) → n < 2 ^ w → negsuc (2 ^ w - suc n) ≡ pos n -ℤ pos (2 ^ w)
below_zero n w h = omega (arith, ints, h)

module _ (bits : LogicValue) (w n : ℕ) (wide : w ≡ length bits) (some : 1 ≤ w) (narrow : w ≤ 128) (number : Some n ≡ number_of bits) where
  parts : (n ≡ plane_of is_one_or_z bits) × (plane_of is_unknown bits ≡ 0)
  parts = number_of-parts bits n number

  counted : length bits ≡ suc (w - 1)
  counted = omega (arith, wide, some)

  halves : 2 ^ w ≡ 2 * 2 ^ (w - 1)
  halves = let e : w ≡ suc (w - 1) = omega (arith, some) in ap (λ k. 2 ^ k) e ∙ omega arith

  room : 2 ^ (w - 1) ≤ 2 ^ 127
  room = let h : w - 1 ≤ 127 = omega (arith, narrow) in pow_mono h

  pub signed-negative : (m : ℕ) → is_one (top_bit bits) ≡ true → m ≡ 2 ^ w - 1 → cast_signed w128 (bit_or n (2 ^ 128 - 1 - m)) ≡ pos n -ℤ pos (2 ^ w)
  signed-negative m top e =
      let great : 2 ^ (w - 1) ≤ n = rw (parts.0) (top_set is_one_or_z bits (w - 1) counted (known_top bits parts.1 ∙ top)) in
      let below : n < 2 ^ w = omega (arith, parts.0, plane_of-lt is_one_or_z bits, ap (λ k. 2 ^ k) wide) in
      let K : ℕ = 2 ^ (128 - w) - 1 in
      let above : 2 ^ (128 - w) ≡ K + 1 = omega (arith, pow_pos (128 - w)) in
      let split : 128 ≡ (128 - w) + w = omega (arith, narrow) in
      let power : 2 ^ 128 ≡ (K + 1) * 2 ^ w = ap (λ k. 2 ^ k) split ∙ pow-add 2 (128 - w) w ∙ ap (λ k. k * 2 ^ w) above in
      let high : 2 ^ 128 - 1 - m ≡ K * 2 ^ w = omega (arith, power, e, pow_pos w) in
      let joined : bit_or n (2 ^ 128 - 1 - m) ≡ 2 ^ 128 - suc (2 ^ w - suc n)
      = ap (bit_or n) high ∙ or_comm n (K * 2 ^ w) ∙ or_shifted K w n below ∙ omega (arith, power, below) in
      let small : 2 ^ w - suc n < 2 ^ 127 = omega (arith, great, halves, room, below) in
      ap (cast_signed w128) joined ∙ to_z-neg w128 (2 ^ w - suc n) small ∙ below_zero n w below

  pub signed-natural : is_one (top_bit bits) ≡ false → cast_signed w128 n ≡ pos n
  signed-natural top =
      let small : n < 2 ^ (w - 1) = rw (parts.0) (top_clear is_one_or_z bits (w - 1) counted (known_top bits parts.1 ∙ top)) in
      let half : n < 2 ^ 127 = omega (arith, small, room) in
      to_z_pos w128 n half

  pub whole_number-negative : is_one (top_bit bits) ≡ true → Some (pos n -ℤ pos (2 ^ w)) ≡ whole_number true bits
  whole_number-negative top = ap₂ (λ k m. whole_of true k m) wide number ∙ ap (λ t. whole_of t (length bits) (number_of bits)) (sym top)

  pub whole_number-natural : is_one (top_bit bits) ≡ false → Some (pos n) ≡ whole_number true bits
  whole_number-natural top = ap₂ (λ k m. whole_of false k m) wide number ∙ ap (λ t. whole_of t (length bits) (number_of bits)) (sym top)

-- Quotients

pub IsWithin-fits : (z : ℤ) → FitsSigned w128 z → IsWithin z
IsWithin-fits (pos n) s = omega (arith, s.sfits)
IsWithin-fits (negsuc n) s = omega (arith, s.sfits)

IsWithin-neg : (n : ℕ) → n ≤ 2 ^ 127 → IsWithin (neg_ℤ (pos n))
IsWithin-neg zero h = omega arith
IsWithin-neg (suc n) h = omega (arith, h)

IsWithin-div : (x y : ℤ) → FitsSigned w128 x → IsWithin (int_div x y)
IsWithin-div (pos a) (pos b) s = omega (arith, s.sfits, div-le_self a b)
IsWithin-div (pos a) (negsuc b) s = IsWithin-neg (a / suc b) (omega (arith, s.sfits, div-le_self a (suc b)))
IsWithin-div (negsuc a) (pos b) s = IsWithin-neg (suc a / b) (omega (arith, s.sfits, div-le_self (suc a) b))
IsWithin-div (negsuc a) (negsuc b) s = omega (arith, s.sfits, div-le_self (suc a) (suc b))

cast_unsigned-lt : (z : ℤ) → IsWithin z → cast_unsigned w128 z < 2 ^ 128
cast_unsigned-lt (pos n) h = h
cast_unsigned-lt (negsuc n) h = omega arith

wrapped : (w : ℕ) (z : ℤ) → w ≤ 128 → IsWithin z → bits_of_whole w (cast_signed w128 (cast_unsigned w128 z)) ≡ bits_of_whole w z
wrapped w z narrow h =
    let m : ℕ = cast_unsigned w128 z in
    let fits : Fits w128 m = record { fits = cast_unsigned-lt z h } in
    let signed : FitsSigned w128 (cast_signed w128 m) = sfits_to_z fits in
    sym (bits_of-cast_unsigned w (cast_signed w128 m) narrow (IsWithin-fits (cast_signed w128 m) signed))
    ∙ ap (bits_of w) (of_z-to_z w128 m (cast_unsigned-lt z h)) ∙ bits_of-cast_unsigned w z narrow h

divides : (x y : ℤ) → (y ≡ pos 0 → ⊥) → Some (int_div x y) ≡ by_divisor int_div x y
divides x (pos zero) h = absurd (h refl)
divides x (pos (suc n)) h = refl
divides x (negsuc n) h = refl

pub quotient_bits : (a b : LogicValue) (w : ℕ) (x y : ℤ) → w ≡ length a → w ≤ 128 → Some x ≡ whole_number true a → Some y ≡ whole_number true b → (y ≡ pos 0 → ⊥) →
    FitsSigned w128 x → bits_of_whole w (int_wrapping_div w128 x y) ≡ quotient_of true a b
quotient_bits a b w x y wide narrow e d h s =
    wrapped w (int_div x y) narrow (IsWithin-div x y s) ∙ ap (λ k. bits_of_whole k (int_div x y)) wide ∙ ap (whole_or_unknown (length a)) (divides x y h)
    ∙ ap₂ (λ p q. whole_or_unknown (length a) (both (by_divisor int_div) p q)) e d
