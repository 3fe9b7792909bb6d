-- The fields of values that are made of numbers, of one bit, and of parts of other values.
use Rattle.std.proofs.Common.{◌≡◌, ℕ, zero, suc, ◌+◌, ◌-◌, ◌*◌, ◌/◌, ◌%◌, ◌^◌, ◌<◌, ◌≤◌, Bool, true, false, [], ◌∷◌, ◌++◌, length, drop, replicate, refl, ap, ap₂, sym, ◌∙◌, arith}
use Rattle.std.specs.Prelude.{nat_eq}
use Rattle.std.specs.Int.Bits.{bit_and, bit_or}
use Rattle.std.proofs.lemmas.Nat.{mod-pow-add, and_mask, shl_whole, or_shifted, shr-shr}
use Rattle.std.proofs.lemmas.List.{length-drop, length-append, length-replicate}
use Rattle.four_value.specs.Bits.{is_unknown, bit_of}
use Rattle.four_value.specs.Planes.{bit_in_planes, is_one_or_z, one_if, plane_of}
use Rattle.four_value.specs.PlanesLaws.{low_digit, bit_in_planes-digits}
use Rattle.four_value.specs.ValueLaws.{length-bits_of, length-resized}
use Rattle.four_value.specs.Values.{LogicValue, bits_of, bit_at, top_bit, joined_to, resized}
use Rattle.four_value.specs.declared.logic.Bit.{Bit}
use Rattle.four_value.specs.declared.logic.Bit.TheVariants.{Zero}
use Rattle.four_value.proofs.Planes.{halved, lowest, plane_of-lt, plane_of-append, plane_of-drop, plane_of-take, plane_of-replicate}
use Rattle.four_value.proofs.Views.{AreFields}

-- Numbers

known : (b : Bool) → is_unknown (bit_of b) ≡ false
known true = refl
known false = refl

one_back : (b : Bool) → is_one_or_z (bit_of b) ≡ b
one_back true = refl
one_back false = refl

-- the low digits, from the lowest one and the others
pub mod_step : (w n : ℕ) → n % 2 ^ suc w ≡ n % 2 + 2 * (n / 2 % 2 ^ w)
mod_step w n =
    let by_one : n % 2 ^ (w + 1) ≡ (n / 2 % 2 ^ w) * 2 + n % 2 = mod-pow-add n w 1 in
    let same : n % 2 ^ suc w ≡ n % 2 ^ (w + 1) = ap (λ k. n % 2 ^ k) (omega arith) in
    same ∙ by_one ∙ omega arith

pub plane_of-bits_of : (w n : ℕ) → plane_of is_one_or_z (bits_of w n) ≡ n % 2 ^ w
plane_of-bits_of zero n = omega arith
plane_of-bits_of (suc w) n =
    let rest : plane_of is_one_or_z (bits_of w (n / 2)) ≡ n / 2 % 2 ^ w = plane_of-bits_of w (n / 2) in
    let bit : one_if (is_one_or_z (bit_of (nat_eq (n % 2) 1))) ≡ n % 2 = ap one_if (one_back (nat_eq (n % 2) 1)) ∙ low_digit n in
    omega (arith, rest, bit, mod_step w n)

pub unknowns-bits_of : (w n : ℕ) → plane_of is_unknown (bits_of w n) ≡ 0
unknowns-bits_of zero n = refl
unknowns-bits_of (suc w) n =
    let bit : one_if (is_unknown (bit_of (nat_eq (n % 2) 1))) ≡ 0 = ap one_if (known (nat_eq (n % 2) 1)) in
    omega (arith, unknowns-bits_of w (n / 2), bit)

pub number_fields : (w n m : ℕ) → m ≡ 2 ^ w - 1 → AreFields (bits_of w n) w (bit_and n m) 0
number_fields w n m e = record {
  wide = sym (length-bits_of w n);
  in_ones = ap (bit_and n) e ∙ and_mask n w ∙ sym (plane_of-bits_of w n);
  in_unknowns = sym (unknowns-bits_of w n);
}

-- One bit over and over

pub filled_fields : (b : Bit) (w o u : ℕ) (p q : Bool) → p ≡ is_one_or_z b → q ≡ is_unknown b → o ≡ one_if p * (2 ^ w - 1) → u ≡ one_if q * (2 ^ w - 1) →
    AreFields (replicate w b) w o u
filled_fields b w o u p q hp hq ho hu = record {
  wide = sym (length-replicate w b);
  in_ones = ho ∙ ap (λ t. one_if t * (2 ^ w - 1)) hp ∙ sym (plane_of-replicate is_one_or_z w b);
  in_unknowns = hu ∙ ap (λ t. one_if t * (2 ^ w - 1)) hq ∙ sym (plane_of-replicate is_unknown w b);
}

-- One place

pub plane_of-at : (test : Bit → Bool) (bits : LogicValue) (i : ℕ) → i < length bits → plane_of test bits / 2 ^ i % 2 ≡ one_if (test (bit_at bits i))
plane_of-at test [] i h = absurd (omega (arith, h))
plane_of-at test (b ∷ bits) zero h =
    let first : (one_if (test b) + 2 * plane_of test bits) % 2 ≡ one_if (test b) = lowest (test b) (plane_of test bits) in
    omega (arith, first)
plane_of-at test (b ∷ bits) (suc i) h =
    let halves : (one_if (test b) + 2 * plane_of test bits) / 2 ≡ plane_of test bits = halved (test b) (plane_of test bits) in
    ap (λ n. n % 2) (ap (λ m. (one_if (test b) + 2 * plane_of test bits) / 2 ^ m) (omega arith) ∙ sym (shr-shr (one_if (test b) + 2 * plane_of test bits) 1 i) ∙ ap (λ m. m / 2 ^ i) halves)
    ∙ plane_of-at test bits i (omega (arith, h))

one_is_true : (b : Bool) → nat_eq (one_if b) 1 ≡ b
one_is_true true = refl
one_is_true false = refl

pub bit_at-planes : (bits : LogicValue) (w o u i : ℕ) → AreFields bits w o u → i < w →
    bit_in_planes (nat_eq (bit_and (o / 2 ^ i) 1) 1) (nat_eq (bit_and (u / 2 ^ i) 1) 1) ≡ bit_at bits i
bit_at-planes bits w o u i f h =
    let within : i < length bits = omega (arith, f.wide, h) in
    let ones : bit_and (o / 2 ^ i) 1 ≡ one_if (is_one_or_z (bit_at bits i)) = and_mask (o / 2 ^ i) 1 ∙ ap (λ n. n / 2 ^ i % 2) f.in_ones ∙ plane_of-at is_one_or_z bits i within in
    let unknowns : bit_and (u / 2 ^ i) 1 ≡ one_if (is_unknown (bit_at bits i)) = and_mask (u / 2 ^ i) 1 ∙ ap (λ n. n / 2 ^ i % 2) f.in_unknowns ∙ plane_of-at is_unknown bits i within in
    ap₂ (λ m n. bit_in_planes (nat_eq m 1) (nat_eq n 1)) ones unknowns
    ∙ ap₂ bit_in_planes (one_is_true (is_one_or_z (bit_at bits i))) (one_is_true (is_unknown (bit_at bits i))) ∙ bit_in_planes-digits (bit_at bits i)

pub bit_at-top : (bits : LogicValue) → 1 ≤ length bits → bit_at bits (length bits - 1) ≡ top_bit bits
bit_at-top [] h = absurd (omega (arith, h))
bit_at-top (b ∷ []) h = refl
bit_at-top (b ∷ c ∷ bits) h =
    let e : length (b ∷ c ∷ bits) - 1 ≡ suc (length (c ∷ bits) - 1) = omega arith in
    ap (bit_at (b ∷ c ∷ bits)) e ∙ bit_at-top (c ∷ bits) (omega arith)

-- Parts

pub drop_fields : (bits : LogicValue) (w o u n : ℕ) → AreFields bits w o u → AreFields (drop n bits) (w - n) (o / 2 ^ n) (u / 2 ^ n)
drop_fields bits w o u n f = record {
  wide = ap (λ k. k - n) f.wide ∙ sym (length-drop n bits);
  in_ones = ap (λ k. k / 2 ^ n) f.in_ones ∙ sym (plane_of-drop is_one_or_z n bits);
  in_unknowns = ap (λ k. k / 2 ^ n) f.in_unknowns ∙ sym (plane_of-drop is_unknown n bits);
}

beside : (test : Bit → Bool) (high low : LogicValue) (v w m n : ℕ) → v ≡ length high → w ≡ length low → v + w ≤ 128 → m ≡ plane_of test high → n ≡ plane_of test low →
    bit_or ((m * 2 ^ w) % 2 ^ 128) n ≡ plane_of test (low ++ high)
beside test high low v w m n hv hw room hm hn =
    let above : m < 2 ^ v = rw (hm, hv) (plane_of-lt test high) in
    let below : n < 2 ^ w = rw (hn, hw) (plane_of-lt test low) in
    ap (λ k. bit_or k n) (shl_whole m v w 128 above room) ∙ or_shifted m w n below
    ∙ rw (hm, hn, hw) (omega (arith, plane_of-append test low high))

pub join_fields : (high low : LogicValue) (v m p w n q : ℕ) → AreFields high v m p → AreFields low w n q → v + w ≤ 128 →
    AreFields (joined_to high low) (v + w) (bit_or ((m * 2 ^ w) % 2 ^ 128) n) (bit_or ((p * 2 ^ w) % 2 ^ 128) q)
join_fields high low v m p w n q f g room = record {
  wide = omega (arith, f.wide, g.wide, length-append low high);
  in_ones = beside is_one_or_z high low v w m n f.wide g.wide room f.in_ones g.in_ones;
  in_unknowns = beside is_unknown high low v w p q f.wide g.wide room f.in_unknowns g.in_unknowns;
}

widened : (test : Bit → Bool) → test Zero ≡ false → (bits : LogicValue) (w m : ℕ) → m ≡ 2 ^ w - 1 → bit_and (plane_of test bits) m ≡ plane_of test (resized false w bits)
widened test h bits w m e =
    let zeros : plane_of test (replicate w Zero) ≡ 0 = plane_of-replicate test w Zero ∙ ap (λ t. one_if t * (2 ^ w - 1)) h ∙ omega arith in
    let whole : plane_of test (bits ++ replicate w Zero) ≡ plane_of test bits
    = plane_of-append test bits (replicate w Zero) ∙ ap (λ k. plane_of test bits + 2 ^ length bits * k) zeros ∙ omega arith in
    ap (bit_and (plane_of test bits)) e ∙ and_mask (plane_of test bits) w ∙ ap (λ k. k % 2 ^ w) (sym whole) ∙ sym (plane_of-take test w (bits ++ replicate w Zero))

pub resize_fields : (bits : LogicValue) (v o u w m n : ℕ) → AreFields bits v o u → m ≡ 2 ^ w - 1 → n ≡ 2 ^ w - 1 →
    AreFields (resized false w bits) w (bit_and o m) (bit_and u n)
resize_fields bits v o u w m n f d e = record {
  wide = sym (length-resized false w bits);
  in_ones = ap (λ k. bit_and k m) f.in_ones ∙ widened is_one_or_z refl bits w m d;
  in_unknowns = ap (λ k. bit_and k n) f.in_unknowns ∙ widened is_unknown refl bits w n e;
}
