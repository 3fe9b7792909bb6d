-- The fields of a value with a part put in, and of a shifted one; lists that are parts of a value.
use Rattle.std.proofs.Common.{◌≡◌, ℕ, zero, suc, ◌+◌, ◌-◌, ◌*◌, ◌/◌, ◌%◌, ◌^◌, ◌<◌, ◌≤◌, min, Bool, true, false, ◌&&◌, ◌||◌, [], ◌∷◌, ◌++◌, length, take, drop, replicate, get_or, refl, ap, ap₂, sym}
use Rattle.std.proofs.Common.{◌∙◌, arith}
use Rattle.std.specs.Int.Bits.{bit_and, bit_or, and_zero_r, or_zero_r}
use Rattle.std.proofs.lemmas.Nat.{pow_pos, mod-pow-add, mod_low, mod_below, and_mask, and_mod, and_le_r, shl_whole, or_comm, or_shifted}
use Rattle.std.proofs.Math.Nat.{mod-eq_of_lt}
use Rattle.std.proofs.Math.Pow.{pow_mono}
use Rattle.std.proofs.Math.Seq.{take-append-add}
use Rattle.std.proofs.lemmas.List.{length-append, length-take, length-replicate, drop_more, drop_all, get_or_past, take-append-le, take-replicate, take_at, take_more, length-take-le}
use mir.Val.{bool_byte}
use Rattle.four_value.specs.Bits.{is_unknown}
use Rattle.four_value.specs.Planes.{is_one_or_z, one_if, plane_of}
use Rattle.four_value.specs.ValueLaws.{length-with_part}
use Rattle.four_value.specs.Values.{LogicValue, bit_at, part_of, with_part, resized, fill_bit, top_bit}
use Rattle.four_value.specs.declared.logic.Bit.{Bit}
use Rattle.four_value.specs.declared.logic.Bit.TheVariants.{Zero, X}
use Rattle.four_value.proofs.Words.{one_if-lt, and_step, or_step, and_inverse_step}
use Rattle.four_value.proofs.Planes.{plane_of-lt, plane_of-append, plane_of-take, plane_of-replicate}
use Rattle.four_value.proofs.Parts.{mod_step}
use Rattle.four_value.proofs.Views.{AreFields}

-- the low w digits of the low k digits
pub mod_narrower : (n w k : ℕ) → w ≤ k → n % 2 ^ k % 2 ^ w ≡ n % 2 ^ w
mod_narrower n w k h =
    let split : k ≡ (k - w) + w = omega (arith, h) in
    ap (λ j. n % 2 ^ j % 2 ^ w) split ∙ ap (λ m. m % 2 ^ w) (mod-pow-add n (k - w) w) ∙ mod_low (n / 2 ^ w % 2 ^ (k - w)) w (n % 2 ^ w) (mod_below n (2 ^ w) (pow_pos w))

-- The digits at which a part goes in: as many as it has, from a place on, within the value

hole : ℕ → ℕ → ℕ → ℕ
hole low part zero = 0
hole (suc low) part (suc width) = one_if false + 2 * hole low part width
hole zero zero (suc width) = 0
hole zero (suc part) (suc width) = one_if true + 2 * hole zero part width

hole-lt : (low part width : ℕ) → hole low part width < 2 ^ width
unfolding hole
hole-lt low part zero = omega arith
hole-lt (suc low) part (suc width) = omega (arith, hole-lt low part width)
hole-lt zero zero (suc width) = omega (arith, pow_pos (suc width))
hole-lt zero (suc part) (suc width) = omega (arith, hole-lt zero part width)

hole-is : (low part width : ℕ) → ((2 ^ part - 1) * 2 ^ low) % 2 ^ width ≡ hole low part width
unfolding hole
hole-is low part zero = omega arith
hole-is (suc low) part (suc width) =
    let power : 2 ^ suc low ≡ 2 * 2 ^ low = omega arith in
    let twice : (2 ^ part - 1) * 2 ^ suc low ≡ 2 * ((2 ^ part - 1) * 2 ^ low) = ap (λ n. (2 ^ part - 1) * n) power ∙ omega arith in
    let half : (2 * ((2 ^ part - 1) * 2 ^ low)) / 2 ≡ (2 ^ part - 1) * 2 ^ low = omega arith in
    let even : (2 * ((2 ^ part - 1) * 2 ^ low)) % 2 ≡ 0 = omega arith in
    ap (λ n. n % 2 ^ suc width) twice ∙ mod_step width (2 * ((2 ^ part - 1) * 2 ^ low)) ∙ rw (half, even, hole-is low part width) (omega arith)
hole-is zero zero (suc width) = mod-eq_of_lt (pow_pos (suc width))
hole-is zero (suc part) (suc width) =
    let odd : (2 ^ suc part - 1) * 2 ^ 0 ≡ 1 + 2 * ((2 ^ part - 1) * 2 ^ 0) = omega (arith, pow_pos part) in
    let half : (1 + 2 * ((2 ^ part - 1) * 2 ^ 0)) / 2 ≡ (2 ^ part - 1) * 2 ^ 0 = omega arith in
    let low : (1 + 2 * ((2 ^ part - 1) * 2 ^ 0)) % 2 ≡ 1 = omega arith in
    ap (λ n. n % 2 ^ suc width) odd ∙ mod_step width (1 + 2 * ((2 ^ part - 1) * 2 ^ 0)) ∙ rw (half, low, hole-is zero part width) (omega arith)

kept : (x : Bool) → ((x && true) || (false && false)) ≡ x
kept true = refl
kept false = refl

put : (x y : Bool) → ((x && false) || (y && true)) ≡ y
put true true = refl
put true false = refl
put false true = refl
put false false = refl

plane_of-with_part : (test : Bit → Bool) (bits : LogicValue) (low : ℕ) (part : LogicValue) (k : ℕ) → length bits ≤ k →
    bit_or (bit_and (plane_of test bits) (2 ^ k - 1 - hole low (length part) (length bits))) (bit_and (plane_of test part * 2 ^ low) (hole low (length part) (length bits)))
    ≡ plane_of test (with_part bits low part)
unfolding hole
plane_of-with_part test [] low part k h = and_zero_r (plane_of test part * 2 ^ low)
plane_of-with_part test (b ∷ bits) low part zero h = absurd (omega (arith, h))
plane_of-with_part test (b ∷ bits) (suc low) part (suc k) h =
    let within : length bits ≤ k = omega (arith, h) in
    let H : ℕ = hole low (length part) (length bits) in
    let below : H < 2 ^ k = omega (arith, hole-lt low (length part) (length bits), pow_mono within) in
    let power : 2 ^ suc low ≡ 2 * 2 ^ low = omega arith in
    let moved : plane_of test part * 2 ^ suc low ≡ one_if false + 2 * (plane_of test part * 2 ^ low) = ap (λ n. plane_of test part * n) power ∙ omega arith in
    let left : bit_and (one_if (test b) + 2 * plane_of test bits) (2 ^ suc k - 1 - (one_if false + 2 * H)) ≡ one_if (test b && true) + 2 * bit_and (plane_of test bits) (2 ^ k - 1 - H)
    = and_inverse_step (test b) false (plane_of test bits) H k below in
    let right : bit_and (plane_of test part * 2 ^ suc low) (one_if false + 2 * H) ≡ one_if (false && false) + 2 * bit_and (plane_of test part * 2 ^ low) H
    = ap (λ n. bit_and n (one_if false + 2 * H)) moved ∙ and_step false false (plane_of test part * 2 ^ low) H in
    ap₂ bit_or left right
    ∙ or_step (test b && true) (false && false) (bit_and (plane_of test bits) (2 ^ k - 1 - H)) (bit_and (plane_of test part * 2 ^ low) H)
    ∙ ap₂ (λ x n. one_if x + 2 * n) (kept (test b)) (plane_of-with_part test bits low part k within)
plane_of-with_part test (b ∷ bits) zero [] (suc k) h =
    let whole : plane_of test (b ∷ bits) < 2 ^ suc k = omega (arith, plane_of-lt test (b ∷ bits), pow_mono h) in
    let full : 2 ^ suc k - 1 - 0 ≡ 2 ^ suc k - 1 = omega arith in
    ap₂ bit_or (ap (bit_and (plane_of test (b ∷ bits))) full ∙ and_mask (plane_of test (b ∷ bits)) (suc k) ∙ mod-eq_of_lt whole) (and_zero_r (0 * 2 ^ 0)) ∙ or_zero_r (plane_of test (b ∷ bits))
plane_of-with_part test (b ∷ bits) zero (p ∷ part) (suc k) h =
    let within : length bits ≤ k = omega (arith, h) in
    let H : ℕ = hole zero (length part) (length bits) in
    let below : H < 2 ^ k = omega (arith, hole-lt zero (length part) (length bits), pow_mono within) in
    let moved : plane_of test (p ∷ part) * 2 ^ 0 ≡ one_if (test p) + 2 * (plane_of test part * 2 ^ 0) = omega arith in
    let left : bit_and (one_if (test b) + 2 * plane_of test bits) (2 ^ suc k - 1 - (one_if true + 2 * H)) ≡ one_if (test b && false) + 2 * bit_and (plane_of test bits) (2 ^ k - 1 - H)
    = and_inverse_step (test b) true (plane_of test bits) H k below in
    let right : bit_and (plane_of test (p ∷ part) * 2 ^ 0) (one_if true + 2 * H) ≡ one_if (test p && true) + 2 * bit_and (plane_of test part * 2 ^ 0) H
    = ap (λ n. bit_and n (one_if true + 2 * H)) moved ∙ and_step (test p) true (plane_of test part * 2 ^ 0) H in
    ap₂ bit_or left right
    ∙ or_step (test b && false) (test p && true) (bit_and (plane_of test bits) (2 ^ k - 1 - H)) (bit_and (plane_of test part * 2 ^ 0) H)
    ∙ ap₂ (λ x n. one_if x + 2 * n) (put (test b) (test p)) (plane_of-with_part test bits zero part k within)

-- past the end nothing is put in
pub with_part-past : (bits : LogicValue) (low : ℕ) (part : LogicValue) → length bits ≤ low → bits ≡ with_part bits low part
with_part-past [] low part h = refl
with_part-past (b ∷ bits) zero part h = absurd (omega (arith, h))
with_part-past (b ∷ bits) (suc low) part h = ap (λ rest. b ∷ rest) (with_part-past bits low part (omega (arith, h)))

-- digits past the 128th fall away under a mask of 128 digits
masked : (m H : ℕ) → H < 2 ^ 128 → bit_and (m % 2 ^ 128) H ≡ bit_and m H
masked m H h =
    let whole : bit_and m H < 2 ^ 128 = omega (arith, h, and_le_r m H) in
    ap (bit_and (m % 2 ^ 128)) (sym (mod-eq_of_lt h)) ∙ sym (and_mod m H 128) ∙ mod-eq_of_lt whole

module _ (bits part : LogicValue) (w o u v p q low m n H : ℕ) (f : AreFields bits w o u) (g : AreFields part v p q) (narrow : w ≤ 128)
    (in_part : m ≡ 2 ^ v - 1) (in_value : n ≡ 2 ^ w - 1) (both : H ≡ bit_and ((m * 2 ^ low) % 2 ^ 128) n) where
  hole_here : H ≡ hole low (length part) (length bits)
  hole_here =
      both ∙ ap (bit_and ((m * 2 ^ low) % 2 ^ 128)) in_value ∙ and_mask ((m * 2 ^ low) % 2 ^ 128) w ∙ mod_narrower (m * 2 ^ low) w 128 narrow
      ∙ ap (λ k. (k * 2 ^ low) % 2 ^ w) in_part ∙ hole-is low v w ∙ ap₂ (hole low) g.wide f.wide

  placed : (test : Bit → Bool) (x y : ℕ) → x ≡ plane_of test bits → y ≡ plane_of test part →
      bit_or (bit_and x (2 ^ 128 - 1 - H)) (bit_and ((y * 2 ^ low) % 2 ^ 128) H) ≡ plane_of test (with_part bits low part)
  placed test x y hx hy =
      let within : length bits ≤ 128 = omega (arith, f.wide, narrow) in
      let small : H < 2 ^ 128 = rw hole_here (omega (arith, hole-lt low (length part) (length bits), pow_mono within)) in
      ap (bit_or (bit_and x (2 ^ 128 - 1 - H))) (masked (y * 2 ^ low) H small)
      ∙ rw (hx, hy, hole_here) (plane_of-with_part test bits low part 128 within)

  pub place_fields : AreFields (with_part bits low part) w (bit_or (bit_and o (2 ^ 128 - 1 - H)) (bit_and ((p * 2 ^ low) % 2 ^ 128) H))
      (bit_or (bit_and u (2 ^ 128 - 1 - H)) (bit_and ((q * 2 ^ low) % 2 ^ 128) H))
  place_fields = record {
    wide = f.wide ∙ sym (length-with_part bits low part);
    in_ones = placed is_one_or_z o p f.in_ones g.in_ones;
    in_unknowns = placed is_unknown u q f.in_unknowns g.in_unknowns;
  }

-- Parts

pub part_of-past : (bits : LogicValue) (low width : ℕ) → length bits ≤ low → replicate width X ≡ part_of bits low width
part_of-past bits low zero h = refl
part_of-past bits low (suc width) h = ap₂ (λ b rest. b ∷ rest) (sym (get_or_past bits low X h)) (part_of-past bits (low + 1) width (omega (arith, h)))

pub part_of-inside : (bits : LogicValue) (low width : ℕ) → low + width ≤ length bits → take width (drop low bits) ≡ part_of bits low width
part_of-inside bits low zero h = refl
part_of-inside bits low (suc width) h =
    let more : drop low bits ≡ bit_at bits low ∷ drop (low + 1) bits = drop_more bits low X (omega (arith, h)) in
    ap (take (suc width)) more ∙ ap (λ rest. bit_at bits low ∷ rest) (part_of-inside bits (low + 1) width (omega (arith, h)))

pub part_of-over : (bits : LogicValue) (low width kept_width : ℕ) → low + kept_width ≡ length bits → kept_width ≤ width →
    drop low bits ++ replicate (width - kept_width) X ≡ part_of bits low width
part_of-over bits low width zero e h =
    ap₂ (λ xs n. xs ++ replicate n X) (drop_all low bits (omega (arith, e))) (omega arith) ∙ part_of-past bits low width (omega (arith, e))
part_of-over bits low zero (suc kept_width) e h = absurd (omega (arith, h))
part_of-over bits low (suc width) (suc kept_width) e h =
    let more : drop low bits ≡ bit_at bits low ∷ drop (low + 1) bits = drop_more bits low X (omega (arith, e)) in
    let left : suc width - suc kept_width ≡ width - kept_width = omega arith in
    ap₂ (λ xs n. xs ++ replicate n X) more left ∙ ap (λ rest. bit_at bits low ∷ rest) (part_of-over bits (low + 1) width kept_width (omega (arith, e)) (omega (arith, h)))

pub resized-cut : (signed : Bool) (width : ℕ) (bits : LogicValue) → width ≤ length bits → resized signed width bits ≡ take width bits
resized-cut signed width bits h = take-append-le width bits (replicate width (fill_bit signed bits)) h

pub resized-wider : (width : ℕ) (bits : LogicValue) → length bits ≤ width → bits ++ replicate (width - length bits) (top_bit bits) ≡ resized true width bits
resized-wider width bits h =
    let split : width ≡ length bits + (width - length bits) = omega (arith, h) in
    sym (ap (λ n. take n (bits ++ replicate width (top_bit bits))) split ∙ take-append-add bits (replicate width (top_bit bits)) (width - length bits)
    ∙ ap (λ xs. bits ++ xs) (take-replicate (width - length bits) width (top_bit bits) (omega arith)))

-- Shifts

module _ (bits : LogicValue) (w n : ℕ) (wide : w ≡ length bits) (narrow : w ≤ 128) where
  shifted_plane : (test : Bit → Bool) → test Zero ≡ false → (x y : ℕ) → x ≡ plane_of test bits → y ≡ 2 ^ w - 1 →
      bit_and ((x * 2 ^ n) % 2 ^ 128) y ≡ plane_of test (take (length bits) (replicate n Zero ++ bits))
  shifted_plane test h x y hx hy =
      let zeros : plane_of test (replicate n Zero) ≡ 0 = plane_of-replicate test n Zero ∙ ap (λ t. one_if t * (2 ^ n - 1)) h ∙ omega arith in
      let whole : plane_of test (replicate n Zero ++ bits) ≡ x * 2 ^ n
      = plane_of-append test (replicate n Zero) bits ∙ ap₂ (λ a b. a + 2 ^ b * plane_of test bits) zeros (length-replicate n Zero) ∙ ap (λ a. 0 + 2 ^ n * a) (sym hx) ∙ omega arith in
      ap (bit_and ((x * 2 ^ n) % 2 ^ 128)) hy ∙ and_mask ((x * 2 ^ n) % 2 ^ 128) w ∙ mod_narrower (x * 2 ^ n) w 128 narrow
      ∙ ap (λ a. a % 2 ^ w) (sym whole) ∙ ap (λ a. plane_of test (replicate n Zero ++ bits) % 2 ^ a) wide ∙ sym (plane_of-take test (length bits) (replicate n Zero ++ bits))

pub shl_fields : (bits : LogicValue) (w o u n m k : ℕ) → AreFields bits w o u → w ≤ 128 → m ≡ 2 ^ w - 1 → k ≡ 2 ^ w - 1 →
    AreFields (take (length bits) (replicate n Zero ++ bits)) w (bit_and ((o * 2 ^ n) % 2 ^ 128) m) (bit_and ((u * 2 ^ n) % 2 ^ 128) k)
shl_fields bits w o u n m k f narrow hm hk = record {
  wide = omega (arith, f.wide, length-take (length bits) (replicate n Zero ++ bits), length-append (replicate n Zero) bits, length-replicate n Zero);
  in_ones = shifted_plane bits w n f.wide narrow is_one_or_z refl o m f.in_ones hm;
  in_unknowns = shifted_plane bits w n f.wide narrow is_unknown refl u k f.in_unknowns hk;
}

pub shl_all : (bits : LogicValue) (n : ℕ) → length bits ≤ n → replicate (length bits) Zero ≡ take (length bits) (replicate (min n (length bits)) Zero ++ bits)
shl_all bits n h =
    let e : min n (length bits) ≡ length bits = omega (arith, h) in
    rw e (sym (take_at (replicate (length bits) Zero) bits (length bits) (length-replicate (length bits) Zero)))

pub shr_all : (bits : LogicValue) (n : ℕ) (fill : Bit) → length bits ≤ n → replicate (length bits) fill ≡ drop (min n (length bits)) bits ++ replicate (min n (length bits)) fill
shr_all bits n fill h =
    let e : min n (length bits) ≡ length bits = omega (arith, h) in
    rw (e, drop_all (length bits) bits (omega arith))

-- one more bit, read from the least significant on
pub plane_of-more : (test : Bit → Bool) (bits : LogicValue) (i : ℕ) (d : Bit) (m b : ℕ) → i < length bits → length bits ≤ 128 → m ≡ plane_of test (take i bits) →
    b ≡ one_if (test (get_or bits i d)) → bit_or m ((b * 2 ^ i) % 2 ^ 128) ≡ plane_of test (take (i + 1) bits)
plane_of-more test bits i d m b h narrow hm hb =
    let taken : length (take i bits) ≡ i = length-take-le i bits (omega (arith, h)) in
    let below : m < 2 ^ i = rw (hm) (omega (arith, plane_of-lt test (take i bits), ap (λ k. 2 ^ k) taken)) in
    let one : b < 2 = omega (arith, hb, one_if-lt (test (get_or bits i d))) in
    let more : plane_of test (take (i + 1) bits) ≡ plane_of test (take i bits) + 2 ^ i * (one_if (test (get_or bits i d)) + 2 * 0)
    = ap (plane_of test) (take_more bits i d h) ∙ plane_of-append test (take i bits) (get_or bits i d ∷ [])
    ∙ ap (λ k. plane_of test (take i bits) + 2 ^ k * (one_if (test (get_or bits i d)) + 2 * 0)) taken in
    let whole : b * 2 ^ i + m ≡ plane_of test (take i bits) + 2 ^ i * (one_if (test (get_or bits i d)) + 2 * 0) = rw (hm, hb) (omega arith) in
    ap (bit_or m) (shl_whole b 1 i 128 one (omega (arith, h, narrow))) ∙ or_comm m (b * 2 ^ i) ∙ or_shifted b i m below ∙ whole ∙ sym more

pub byte_of_bool : (b : Bool) → bool_byte b ≡ one_if b
byte_of_bool true = refl
byte_of_bool false = refl
