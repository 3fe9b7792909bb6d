-- The planes of what the operators that work bit by bit answer.
use Rattle.std.proofs.Common.{◌≡◌, ℕ, suc, ◌+◌, ◌-◌, ◌*◌, ◌^◌, ◌≤◌, Bool, true, false, not, ◌&&◌, ◌||◌, [], ◌∷◌, length, refl, ap, ap₂, sym, ◌∙◌, arith}
use Rattle.std.specs.Int.Bits.{bit_and, bit_or, bit_xor}
use Rattle.std.specs.List.{zip}
use Rattle.four_value.specs.Bits.{is_one, is_not_zero, is_unknown, and_bit, or_bit, xor_bit, not_bit, merge_bit}
use Rattle.four_value.specs.Planes.{is_one_or_z, one_if, plane_of}
use Rattle.four_value.specs.ValueLaws.{length-bit_by_bit}
use Rattle.four_value.specs.Values.{LogicValue, bit_by_bit, and_value, or_value, xor_value, not_value, merged}
use Rattle.four_value.specs.declared.logic.Bit.{Bit}
use Rattle.four_value.specs.declared.logic.Bit.TheVariants.{Zero, One, X, Z}
use Rattle.four_value.proofs.Words.{either_one}
use Rattle.four_value.proofs.Planes.{plane_of-and, plane_of-or, plane_of-xor, plane_of-and_inverse, plane_of-same, plane_of-map, plane_of-all}
use Rattle.four_value.proofs.Views.{AreFields}
use Rattle.std.proofs.lemmas.List.{length-map}

-- Tables: what holds of each bit, shown by the four or the sixteen cases

and_left : (x y : Bool) → (x && y) ≡ true → x ≡ true
and_left true y h = refl
and_left false y h = h

and_right : (x y : Bool) → (x && y) ≡ true → y ≡ true
and_right true y h = h
and_right false y h = cc

abbrev pub every : (Bit → Bool) → Bool
every p = (p Zero && p One) && (p X && p Z)

every-at : (p : Bit → Bool) → every p ≡ true → (b : Bit) → p b ≡ true
every-at p h Zero = and_left (p Zero) (p One) (and_left (p Zero && p One) (p X && p Z) h)
every-at p h One = and_right (p Zero) (p One) (and_left (p Zero && p One) (p X && p Z) h)
every-at p h X = and_left (p X) (p Z) (and_right (p Zero && p One) (p X && p Z) h)
every-at p h Z = and_right (p X) (p Z) (and_right (p Zero && p One) (p X && p Z) h)

abbrev pub agree : Bool → Bool → Bool
agree true y = y
agree false y = not y

from_agree : (x y : Bool) → agree x y ≡ true → x ≡ y
from_agree true true h = refl
from_agree true false h = cc
from_agree false true h = cc
from_agree false false h = refl

pub by_table : (f g : Bit → Bool) → every (λ b. agree (f b) (g b)) ≡ true → (b : Bit) → f b ≡ g b
by_table f g h b = from_agree (f b) (g b) (every-at (λ b. agree (f b) (g b)) h b)

pub by_pair_table : (f g : Bit × Bit → Bool) → every (λ a. every (λ b. agree (f (a, b)) (g (a, b)))) ≡ true → (p : Bit × Bit) → f p ≡ g p
by_pair_table f g h p =
    from_agree (f p) (g p) (every-at (λ b. agree (f (p.0, b)) (g (p.0, b))) (every-at (λ a. every (λ b. agree (f (a, b)) (g (a, b)))) h p.0) p.1)

-- Two values side by side

pub plane_of-left : (f : Bit → Bool) (a b : LogicValue) → length a ≡ length b → plane_of f a ≡ plane_of (λ p. f p.0) (zip a b)
plane_of-left f [] b h = refl
plane_of-left f (x ∷ a) [] h = absurd (omega (arith, h))
plane_of-left f (x ∷ a) (y ∷ b) h = ap (λ n. one_if (f x) + 2 * n) (plane_of-left f a b (omega (arith, h)))

pub plane_of-right : (f : Bit → Bool) (a b : LogicValue) → length a ≡ length b → plane_of f b ≡ plane_of (λ p. f p.1) (zip a b)
plane_of-right f [] [] h = refl
plane_of-right f [] (y ∷ b) h = absurd (omega (arith, h))
plane_of-right f (x ∷ a) [] h = absurd (omega (arith, h))
plane_of-right f (x ∷ a) (y ∷ b) h = ap (λ n. one_if (f y) + 2 * n) (plane_of-right f a b (omega (arith, h)))

pub plane_of-bit_by_bit : (test : Bit → Bool) (f : Bit → Bit → Bit) (a b : LogicValue) → plane_of test (bit_by_bit f a b) ≡ plane_of (λ p. test (f p.0 p.1)) (zip a b)
plane_of-bit_by_bit test f [] b = refl
plane_of-bit_by_bit test f (x ∷ a) [] = refl
plane_of-bit_by_bit test f (x ∷ a) (y ∷ b) = ap (λ n. one_if (test (f x y)) + 2 * n) (plane_of-bit_by_bit test f a b)

pub length-zip_same : (a b : LogicValue) → length a ≡ length b → length (zip a b) ≡ length a
length-zip_same [] b h = refl
length-zip_same (x ∷ a) [] h = absurd (omega (arith, h))
length-zip_same (x ∷ a) (y ∷ b) h = ap suc (length-zip_same a b (omega (arith, h)))

pub both_planes : (f g : Bit → Bool) (a b : LogicValue) → length a ≡ length b → bit_and (plane_of f a) (plane_of g b) ≡ plane_of (λ p. f p.0 && g p.1) (zip a b)
both_planes f g a b h = ap₂ bit_and (plane_of-left f a b h) (plane_of-right g a b h) ∙ plane_of-and (λ p. f p.0) (λ p. g p.1) (zip a b)

pub some_plane : (f g : Bit → Bool) (a b : LogicValue) → length a ≡ length b → bit_or (plane_of f a) (plane_of g b) ≡ plane_of (λ p. f p.0 || g p.1) (zip a b)
some_plane f g a b h = ap₂ bit_or (plane_of-left f a b h) (plane_of-right g a b h) ∙ plane_of-or (λ p. f p.0) (λ p. g p.1) (zip a b)

pub one_plane : (f g : Bit → Bool) (a b : LogicValue) → length a ≡ length b → bit_xor (plane_of f a) (plane_of g b) ≡ plane_of (λ p. either_one (f p.0) (g p.1)) (zip a b)
one_plane f g a b h = ap₂ bit_xor (plane_of-left f a b h) (plane_of-right g a b h) ∙ plane_of-xor (λ p. f p.0) (λ p. g p.1) (zip a b)

-- One value

pub surely_one-plane : (bits : LogicValue) → length bits ≤ 128 → bit_and (plane_of is_one_or_z bits) (2 ^ 128 - 1 - plane_of is_unknown bits) ≡ plane_of is_one bits
surely_one-plane bits h =
    plane_of-and_inverse is_one_or_z is_unknown bits 128 h ∙ plane_of-same (λ b. is_one_or_z b && not (is_unknown b)) is_one (by_table (λ b. is_one_or_z b && not (is_unknown b)) is_one refl) bits

pub maybe_one-plane : (bits : LogicValue) → bit_or (plane_of is_one_or_z bits) (plane_of is_unknown bits) ≡ plane_of is_not_zero bits
maybe_one-plane bits =
    plane_of-or is_one_or_z is_unknown bits ∙ plane_of-same (λ b. is_one_or_z b || is_unknown b) is_not_zero (by_table (λ b. is_one_or_z b || is_unknown b) is_not_zero refl) bits

-- The operators: two numbers, which digits are surely 1 and which may be, give the planes

module _ (f : Bit → Bit → Bit) (surely maybe : Bit × Bit → Bool) where
  -- the digits that f surely sets are its ones, and those that it may set besides are x
  pub ones_from_rails : every (λ a. every (λ b. agree (surely (a, b)) (is_one_or_z (f a b)))) ≡ true → (a b : LogicValue) (m : ℕ) → m ≡ plane_of surely (zip a b) →
      m ≡ plane_of is_one_or_z (bit_by_bit f a b)
  ones_from_rails table a b m e =
      e ∙ plane_of-same surely (λ p. is_one_or_z (f p.0 p.1)) (by_pair_table surely (λ p. is_one_or_z (f p.0 p.1)) table) (zip a b) ∙ sym (plane_of-bit_by_bit is_one_or_z f a b)

  pub unknowns_from_rails : every (λ a. every (λ b. agree (either_one (surely (a, b)) (maybe (a, b))) (is_unknown (f a b)))) ≡ true → (a b : LogicValue) (m n : ℕ) →
      m ≡ plane_of surely (zip a b) → n ≡ plane_of maybe (zip a b) → bit_xor m n ≡ plane_of is_unknown (bit_by_bit f a b)
  unknowns_from_rails table a b m n e d =
      ap₂ bit_xor e d ∙ plane_of-xor surely maybe (zip a b)
      ∙ plane_of-same (λ p. either_one (surely p) (maybe p)) (λ p. is_unknown (f p.0 p.1)) (by_pair_table (λ p. either_one (surely p) (maybe p)) (λ p. is_unknown (f p.0 p.1)) table) (zip a b)
      ∙ sym (plane_of-bit_by_bit is_unknown f a b)

-- The fields of each operator's answer

pub and_fields : (a b : LogicValue) (w s₁ s₂ m₁ m₂ : ℕ) → w ≡ length a → length a ≡ length b →
    s₁ ≡ plane_of is_one a → s₂ ≡ plane_of is_one b → m₁ ≡ plane_of is_not_zero a → m₂ ≡ plane_of is_not_zero b →
    AreFields (and_value a b) w (bit_and s₁ s₂) (bit_xor (bit_and s₁ s₂) (bit_and m₁ m₂))
and_fields a b w s₁ s₂ m₁ m₂ e h p q r t =
    let S : Bit × Bit → Bool = λ p. is_one p.0 && is_one p.1 in
    let M : Bit × Bit → Bool = λ p. is_not_zero p.0 && is_not_zero p.1 in
    let surely : bit_and s₁ s₂ ≡ plane_of S (zip a b) = ap₂ bit_and p q ∙ both_planes is_one is_one a b h in
    let maybe : bit_and m₁ m₂ ≡ plane_of M (zip a b) = ap₂ bit_and r t ∙ both_planes is_not_zero is_not_zero a b h in
    record {
      wide = e ∙ sym (length-bit_by_bit and_bit a b h);
      in_ones = ones_from_rails and_bit S M refl a b (bit_and s₁ s₂) surely;
      in_unknowns = unknowns_from_rails and_bit S M refl a b (bit_and s₁ s₂) (bit_and m₁ m₂) surely maybe;
    }

pub or_fields : (a b : LogicValue) (w s₁ s₂ m₁ m₂ : ℕ) → w ≡ length a → length a ≡ length b →
    s₁ ≡ plane_of is_one a → s₂ ≡ plane_of is_one b → m₁ ≡ plane_of is_not_zero a → m₂ ≡ plane_of is_not_zero b →
    AreFields (or_value a b) w (bit_or s₁ s₂) (bit_xor (bit_or s₁ s₂) (bit_or m₁ m₂))
or_fields a b w s₁ s₂ m₁ m₂ e h p q r t =
    let S : Bit × Bit → Bool = λ p. is_one p.0 || is_one p.1 in
    let M : Bit × Bit → Bool = λ p. is_not_zero p.0 || is_not_zero p.1 in
    let surely : bit_or s₁ s₂ ≡ plane_of S (zip a b) = ap₂ bit_or p q ∙ some_plane is_one is_one a b h in
    let maybe : bit_or m₁ m₂ ≡ plane_of M (zip a b) = ap₂ bit_or r t ∙ some_plane is_not_zero is_not_zero a b h in
    record {
      wide = e ∙ sym (length-bit_by_bit or_bit a b h);
      in_ones = ones_from_rails or_bit S M refl a b (bit_or s₁ s₂) surely;
      in_unknowns = unknowns_from_rails or_bit S M refl a b (bit_or s₁ s₂) (bit_or m₁ m₂) surely maybe;
    }

pub merge_fields : (a b : LogicValue) (w s₁ s₂ m₁ m₂ : ℕ) → w ≡ length a → length a ≡ length b →
    s₁ ≡ plane_of is_one a → s₂ ≡ plane_of is_one b → m₁ ≡ plane_of is_not_zero a → m₂ ≡ plane_of is_not_zero b →
    AreFields (merged a b) w (bit_and s₁ s₂) (bit_xor (bit_and s₁ s₂) (bit_or m₁ m₂))
merge_fields a b w s₁ s₂ m₁ m₂ e h p q r t =
    let S : Bit × Bit → Bool = λ p. is_one p.0 && is_one p.1 in
    let M : Bit × Bit → Bool = λ p. is_not_zero p.0 || is_not_zero p.1 in
    let surely : bit_and s₁ s₂ ≡ plane_of S (zip a b) = ap₂ bit_and p q ∙ both_planes is_one is_one a b h in
    let maybe : bit_or m₁ m₂ ≡ plane_of M (zip a b) = ap₂ bit_or r t ∙ some_plane is_not_zero is_not_zero a b h in
    record {
      wide = e ∙ sym (length-bit_by_bit merge_bit a b h);
      in_ones = ones_from_rails merge_bit S M refl a b (bit_and s₁ s₂) surely;
      in_unknowns = unknowns_from_rails merge_bit S M refl a b (bit_and s₁ s₂) (bit_or m₁ m₂) surely maybe;
    }

-- the digits in which two planes differ, but for those of a third
pub differing-plane : (f g : Bit → Bool) (ignored test : Bit × Bit → Bool) →
    every (λ a. every (λ b. agree (either_one (f a) (g b) && not (ignored (a, b))) (test (a, b)))) ≡ true → (a b : LogicValue) → length a ≡ length b → length a ≤ 128 →
    (m n i : ℕ) → m ≡ plane_of f a → n ≡ plane_of g b → i ≡ plane_of ignored (zip a b) → bit_and (bit_xor m n) (2 ^ 128 - 1 - i) ≡ plane_of test (zip a b)
differing-plane f g ignored test table a b h narrow m n i p q r =
    let zipped : length (zip a b) ≤ 128 = omega (arith, length-zip_same a b h, narrow) in
    ap₂ (λ x y. bit_and x (2 ^ 128 - 1 - y)) (ap₂ bit_xor p q ∙ one_plane f g a b h) r
    ∙ plane_of-and_inverse (λ p. either_one (f p.0) (g p.1)) ignored (zip a b) 128 zipped
    ∙ plane_of-same (λ p. either_one (f p.0) (g p.1) && not (ignored p)) test (by_pair_table (λ p. either_one (f p.0) (g p.1) && not (ignored p)) test table) (zip a b)

abbrev pub some_unknown : Bit × Bit → Bool
some_unknown p = is_unknown p.0 || is_unknown p.1

pub xor_fields : (a b : LogicValue) (w v o₁ u₁ o₂ u₂ : ℕ) → AreFields a w o₁ u₁ → AreFields b v o₂ u₂ → length a ≡ length b → w ≤ 128 →
    AreFields (xor_value a b) w (bit_and (bit_xor o₁ o₂) (2 ^ 128 - 1 - bit_or u₁ u₂)) (bit_or u₁ u₂)
xor_fields a b w v o₁ u₁ o₂ u₂ f g h narrow =
    let unknowns : bit_or u₁ u₂ ≡ plane_of some_unknown (zip a b) = ap₂ bit_or f.in_unknowns g.in_unknowns ∙ some_plane is_unknown is_unknown a b h in
    let within : length a ≤ 128 = omega (arith, f.wide, narrow) in
    record {
      wide = f.wide ∙ sym (length-bit_by_bit xor_bit a b h);
      in_ones =
          differing-plane is_one_or_z is_one_or_z some_unknown (λ p. is_one_or_z (xor_bit p.0 p.1)) refl a b h within o₁ o₂ (bit_or u₁ u₂) f.in_ones g.in_ones unknowns
          ∙ sym (plane_of-bit_by_bit is_one_or_z xor_bit a b);
      in_unknowns =
          unknowns ∙ plane_of-same some_unknown (λ p. is_unknown (xor_bit p.0 p.1)) (by_pair_table some_unknown (λ p. is_unknown (xor_bit p.0 p.1)) refl) (zip a b)
          ∙ sym (plane_of-bit_by_bit is_unknown xor_bit a b);
    }

pub not_fields : (a : LogicValue) (w o u m k : ℕ) → AreFields a w o u → m ≡ plane_of is_not_zero a → k ≡ 2 ^ w - 1 → AreFields (not_value a) w (bit_xor k m) u
not_fields a w o u m k f e d =
    let full : k ≡ plane_of (λ (b : Bit). true) a = d ∙ ap (λ n. 2 ^ n - 1) f.wide ∙ sym (plane_of-all a) in
    record {
      wide = f.wide ∙ sym (length-map a not_bit);
      in_ones =
          ap₂ bit_xor full e ∙ plane_of-xor (λ b. true) is_not_zero a
          ∙ plane_of-same (λ b. either_one true (is_not_zero b)) (λ b. is_one_or_z (not_bit b)) (by_table (λ b. either_one true (is_not_zero b)) (λ b. is_one_or_z (not_bit b)) refl) a
          ∙ sym (plane_of-map is_one_or_z not_bit a);
      in_unknowns =
          f.in_unknowns ∙ plane_of-same is_unknown (λ b. is_unknown (not_bit b)) (by_table is_unknown (λ b. is_unknown (not_bit b)) refl) a
          ∙ sym (plane_of-map is_unknown not_bit a);
    }
