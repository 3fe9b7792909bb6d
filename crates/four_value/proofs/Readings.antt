-- What the fields of a value tell: tests, numbers, equality, labels of a case, reductions.
use Rattle.std.proofs.Common.{◌≡◌, ℕ, zero, suc, ◌+◌, ◌-◌, ◌*◌, ◌%◌, ◌^◌, ◌≤◌, Bool, true, false, not, ◌&&◌, ◌||◌, [], ◌∷◌, map, length, refl, ap, ap₂, sym, ◌∙◌, arith, Option, Some, None}
use Rattle.std.specs.Prelude.{nat_eq}
use Rattle.std.specs.Int.Bits.{bit_and, bit_or, bit_xor}
use Rattle.std.specs.Int.Count.{ones, ones_in}
use Rattle.std.specs.List.{zip, fold}
use Rattle.std.proofs.Math.Dec.{eqb-suc-zero}
use Rattle.std.proofs.lemmas.Nat.{le_or_l, le_or_r, ones_cat}
use Rattle.four_value.specs.Bits.{is_z, is_one, is_unknown, same_bit, differ, bit_of, not_bit, known_or_x, and_bit, or_bit, xor_bit}
use Rattle.four_value.specs.Planes.{is_one_or_z, one_if, plane_of}
use Rattle.four_value.specs.ValueLaws.{same_value-refl, from_same_value}
use Rattle.four_value.specs.Values.{LogicValue, some_bit, some_place, each_place, number_of, with_low_bit, logical_equality, same_value, truth_by, truth_of, truth_bit, reduced, not_value}
use Rattle.four_value.specs.Operators.{is_ignored, label_bit_matches, label_matches}
use Rattle.four_value.specs.declared.operator.CaseKind.{CaseKind}
use Rattle.four_value.specs.declared.operator.CaseKind.TheVariants.{Exact, IgnoreZ, IgnoreXz}
use Rattle.four_value.specs.declared.logic.Bit.{Bit}
use Rattle.four_value.specs.declared.logic.Bit.TheVariants.{Zero, One, X, Z}
use Rattle.four_value.proofs.Words.{either_one}
use Rattle.four_value.proofs.Planes.{plane_of-and, plane_of-or, plane_of-and_inverse, plane_of-same}
use Rattle.four_value.proofs.Views.{AreFields, bits_in_planes-plane_of}
use Rattle.four_value.proofs.Bitwise.{by_table, by_pair_table, one_plane, some_plane, differing-plane, some_unknown, length-zip_same}

-- A test that some bit or some place passes

some_digit : (x y : Bool) (m : ℕ) → (one_if x + 2 * m ≡ 0 → ⊥) → ((m ≡ 0 → ⊥) → y ≡ true) → (x || y) ≡ true
some_digit true y m h next = refl
some_digit false y m h next = next (λ e. h (omega (arith, e)))

no_digit : (x y : Bool) (m : ℕ) → one_if x + 2 * m ≡ 0 → (m ≡ 0 → y ≡ false) → (x || y) ≡ false
no_digit true y m h next = absurd (omega (arith, h))
no_digit false y m h next = next (omega (arith, h))

pub some_bit-true : (test : Bit → Bool) (bits : LogicValue) → (plane_of test bits ≡ 0 → ⊥) → some_bit test bits ≡ true
some_bit-true test [] h = absurd (h refl)
some_bit-true test (b ∷ bits) h = some_digit (test b) (some_bit test bits) (plane_of test bits) h (some_bit-true test bits)

pub some_bit-false : (test : Bit → Bool) (bits : LogicValue) → plane_of test bits ≡ 0 → some_bit test bits ≡ false
some_bit-false test [] h = refl
some_bit-false test (b ∷ bits) h = no_digit (test b) (some_bit test bits) (plane_of test bits) h (some_bit-false test bits)

pub some_place-true : (test : Bit → Bit → Bool) (a b : LogicValue) → (plane_of (λ p. test p.0 p.1) (zip a b) ≡ 0 → ⊥) → some_place test a b ≡ true
some_place-true test [] b h = absurd (h refl)
some_place-true test (x ∷ a) [] h = absurd (h refl)
some_place-true test (x ∷ a) (y ∷ b) h = some_digit (test x y) (some_place test a b) (plane_of (λ p. test p.0 p.1) (zip a b)) h (some_place-true test a b)

pub some_place-false : (test : Bit → Bit → Bool) (a b : LogicValue) → plane_of (λ p. test p.0 p.1) (zip a b) ≡ 0 → some_place test a b ≡ false
some_place-false test [] b h = refl
some_place-false test (x ∷ a) [] h = refl
some_place-false test (x ∷ a) (y ∷ b) h = no_digit (test x y) (some_place test a b) (plane_of (λ p. test p.0 p.1) (zip a b)) h (some_place-false test a b)

no_digit_all : (x y : Bool) (m : ℕ) → (nat_eq m 0 ≡ y) → nat_eq (one_if (not x) + 2 * m) 0 ≡ (x && y)
no_digit_all true y zero h = h
no_digit_all true y (suc m) h = let e : 0 + 2 * suc m ≡ suc (suc (2 * m)) = omega arith in rw e (eqb-suc-zero (suc (2 * m)) ∙ sym (eqb-suc-zero m) ∙ h)
no_digit_all false y m h = let e : 1 + 2 * m ≡ suc (2 * m) = omega arith in rw (e, eqb-suc-zero (2 * m))

pub each_place-plane : (test : Bit → Bit → Bool) (a b : LogicValue) → length a ≡ length b → nat_eq (plane_of (λ p. not (test p.0 p.1)) (zip a b)) 0 ≡ each_place test a b
each_place-plane test [] [] h = refl
each_place-plane test [] (y ∷ b) h = absurd (omega (arith, h))
each_place-plane test (x ∷ a) [] h = absurd (omega (arith, h))
each_place-plane test (x ∷ a) (y ∷ b) h =
    no_digit_all (test x y) (each_place test a b) (plane_of (λ p. not (test p.0 p.1)) (zip a b)) (each_place-plane test a b (omega (arith, h)))

-- Numbers

unknown_low : (n : Option ℕ) → with_low_bit X n ≡ None
unknown_low None = refl
unknown_low (Some n) = refl

unknown_low_z : (n : Option ℕ) → with_low_bit Z n ≡ None
unknown_low_z None = refl
unknown_low_z (Some n) = refl

pub number_of-known : (bits : LogicValue) → plane_of is_unknown bits ≡ 0 → number_of bits ≡ Some (plane_of is_one_or_z bits)
number_of-known [] h = refl
number_of-known (Zero ∷ bits) h = ap (with_low_bit Zero) (number_of-known bits (omega (arith, h))) ∙ ap Some (omega arith)
number_of-known (One ∷ bits) h = ap (with_low_bit One) (number_of-known bits (omega (arith, h))) ∙ ap Some (omega arith)
number_of-known (X ∷ bits) h = absurd (omega (arith, h))
number_of-known (Z ∷ bits) h = absurd (omega (arith, h))

pub number_of-unknown : (bits : LogicValue) → (plane_of is_unknown bits ≡ 0 → ⊥) → number_of bits ≡ None
number_of-unknown [] h = absurd (h refl)
number_of-unknown (Zero ∷ bits) h = ap (with_low_bit Zero) (number_of-unknown bits (λ e. h (omega (arith, e))))
number_of-unknown (One ∷ bits) h = ap (with_low_bit One) (number_of-unknown bits (λ e. h (omega (arith, e))))
number_of-unknown (X ∷ bits) h = unknown_low (number_of bits)
number_of-unknown (Z ∷ bits) h = unknown_low_z (number_of bits)

-- Equality

pub some_unknown-true : (a b : LogicValue) (m n : ℕ) → m ≡ plane_of is_unknown a → n ≡ plane_of is_unknown b → (bit_or m n ≡ 0 → ⊥) →
    (some_bit is_unknown a || some_bit is_unknown b) ≡ true
some_unknown-true a b zero n p q h =
    let second : some_bit is_unknown b ≡ true = some_bit-true is_unknown b (λ e. h (q ∙ e)) in
    rw (some_bit-false is_unknown a (sym p), second)
some_unknown-true a b (suc m) n p q h =
    let first : some_bit is_unknown a ≡ true = some_bit-true is_unknown a (λ e. omega (arith, p, e)) in
    rw first

pub some_unknown-false : (a b : LogicValue) (m n : ℕ) → m ≡ plane_of is_unknown a → n ≡ plane_of is_unknown b → bit_or m n ≡ 0 →
    (some_bit is_unknown a || some_bit is_unknown b) ≡ false
some_unknown-false a b m n p q h =
    let first : plane_of is_unknown a ≡ 0 = omega (arith, p, h, le_or_l m n) in
    let second : plane_of is_unknown b ≡ 0 = omega (arith, q, h, le_or_r m n) in
    rw (some_bit-false is_unknown a first, some_bit-false is_unknown b second)

pub differing_places : (a b : LogicValue) (w v o₁ u₁ o₂ u₂ : ℕ) → AreFields a w o₁ u₁ → AreFields b v o₂ u₂ → length a ≡ length b → w ≤ 128 →
    bit_and (bit_xor o₁ o₂) (2 ^ 128 - 1 - bit_or u₁ u₂) ≡ plane_of (λ p. differ p.0 p.1) (zip a b)
differing_places a b w v o₁ u₁ o₂ u₂ f g h narrow =
    differing-plane is_one_or_z is_one_or_z some_unknown (λ p. differ p.0 p.1) refl a b h (omega (arith, f.wide, narrow)) o₁ o₂ (bit_or u₁ u₂) f.in_ones g.in_ones
    (ap₂ bit_or f.in_unknowns g.in_unknowns ∙ some_plane is_unknown is_unknown a b h)

module _ (a b : LogicValue) (w v o₁ u₁ o₂ u₂ : ℕ) (f : AreFields a w o₁ u₁) (g : AreFields b v o₂ u₂) (h : length a ≡ length b) (narrow : w ≤ 128) where
  pub equality-zero : (bit_and (bit_xor o₁ o₂) (2 ^ 128 - 1 - bit_or u₁ u₂) ≡ 0 → ⊥) → Zero ≡ logical_equality a b
  equality-zero t =
      let e : some_place differ a b ≡ true = some_place-true differ a b (λ d. t (differing_places a b w v o₁ u₁ o₂ u₂ f g h narrow ∙ d)) in
      rw e

  pub equality-x : bit_and (bit_xor o₁ o₂) (2 ^ 128 - 1 - bit_or u₁ u₂) ≡ 0 → (bit_or u₁ u₂ ≡ 0 → ⊥) → X ≡ logical_equality a b
  equality-x t s =
      let e : some_place differ a b ≡ false = some_place-false differ a b (sym (differing_places a b w v o₁ u₁ o₂ u₂ f g h narrow) ∙ t) in
      let d : (some_bit is_unknown a || some_bit is_unknown b) ≡ true = some_unknown-true a b u₁ u₂ f.in_unknowns g.in_unknowns s in
      rw (e, d)

  pub equality-one : bit_and (bit_xor o₁ o₂) (2 ^ 128 - 1 - bit_or u₁ u₂) ≡ 0 → bit_or u₁ u₂ ≡ 0 → One ≡ logical_equality a b
  equality-one t s =
      let e : some_place differ a b ≡ false = some_place-false differ a b (sym (differing_places a b w v o₁ u₁ o₂ u₂ f g h narrow) ∙ t) in
      let d : (some_bit is_unknown a || some_bit is_unknown b) ≡ false = some_unknown-false a b u₁ u₂ f.in_unknowns g.in_unknowns s in
      rw (e, d)

-- values with equal fields are the same, and others are not
pub same_fields : (a b : LogicValue) (w v o₁ u₁ o₂ u₂ : ℕ) → AreFields a w o₁ u₁ → AreFields b v o₂ u₂ → length a ≡ length b → o₁ ≡ o₂ → u₁ ≡ u₂ → true ≡ same_value a b
same_fields a b w v o₁ u₁ o₂ u₂ f g h p q =
    let ones : plane_of is_one_or_z a ≡ plane_of is_one_or_z b = sym f.in_ones ∙ p ∙ g.in_ones in
    let unknowns : plane_of is_unknown a ≡ plane_of is_unknown b = sym f.in_unknowns ∙ q ∙ g.in_unknowns in
    let e : a ≡ b = sym (bits_in_planes-plane_of a) ∙ rw (h, ones, unknowns) (bits_in_planes-plane_of b) in
    rw (e, same_value-refl b)

false_unless : (x : Bool) → (x ≡ true → ⊥) → false ≡ x
false_unless true h = absurd (h refl)
false_unless false h = refl

pub other_ones : (a b : LogicValue) (w v o₁ u₁ o₂ u₂ : ℕ) → AreFields a w o₁ u₁ → AreFields b v o₂ u₂ → (o₁ ≡ o₂ → ⊥) → false ≡ same_value a b
other_ones a b w v o₁ u₁ o₂ u₂ f g h = false_unless (same_value a b) (λ e. h (f.in_ones ∙ ap (plane_of is_one_or_z) (from_same_value a b e) ∙ sym g.in_ones))

pub other_unknowns : (a b : LogicValue) (w v o₁ u₁ o₂ u₂ : ℕ) → AreFields a w o₁ u₁ → AreFields b v o₂ u₂ → (u₁ ≡ u₂ → ⊥) → false ≡ same_value a b
other_unknowns a b w v o₁ u₁ o₂ u₂ f g h = false_unless (same_value a b) (λ e. h (f.in_unknowns ∙ ap (plane_of is_unknown) (from_same_value a b e) ∙ sym g.in_unknowns))

-- Labels of a case

abbrev pub are_other : Bit × Bit → Bool
are_other p = not (same_bit p.0 p.1)

places_that_differ : (a b : LogicValue) (w v o₁ u₁ o₂ u₂ : ℕ) → AreFields a w o₁ u₁ → AreFields b v o₂ u₂ → length a ≡ length b →
    bit_or (bit_xor o₁ o₂) (bit_xor u₁ u₂) ≡ plane_of are_other (zip a b)
places_that_differ a b w v o₁ u₁ o₂ u₂ f g h =
    ap₂ bit_or (ap₂ bit_xor f.in_ones g.in_ones ∙ one_plane is_one_or_z is_one_or_z a b h) (ap₂ bit_xor f.in_unknowns g.in_unknowns ∙ one_plane is_unknown is_unknown a b h)
    ∙ plane_of-or (λ p. either_one (is_one_or_z p.0) (is_one_or_z p.1)) (λ p. either_one (is_unknown p.0) (is_unknown p.1)) (zip a b)
    ∙ plane_of-same (λ p. either_one (is_one_or_z p.0) (is_one_or_z p.1) || either_one (is_unknown p.0) (is_unknown p.1)) are_other
    (by_pair_table (λ p. either_one (is_one_or_z p.0) (is_one_or_z p.1) || either_one (is_unknown p.0) (is_unknown p.1)) are_other refl) (zip a b)

not_or : (x y : Bool) → (not y && not x) ≡ not (x || y)
not_or true true = refl
not_or true false = refl
not_or false true = refl
not_or false false = refl

pub label_matches-plane : (kind : CaseKind) (a b : LogicValue) (w v o₁ u₁ o₂ u₂ i : ℕ) → AreFields a w o₁ u₁ → AreFields b v o₂ u₂ → length a ≡ length b → w ≤ 128 →
    i ≡ plane_of (λ p. is_ignored kind p.0 p.1) (zip a b) → nat_eq (bit_and (bit_or (bit_xor o₁ o₂) (bit_xor u₁ u₂)) (2 ^ 128 - 1 - i)) 0 ≡ label_matches kind a b
label_matches-plane kind a b w v o₁ u₁ o₂ u₂ i f g h narrow e =
    let zipped : length (zip a b) ≤ 128 = omega (arith, length-zip_same a b h, f.wide, narrow) in
    ap (λ n. nat_eq n 0)
    (ap₂ (λ x y. bit_and x (2 ^ 128 - 1 - y)) (places_that_differ a b w v o₁ u₁ o₂ u₂ f g h) e
    ∙ plane_of-and_inverse are_other (λ p. is_ignored kind p.0 p.1) (zip a b) 128 zipped
    ∙ plane_of-same (λ p. are_other p && not (is_ignored kind p.0 p.1)) (λ p. not (label_bit_matches kind p.0 p.1)) (λ p. not_or (is_ignored kind p.0 p.1) (same_bit p.0 p.1)) (zip a b))
    ∙ each_place-plane (label_bit_matches kind) a b h

no_places : (a b : LogicValue) → 0 ≡ plane_of (λ (p : Bit × Bit). false) (zip a b)
no_places [] b = refl
no_places (x ∷ a) [] = refl
no_places (x ∷ a) (y ∷ b) = omega (arith, no_places a b)

pub ignored-exact : (a b : LogicValue) → 0 ≡ plane_of (λ p. is_ignored Exact p.0 p.1) (zip a b)
ignored-exact a b = no_places a b

z_plane : (a : LogicValue) → bit_and (plane_of is_one_or_z a) (plane_of is_unknown a) ≡ plane_of is_z a
z_plane a = plane_of-and is_one_or_z is_unknown a ∙ plane_of-same (λ b. is_one_or_z b && is_unknown b) is_z (by_table (λ b. is_one_or_z b && is_unknown b) is_z refl) a

pub ignored-z : (a b : LogicValue) (w v o₁ u₁ o₂ u₂ : ℕ) → AreFields a w o₁ u₁ → AreFields b v o₂ u₂ → length a ≡ length b →
    bit_or (bit_and o₁ u₁) (bit_and o₂ u₂) ≡ plane_of (λ p. is_ignored IgnoreZ p.0 p.1) (zip a b)
ignored-z a b w v o₁ u₁ o₂ u₂ f g h =
    ap₂ bit_or (ap₂ bit_and f.in_ones f.in_unknowns ∙ z_plane a) (ap₂ bit_and g.in_ones g.in_unknowns ∙ z_plane b) ∙ some_plane is_z is_z a b h

pub ignored-xz : (a b : LogicValue) (w v o₁ u₁ o₂ u₂ : ℕ) → AreFields a w o₁ u₁ → AreFields b v o₂ u₂ → length a ≡ length b →
    bit_or u₁ u₂ ≡ plane_of (λ p. is_ignored IgnoreXz p.0 p.1) (zip a b)
ignored-xz a b w v o₁ u₁ o₂ u₂ f g h = ap₂ bit_or f.in_unknowns g.in_unknowns ∙ some_plane is_unknown is_unknown a b h

-- Reductions

or_one : (bits : LogicValue) → fold or_bit One (map known_or_x bits) ≡ One
or_one [] = refl
or_one (b ∷ bits) = or_one bits

or_x : (bits : LogicValue) → fold or_bit X (map known_or_x bits) ≡ truth_bit (truth_by (some_bit is_one bits) true)
or_x [] = refl
or_x (Zero ∷ bits) = or_x bits
or_x (One ∷ bits) = or_one bits
or_x (X ∷ bits) = or_x bits
or_x (Z ∷ bits) = or_x bits

pub reduced-or : (bits : LogicValue) → reduced or_bit Zero bits ≡ truth_bit (truth_of bits)
reduced-or [] = refl
reduced-or (Zero ∷ bits) = reduced-or bits
reduced-or (One ∷ bits) = or_one bits
reduced-or (X ∷ bits) = or_x bits
reduced-or (Z ∷ bits) = or_x bits

-- what a fold by `and` has come to: 0, 1 or x
and_is_or : (s : Bit) → not_bit (not_bit s) ≡ s → (bits : LogicValue) → fold and_bit s (map known_or_x bits) ≡ not_bit (fold or_bit (not_bit s) (map known_or_x (map not_bit bits)))
and_is_or s h [] = sym h
and_is_or Zero h (b ∷ bits) = and_is_or Zero refl bits
and_is_or One h (Zero ∷ bits) = and_is_or Zero refl bits
and_is_or One h (One ∷ bits) = and_is_or One refl bits
and_is_or One h (X ∷ bits) = and_is_or X refl bits
and_is_or One h (Z ∷ bits) = and_is_or X refl bits
and_is_or X h (Zero ∷ bits) = and_is_or Zero refl bits
and_is_or X h (One ∷ bits) = and_is_or X refl bits
and_is_or X h (X ∷ bits) = and_is_or X refl bits
and_is_or X h (Z ∷ bits) = and_is_or X refl bits
and_is_or Z h (b ∷ bits) = cc

pub reduced-and : (bits : LogicValue) → not_bit (reduced or_bit Zero (not_value bits)) ≡ reduced and_bit One bits
reduced-and bits = sym (and_is_or One refl bits)

xor_x : (bits : LogicValue) → fold xor_bit X (map known_or_x bits) ≡ X
xor_x [] = refl
xor_x (b ∷ bits) = xor_x bits

xor_unknown : (s : Bool) (bits : LogicValue) → (plane_of is_unknown bits ≡ 0 → ⊥) → fold xor_bit (bit_of s) (map known_or_x bits) ≡ X
xor_unknown s [] h = absurd (h refl)
xor_unknown true (Zero ∷ bits) h = xor_unknown true bits (λ e. h (omega (arith, e)))
xor_unknown false (Zero ∷ bits) h = xor_unknown false bits (λ e. h (omega (arith, e)))
xor_unknown true (One ∷ bits) h = xor_unknown false bits (λ e. h (omega (arith, e)))
xor_unknown false (One ∷ bits) h = xor_unknown true bits (λ e. h (omega (arith, e)))
xor_unknown true (X ∷ bits) h = xor_x bits
xor_unknown false (X ∷ bits) h = xor_x bits
xor_unknown true (Z ∷ bits) h = xor_x bits
xor_unknown false (Z ∷ bits) h = xor_x bits

pub reduced-xor_unknown : (bits : LogicValue) → (plane_of is_unknown bits ≡ 0 → ⊥) → X ≡ reduced xor_bit Zero bits
reduced-xor_unknown bits h = sym (xor_unknown false bits h)

ones_zero : ones 0 ≡ 0
unfolding ones ones_in
ones_zero = refl

one_more : (b : Bool) (m : ℕ) → ones (one_if b + 2 * m) ≡ one_if b + ones m
unfolding ones
one_more true m = ap ones (omega arith) ∙ ones_cat 1 m 1 (omega arith) ∙ omega arith
one_more false m = ap ones (omega arith) ∙ ones_cat 1 m 0 (omega arith) ∙ omega arith

abbrev pub odd : ℕ → Bool
odd n = nat_eq (n % 2) 1

odd_two : (n m : ℕ) → n ≡ m + 2 → odd n ≡ odd m
odd_two n m e = let same : n % 2 ≡ m % 2 = omega (arith, e) in ap (λ k. nat_eq k 1) same

xor_known : (s : Bool) (bits : LogicValue) → plane_of is_unknown bits ≡ 0 → fold xor_bit (bit_of s) (map known_or_x bits) ≡ bit_of (odd (one_if s + ones (plane_of is_one_or_z bits)))
xor_known true [] h = ap (λ n. bit_of (odd (1 + n))) (sym ones_zero)
xor_known false [] h = ap (λ n. bit_of (odd (0 + n))) (sym ones_zero)
xor_known true (Zero ∷ bits) h =
    let e : one_if true + ones (plane_of is_one_or_z bits) ≡ one_if true + ones (one_if false + 2 * plane_of is_one_or_z bits) = omega (arith, one_more false (plane_of is_one_or_z bits)) in
    xor_known true bits (omega (arith, h)) ∙ ap (λ n. bit_of (odd n)) e
xor_known false (Zero ∷ bits) h =
    let e : one_if false + ones (plane_of is_one_or_z bits) ≡ one_if false + ones (one_if false + 2 * plane_of is_one_or_z bits) = omega (arith, one_more false (plane_of is_one_or_z bits)) in
    xor_known false bits (omega (arith, h)) ∙ ap (λ n. bit_of (odd n)) e
xor_known true (One ∷ bits) h =
    xor_known false bits (omega (arith, h))
    ∙ ap bit_of (sym (odd_two (one_if true + ones (one_if true + 2 * plane_of is_one_or_z bits)) (one_if false + ones (plane_of is_one_or_z bits))
    (omega (arith, one_more true (plane_of is_one_or_z bits)))))
xor_known false (One ∷ bits) h =
    let e : one_if true + ones (plane_of is_one_or_z bits) ≡ one_if false + ones (one_if true + 2 * plane_of is_one_or_z bits) = omega (arith, one_more true (plane_of is_one_or_z bits)) in
    xor_known true bits (omega (arith, h)) ∙ ap (λ n. bit_of (odd n)) e
xor_known s (X ∷ bits) h = absurd (omega (arith, h))
xor_known s (Z ∷ bits) h = absurd (omega (arith, h))

pub reduced-xor_known : (bits : LogicValue) (n : ℕ) → plane_of is_unknown bits ≡ 0 → n ≡ plane_of is_one_or_z bits → bit_of (odd (ones n)) ≡ reduced xor_bit Zero bits
reduced-xor_known bits n h e =
    let d : ones n ≡ one_if false + ones (plane_of is_one_or_z bits) = ap ones e ∙ omega arith in
    ap (λ m. bit_of (odd m)) d ∙ sym (xor_known false bits h)
