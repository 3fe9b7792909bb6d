-- Values and lists that are equal.
use Rattle.std.proofs.Common.{◌≡◌, ℕ, zero, suc, ◌<◌, Bool, true, false, ◌&&◌, List, [], ◌∷◌, length, get_or, map, refl, ap, sym, ◌∙◌, arith}
use Rattle.four_value.specs.Bits.{same_bit}
use Rattle.four_value.specs.Values.{LogicValue, each_place, same_value}
use Rattle.four_value.specs.declared.logic.Bit.{Bit}
use Rattle.four_value.specs.declared.logic.Bit.TheVariants.{Zero, One, X, Z}

pub and-left : (p q : Bool) → (p && q) ≡ true → p ≡ true
and-left true q h = refl
and-left false q h = h

pub and-right : (p q : Bool) → (p && q) ≡ true → q ≡ true
and-right true q h = h
and-right false q h = cc

same_bit-equal : (a b : Bit) → same_bit a b ≡ true → a ≡ b
same_bit-equal Zero Zero h = refl
same_bit-equal Zero One h = cc
same_bit-equal Zero X h = cc
same_bit-equal Zero Z h = cc
same_bit-equal One Zero h = cc
same_bit-equal One One h = refl
same_bit-equal One X h = cc
same_bit-equal One Z h = cc
same_bit-equal X Zero h = cc
same_bit-equal X One h = cc
same_bit-equal X X h = refl
same_bit-equal X Z h = cc
same_bit-equal Z Zero h = cc
same_bit-equal Z One h = cc
same_bit-equal Z X h = cc
same_bit-equal Z Z h = refl

same_bit-refl : (a : Bit) → same_bit a a ≡ true
same_bit-refl Zero = refl
same_bit-refl One = refl
same_bit-refl X = refl
same_bit-refl Z = refl

-- values that are the same are equal
pub same_value-equal : (a b : LogicValue) → same_value a b ≡ true → a ≡ b
same_value-equal [] [] h = refl
same_value-equal [] (b ∷ bits) h = cc
same_value-equal (a ∷ rest) [] h = cc
same_value-equal (a ∷ rest) (b ∷ bits) h =
    ap (λ x. x ∷ rest) (same_bit-equal a b (and-left (same_bit a b) (each_place same_bit rest bits) h))
    ∙ ap (λ xs. b ∷ xs) (same_value-equal rest bits (and-right (same_bit a b) (each_place same_bit rest bits) h))

-- a value is the same as itself
pub same_value-refl : (a : LogicValue) → same_value a a ≡ true
same_value-refl [] = refl
same_value-refl (a ∷ rest) = ap (λ p. p && each_place same_bit rest rest) (same_bit-refl a) ∙ same_value-refl rest

abbrev head_or : {A : Type 0} → A → List A → A
head_or x [] = x
head_or x (y ∷ ys) = y

abbrev tail_of : {A : Type 0} → List A → List A
tail_of [] = []
tail_of (y ∷ ys) = ys

head-same : {A : Type 0} {x y : A} {xs ys : List A} → (x ∷ xs) ≡ (y ∷ ys) → x ≡ y
head-same {x = x} e = ap (head_or x) e

tail-same : {A : Type 0} {x y : A} {xs ys : List A} → (x ∷ xs) ≡ (y ∷ ys) → xs ≡ ys
tail-same e = ap tail_of e

-- lists that are equal are equal at each place
pub element-same : {A B : Type 0} (f : A → B) (xs ys : List A) (i : ℕ) (x y : A) → i < length xs → length xs ≡ length ys → x ≡ get_or xs i x → y ≡ get_or ys i y → map f xs ≡ map f ys → f x ≡ f y
element-same f [] ys i x y low lengths ex ey e = absurd (omega (arith, low))
element-same f (a ∷ xs) [] i x y low lengths ex ey e = absurd (omega (arith, lengths))
element-same f (a ∷ xs) (b ∷ ys) zero x y low lengths ex ey e = ap f ex ∙ head-same e ∙ ap f (sym ey)
element-same f (a ∷ xs) (b ∷ ys) (suc i) x y low lengths ex ey e = element-same f xs ys i x y (omega (arith, low)) (omega (arith, lengths)) ex ey (tail-same e)
