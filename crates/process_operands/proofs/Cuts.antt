-- Lists that are cut to a length (nothing of the language).
use Rattle.std.proofs.Common.{◌≡◌, ℕ, zero, suc, ◌+◌, ◌<◌, ◌≤◌, List, [], ◌∷◌, ◌++◌, length, get_or, take, drop, refl, ap, sym, ◌∙◌, arith}
use Rattle.std.proofs.lemmas.List.{take_all, drop_more, take_more, append-nil, append_assoc}
use Rattle.four_value.specs.declared.logic.Bit.TheVariants.{X}
use Rattle.std.proofs.Math.Seq.{take-append-add}
use Rattle.four_value.specs.Values.{LogicValue, part_of, bit_at}
use Rattle.vf_base.specs.Lists.{joined}

-- the first bits as a part
pub part_of-first : (bits : LogicValue) (n low : ℕ) → low + n ≤ length bits → part_of bits low n ≡ take n (drop low bits)
part_of-first bits zero low h = refl
part_of-first bits (suc n) low h =
    let more : drop low bits ≡ bit_at bits low ∷ drop (low + 1) bits = drop_more bits low X (omega (arith, h)) in
    ap (λ rest. bit_at bits low ∷ rest) (part_of-first bits n (low + 1) (omega (arith, h))) ∙ ap (take (suc n)) (sym more)

-- what goes past a length is cut
pub cut-append : {A : Type 0} (most room : ℕ) (low high : List A) → length low + room ≡ most → take most (low ++ high) ≡ low ++ take room high
cut-append most room low high h = ap (λ n. take n (low ++ high)) (sym h) ∙ take-append-add low high room

-- what is cut before more is put behind it doesn't matter
pub cut-twice : {A : Type 0} (most : ℕ) (low more : List A) → take most (take most low ++ more) ≡ take most (low ++ more)
cut-twice zero low more = refl
cut-twice (suc most) [] more = refl
cut-twice (suc most) (x ∷ low) more = ap (λ rest. x ∷ rest) (cut-twice most low more)

-- a list that fits isn't cut
pub cut-none : {A : Type 0} (most : ℕ) (xs : List A) → length xs ≤ most → xs ≡ take most xs
cut-none most xs h = sym (take_all most xs h)

-- one list more
pub joined-push : {A : Type 0} (xs : List (List A)) (x : List A) → joined (xs ++ (x ∷ [])) ≡ joined xs ++ x
joined-push [] x = append-nil x
joined-push (y ∷ xs) x = ap (λ rest. y ++ rest) (joined-push xs x) ∙ sym (append_assoc y (joined xs) x)

-- the first so many lists and one more, cut
pub joined-more : {A : Type 0} (most i : ℕ) (xs : List (List A)) (bits d : List A) → i < length xs → bits ≡ take most (joined (take i xs)) →
    take most (bits ++ get_or xs i d) ≡ take most (joined (take (i + 1) xs))
joined-more most i xs bits d low had =
    ap (λ l. take most (l ++ get_or xs i d)) had ∙ cut-twice most (joined (take i xs)) (get_or xs i d)
    ∙ ap (take most) (sym (joined-push (take i xs) (get_or xs i d)))
    ∙ ap (λ l. take most (joined l)) (sym (take_more xs i d low))
