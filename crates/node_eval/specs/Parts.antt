-- The parts of a value that outputs get (IEEE 1364-2001, clause 6.1).
use Rattle.std.proofs.Common.{◌≡◌, ℕ, zero, suc, ◌+◌, ◌<◌, ◌≤◌, List, [], ◌∷◌, ◌++◌, length, get_or, take, set, map, refl, ap, sym, ◌∙◌, arith}
use Rattle.std.proofs.lemmas.List.{take_more, take_more_set, length-take-le, length_push}
use Rattle.four_value.specs.Values.{LogicValue}
use Rattle.vf_base.specs.Lists.{zip_with}

pub zip_with-push : {A B C : Type 0} (f : A → B → C) (xs : List A) (ys : List B) (x : A) (y : B) → length xs ≡ length ys → zip_with f (xs ++ x ∷ []) (ys ++ y ∷ []) ≡ zip_with f xs ys ++ f x y ∷ []
zip_with-push f [] [] x y same = refl
zip_with-push f [] (z ∷ ys) x y same = absurd (omega arith)
zip_with-push f (z ∷ xs) [] x y same = absurd (omega arith)
zip_with-push f (a ∷ xs) (b ∷ ys) x y same = ap (λ l. f a b ∷ l) (zip_with-push f xs ys x y (omega arith))

pub length-zip_with : {A B C : Type 0} (f : A → B → C) (xs : List A) (ys : List B) → length xs ≡ length ys → length (zip_with f xs ys) ≡ length xs
length-zip_with f [] [] same = refl
length-zip_with f [] (z ∷ ys) same = absurd (omega arith)
length-zip_with f (z ∷ xs) [] same = absurd (omega arith)
length-zip_with f (a ∷ xs) (b ∷ ys) same = ap suc (length-zip_with f xs ys (omega arith))

-- one more output: g makes its part of the place, and f forces it
pub parts-more : {A B C D : Type 0} (f : A → C → D) (g : A → B → C) (outputs : List A) (places : List B) (results : List D) (i : ℕ) (o : A) (p : B) (r : D) → i < length outputs →
    length places ≡ length outputs → i < length results →
    get_or outputs i o ≡ o → get_or places i p ≡ p → r ≡ f o (g o p) → take i results ≡ zip_with f (take i outputs) (zip_with g (take i outputs) (take i places)) →
    take (i + 1) (set results i r) ≡ zip_with f (take (i + 1) outputs) (zip_with g (take (i + 1) outputs) (take (i + 1) places))
parts-more f g outputs places results i o p r low same room is_o is_p is_r had =
    let one : take (i + 1) outputs ≡ take i outputs ++ o ∷ [] = take_more outputs i o low ∙ ap (λ x. take i outputs ++ x ∷ []) is_o in
    let other : take (i + 1) places ≡ take i places ++ p ∷ [] = take_more places i p (omega arith) ∙ ap (λ x. take i places ++ x ∷ []) is_p in
    let short : length (take i outputs) ≡ i = length-take-le i outputs (omega arith) in
    let short' : length (take i places) ≡ i = length-take-le i places (omega arith) in
    take_more_set results i r room
    ∙ ap (λ l. l ++ r ∷ []) had
    ∙ ap (λ x. zip_with f (take i outputs) (zip_with g (take i outputs) (take i places)) ++ x ∷ []) is_r
    ∙ sym (zip_with-push f (take i outputs) (zip_with g (take i outputs) (take i places)) o (g o p) (sym (length-zip_with g (take i outputs) (take i places) (omega arith))))
    ∙ ap (zip_with f (take i outputs ++ o ∷ [])) (sym (zip_with-push g (take i outputs) (take i places) o p (omega arith)))
    ∙ ap (λ l. zip_with f (take i outputs ++ o ∷ []) (zip_with g (take i outputs ++ o ∷ []) l)) (sym other)
    ∙ ap (λ l. zip_with f l (zip_with g l (take (i + 1) places))) (sym one)

-- one output more is forced
pub forced-more : (f : ℕ → LogicValue → LogicValue) (outputs : List ℕ) (old held : List LogicValue) (i o : ℕ) (r : LogicValue) → i < length outputs → length outputs ≤ length old →
    length held ≡ length old →
    get_or outputs i 0 ≡ o → r ≡ f o (get_or old i []) → take i held ≡ zip_with f (take i outputs) (take i old) → take (i + 1) (set held i r) ≡ zip_with f (take (i + 1) outputs) (take (i + 1) old)
forced-more f outputs old held i o r low enough alike is_o is_r had =
    let short : length (take i outputs) ≡ length (take i old) = length-take-le i outputs (omega arith) ∙ sym (length-take-le i old (omega arith)) in
    take_more_set held i r (omega arith)
    ∙ ap (λ l. l ++ r ∷ []) had
    ∙ ap (λ x. zip_with f (take i outputs) (take i old) ++ x ∷ []) is_r
    ∙ sym (zip_with-push f (take i outputs) (take i old) o (get_or old i []) short)
    ∙ ap (λ l. zip_with f l (take i old ++ get_or old i [] ∷ [])) (sym (take_more outputs i 0 low ∙ ap (λ x. take i outputs ++ x ∷ []) is_o))
    ∙ ap (zip_with f (take (i + 1) outputs)) (sym (take_more old i [] (omega arith)))
