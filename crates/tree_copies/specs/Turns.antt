-- A turn of a loop that copies a list.
use Rattle.std.proofs.Common.{◌≡◌, ℕ, ◌+◌, ◌<◌, List, [], ◌∷◌, ◌++◌, map, take, length, get_or, sym, ◌∙◌, ap}
use Rattle.std.proofs.lemmas.List.{take_more, map-append}

pub one-more : {A B : Type 0} (view : A → B) (xs ys : List A) (i : ℕ) (x y : A) → i < length xs → x ≡ get_or xs i x → view y ≡ view x
    → map view ys ≡ map view (take i xs) → map view (ys ++ (y ∷ [])) ≡ map view (take (i + 1) xs)
one-more view xs ys i x y lt at same so_far =
    map-append view ys (y ∷ []) ∙ ap (λ l. l ++ (view y ∷ [])) so_far ∙ ap (λ v. map view (take i xs) ++ (v ∷ [])) same
    ∙ sym (ap (map view) (take_more xs i x lt) ∙ map-append view (take i xs) (get_or xs i x ∷ []) ∙ ap (λ z. map view (take i xs) ++ (view z ∷ [])) (sym at))
