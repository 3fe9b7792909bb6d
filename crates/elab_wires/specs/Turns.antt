-- Loops that put behind a list what a function makes of one element more.
use Rattle.std.proofs.Common.{◌≡◌, ℕ, zero, suc, ◌+◌, ◌<◌, arith, List, [], ◌∷◌, ◌++◌, length, get_or, take, map, refl, sym, ap, ◌∙◌, append_assoc}
use Rattle.std.proofs.lemmas.List.{take_more, map_push}

pub taken-more : {A B : Type 0} (view : A → B) (xs : List A) (i : ℕ) (x : A) → i < length xs → x ≡ get_or xs i x → map view (take (i + 1) xs) ≡ map view (take i xs) ++ view x ∷ []
taken-more view xs i x low is = ap (map view) (take_more xs i x low) ∙ (map_push view (take i xs) (get_or xs i x) ∙ ap (λ y. map view (take i xs) ++ view y ∷ []) (sym is))

pub turn : {A B C : Type 0} (view : A → B) (f : List B → List C) → ((xs ys : List B) → f (xs ++ ys) ≡ f xs ++ f ys) → (xs : List A) (i : ℕ) (x : A) (start old more : List C) → i < length xs →
    x ≡ get_or xs i x
    → old ≡ start ++ f (map view (take i xs)) → more ≡ old ++ f (view x ∷ []) → more ≡ start ++ f (map view (take (i + 1) xs))
turn view f over xs i x start old more low is had pushed =
    pushed ∙ ap (λ l. l ++ f (view x ∷ [])) had ∙ append_assoc start (f (map view (take i xs))) (f (view x ∷ []))
    ∙ ap (λ r. start ++ r) (sym (over (map view (take i xs)) (view x ∷ [])) ∙ ap f (sym (taken-more view xs i x low is)))

default-free : {A : Type 0} (xs : List A) (i : ℕ) (d e : A) → i < length xs → get_or xs i d ≡ get_or xs i e
default-free [] i d e low = absurd (omega arith)
default-free (x ∷ xs) zero d e low = refl
default-free (x ∷ xs) (suc i) d e low = default-free xs i d e (omega arith)

-- the same where the element is read with some default
pub turn-at : {A B C : Type 0} (view : A → B) (f : List B → List C) → ((xs ys : List B) → f (xs ++ ys) ≡ f xs ++ f ys) → (xs : List A) (i : ℕ) (d : A) (start old more : List C) → i < length xs
    → old ≡ start ++ f (map view (take i xs)) → more ≡ old ++ f (view (get_or xs i d) ∷ []) → more ≡ start ++ f (map view (take (i + 1) xs))
turn-at view f over xs i d start old more low had pushed = turn view f over xs i (get_or xs i d) start old more low (default-free xs i d (get_or xs i d) low) had pushed
