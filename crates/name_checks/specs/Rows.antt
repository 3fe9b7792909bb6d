-- Loops that go over a list and add or note one thing after another.
use Rattle.std.proofs.Common.{◌≡◌, ℕ, zero, suc, ◌+◌, ◌<◌, ◌≤◌, List, [], ◌∷◌, ◌++◌, drop, get_or, length, Option, refl, sym, ap, ◌∙◌, append_assoc, add-one, arith}
use Rattle.std.proofs.Math.Seq.{drop-cons}
use Rattle.v_names.specs.Faults.{Fault}
use Rattle.name_checks.specs.Noted.{noted, noted_append}

-- one more is taken from the front
pub drop-step : {A : Type 0} (xs : List A) (i : ℕ) (x : A) → i < length xs → x ≡ get_or xs i x → drop i xs ≡ x ∷ drop (i + 1) xs
drop-step xs i x below at = rw add-one (drop-cons xs i x below ∙ ap (λ y. y ∷ drop (suc i) xs) (sym at))

-- nothing is left at the end
pub drop-past : {A : Type 0} (xs : List A) (i : ℕ) → length xs ≤ i → drop i xs ≡ []
drop-past [] zero e = refl
drop-past [] (suc i) e = refl
drop-past (x ∷ xs) zero e = absurd (omega arith)
drop-past (x ∷ xs) (suc i) e = drop-past xs i (omega arith)

-- faults of a list that is taken apart from its front
pub rest-more : {A : Type 0} (g : A → List Fault) (h : List A → List Fault) (xs : List A) (i : ℕ) (x : A) (old new whole : Option Fault) → ((y : A) (ys : List A) → h (y ∷ ys) ≡ g y ++ h ys) →
    i < length xs → x ≡ get_or xs i x
    → new ≡ noted old (g x) → noted old (h (drop i xs)) ≡ whole → noted new (h (drop (i + 1) xs)) ≡ whole
rest-more {A} g h xs i x old new whole c below at e k =
    ap (λ n. noted n (h (drop (i + 1) xs))) e ∙ sym (noted_append old (g x) (h (drop (i + 1) xs)))
    ∙ ap (noted old) (sym (ap h (drop-step xs i x below at) ∙ c x (drop (i + 1) xs))) ∙ k

-- a list that is taken apart from its front, and put behind another
pub list-more : {A D : Type 0} (g : A → List D) (h : List A → List D) (xs : List A) (i : ℕ) (x : A) (list new whole : List D) → ((y : A) (ys : List A) → h (y ∷ ys) ≡ g y ++ h ys) → i < length xs →
    x ≡ get_or xs i x
    → new ≡ list ++ g x → list ++ h (drop i xs) ≡ whole → new ++ h (drop (i + 1) xs) ≡ whole
list-more {A} g h xs i x list new whole c below at e k =
    ap (λ n. n ++ h (drop (i + 1) xs)) e ∙ append_assoc list (g x) (h (drop (i + 1) xs))
    ∙ ap (λ ys. list ++ ys) (sym (ap h (drop-step xs i x below at) ∙ c x (drop (i + 1) xs))) ∙ k
