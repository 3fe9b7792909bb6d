-- Lists to which connections add, one after another by their positions.
use Rattle.std.proofs.Common.{◌≡◌, ℕ, ◌+◌, ◌<◌, ◌≤◌, List, [], ◌∷◌, ◌++◌, drop, get_or, length, sym, ap, ◌∙◌, append_assoc, append-nil}
use Rattle.name_checks.specs.Rows.{drop-step, drop-past}

pub turn-more : {A D : Type 0} (g : A → List D) (h : ℕ → List A → List D) (xs : List A) (i : ℕ) (x : A) (list new whole : List D) → ((y : A) (ys : List A) → h i (y ∷ ys) ≡ g y ++ h (i + 1) ys) →
    i < length xs → x ≡ get_or xs i x
    → new ≡ list ++ g x → list ++ h i (drop i xs) ≡ whole → new ++ h (i + 1) (drop (i + 1) xs) ≡ whole
turn-more {A} g h xs i x list new whole c below at e k =
    ap (λ n. n ++ h (i + 1) (drop (i + 1) xs)) e ∙ append_assoc list (g x) (h (i + 1) (drop (i + 1) xs))
    ∙ ap (λ ys. list ++ ys) (sym (ap (h i) (drop-step xs i x below at) ∙ c x (drop (i + 1) xs))) ∙ k

pub turn-end : {A D : Type 0} (h : ℕ → List A → List D) (xs : List A) (i : ℕ) (list whole : List D) → h i [] ≡ [] → length xs ≤ i → list ++ h i (drop i xs) ≡ whole → list ≡ whole
turn-end {A} h xs i list whole none past k = sym (append-nil list) ∙ sym (ap (λ ys. list ++ ys) (ap (h i) (drop-past xs i past) ∙ none)) ∙ k
