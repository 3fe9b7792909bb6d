-- Loops that put one thing after another behind a list, and loops that test one after another.
use Rattle.std.proofs.Common.{◌≡◌, ℕ, zero, suc, ◌+◌, ◌<◌, ◌≤◌, Bool, true, false, ◌&&◌, ◌||◌, List, [], ◌∷◌, ◌++◌, drop, get_or, length, map, sym, ap, subst, ◌∙◌, append-nil, arith}
use Rattle.vf_base.specs.Lists.{AllHold}
use Rattle.name_checks.specs.Rows.{drop-step, drop-past}

-- nothing is left to put behind
pub list-done : {A D : Type 0} (h : List A → List D) (xs : List A) (i : ℕ) (list whole : List D) → h [] ≡ [] → length xs ≤ i → list ++ h (drop i xs) ≡ whole → list ≡ whole
list-done h xs i list whole e below k = sym (append-nil list) ∙ ap (λ l. list ++ l) (sym (ap h (drop-past xs i below) ∙ e)) ∙ k

-- what is left to test, of which the first passes, or doesn't
pub tests-next : {A : Type 0} (p : A → Bool) (h : List A → Bool) (xs : List A) (i : ℕ) (x : A) (whole : Bool) → ((y : A) (ys : List A) → h (y ∷ ys) ≡ (p y && h ys)) → i < length xs → x ≡ get_or xs i x
    → p x ≡ true → h (drop i xs) ≡ whole → h (drop (i + 1) xs) ≡ whole
tests-next p h xs i x whole c below at e k = sym (ap h (drop-step xs i x below at) ∙ c x (drop (i + 1) xs) ∙ ap (λ b. b && h (drop (i + 1) xs)) e) ∙ k

pub tests-stop : {A : Type 0} (p : A → Bool) (h : List A → Bool) (xs : List A) (i : ℕ) (x : A) (whole : Bool) → ((y : A) (ys : List A) → h (y ∷ ys) ≡ (p y && h ys)) → i < length xs → x ≡ get_or xs i x
    → p x ≡ false → h (drop i xs) ≡ whole → false ≡ whole
tests-stop p h xs i x whole c below at e k = sym (ap h (drop-step xs i x below at) ∙ c x (drop (i + 1) xs) ∙ ap (λ b. b && h (drop (i + 1) xs)) e) ∙ k

pub tests-done : {A : Type 0} (h : List A → Bool) (xs : List A) (i : ℕ) (whole none : Bool) → h [] ≡ none → length xs ≤ i → h (drop i xs) ≡ whole → none ≡ whole
tests-done h xs i whole none e below k = sym (ap h (drop-past xs i below) ∙ e) ∙ k

-- the same where one that passes is looked for
pub finds-next : {A : Type 0} (p : A → Bool) (h : List A → Bool) (xs : List A) (i : ℕ) (x : A) (whole : Bool) → ((y : A) (ys : List A) → h (y ∷ ys) ≡ (p y || h ys)) → i < length xs → x ≡ get_or xs i x
    → p x ≡ false → h (drop i xs) ≡ whole → h (drop (i + 1) xs) ≡ whole
finds-next p h xs i x whole c below at e k = sym (ap h (drop-step xs i x below at) ∙ c x (drop (i + 1) xs) ∙ ap (λ b. b || h (drop (i + 1) xs)) e) ∙ k

pub finds-stop : {A : Type 0} (p : A → Bool) (h : List A → Bool) (xs : List A) (i : ℕ) (x : A) (whole : Bool) → ((y : A) (ys : List A) → h (y ∷ ys) ≡ (p y || h ys)) → i < length xs → x ≡ get_or xs i x
    → p x ≡ true → h (drop i xs) ≡ whole → true ≡ whole
finds-stop p h xs i x whole c below at e k = sym (ap h (drop-step xs i x below at) ∙ c x (drop (i + 1) xs) ∙ ap (λ b. b || h (drop (i + 1) xs)) e) ∙ k

-- What holds of each of a list

-- holds of one of them that is taken by its place
pub holds-of : {A B : Type 0} (P : B → Type 0) (f : A → B) (xs : List A) (i : ℕ) (x : A) → AllHold P (map f xs) → i < length xs → x ≡ get_or xs i x → P (f x)
holds-of P f [] i x h below at = absurd (omega arith)
holds-of P f (y ∷ xs) zero x h below at = subst (λ z. P (f z)) (sym at) h.0
holds-of P f (y ∷ xs) (suc i) x h below at = holds-of P f xs i x h.1 (omega arith) at

-- and of what they were made of
pub holds-before : {A B : Type 0} (P : B → Type 0) (f : A → B) (xs : List A) → AllHold P (map f xs) → AllHold (λ x. P (f x)) xs
holds-before P f [] h = tt
holds-before P f (x ∷ xs) h = (h.0, holds-before P f xs h.1)
