-- Laws on the greatest of some numbers (nothing of the language).
use Rattle.std.proofs.Common.{◌≡◌, ℕ, ◌≤◌, max, true, List, [], ◌∷◌, ◌++◌, refl, ap, ◌∙◌, inl, inr, arith, map}
use Rattle.std.specs.Prelude.{nat_eq, fold}
use Rattle.std.proofs.lemmas.Bool.{or_cases, or_left, or_right, eqb-true, eq-eqb}
use Rattle.vf_base.specs.Lists.{has}
use Rattle.vf_base.specs.Lists.{greatest}

pub fold-push : {A B : Type 0} (f : B → A → B) (a : B) (xs : List A) (x : A) → fold f a (xs ++ x ∷ []) ≡ f (fold f a xs) x
fold-push f a [] x = refl
fold-push f a (y ∷ xs) x = fold-push f (f a y) xs x

-- one number more
pub greatest-push : (xs : List ℕ) (x : ℕ) → greatest (xs ++ x ∷ []) ≡ max (greatest xs) x
greatest-push xs x = fold-push max 0 xs x

start-le-fold : (a : ℕ) (xs : List ℕ) → a ≤ fold max a xs
start-le-fold a [] = omega arith
start-le-fold a (x ∷ xs) = let rest : max a x ≤ fold max (max a x) xs = start-le-fold (max a x) xs in omega arith

has-le-fold : (a : ℕ) (xs : List ℕ) (n : ℕ) → has xs n ≡ true → n ≤ fold max a xs
has-le-fold a [] n e = absurd (cc)
has-le-fold a (x ∷ xs) n e =
    elim (or_cases (nat_eq x n) (has xs n) e) [
      | inl same ↦ let is : x ≡ n = eqb-true x n same in let rest : max a x ≤ fold max (max a x) xs = start-le-fold (max a x) xs in omega arith
      | inr there ↦ has-le-fold (max a x) xs n there
    ]

-- none of some numbers is greater than the greatest
pub le-greatest : (xs : List ℕ) (n : ℕ) → has xs n ≡ true → n ≤ greatest xs
le-greatest xs n e = has-le-fold 0 xs n e

fold-le : (a b : ℕ) (xs : List ℕ) → a ≤ b → ((n : ℕ) → has xs n ≡ true → n ≤ b) → fold max a xs ≤ b
fold-le a b [] low each = low
fold-le a b (x ∷ xs) low each =
    let here : x ≤ b = each x (or_left (nat_eq x x) (has xs x) (eq-eqb x x refl)) in
    fold-le (max a x) b xs (omega arith) (λ n e. each n (or_right (nat_eq x n) (has xs n) e))

-- the greatest is no more than what none exceeds
pub greatest-le : (b : ℕ) (xs : List ℕ) → ((n : ℕ) → has xs n ≡ true → n ≤ b) → greatest xs ≤ b
greatest-le b xs each = fold-le 0 b xs (omega arith) each

-- the numbers that a function gives for those of a list
pub has-map : (f : ℕ → ℕ) (xs : List ℕ) (x : ℕ) → has xs x ≡ true → has (map f xs) (f x) ≡ true
has-map f [] x e = absurd (cc)
has-map f (y ∷ xs) x e =
    elim (or_cases (nat_eq y x) (has xs x) e) [
      | inl same ↦ or_left (nat_eq (f y) (f x)) (has (map f xs) (f x)) (eq-eqb (f y) (f x) (ap f (eqb-true y x same)))
      | inr there ↦ or_right (nat_eq (f y) (f x)) (has (map f xs) (f x)) (has-map f xs x there)
    ]

pub map-has : (f : ℕ → ℕ) (xs : List ℕ) (n : ℕ) → has (map f xs) n ≡ true → (x : ℕ) × (has xs x ≡ true) × (f x ≡ n)
map-has f [] n e = absurd (cc)
map-has f (y ∷ xs) n e =
    elim (or_cases (nat_eq (f y) n) (has (map f xs) n) e) [
      | inl same ↦ (y, or_left (nat_eq y y) (has xs y) (eq-eqb y y refl), eqb-true (f y) n same)
      | inr there ↦ let r = map-has f xs n there in (r.0, or_right (nat_eq y r.0) (has xs r.0) r.1, r.2)
    ]

-- functions that agree on the numbers of a list
pub map-agree_has : (f g : ℕ → ℕ) (xs : List ℕ) → ((x : ℕ) → has xs x ≡ true → f x ≡ g x) → map f xs ≡ map g xs
map-agree_has f g [] same = refl
map-agree_has f g (x ∷ xs) same =
    ap (λ n. n ∷ map f xs) (same x (or_left (nat_eq x x) (has xs x) (eq-eqb x x refl)))
    ∙ ap (λ l. g x ∷ l) (map-agree_has f g xs (λ y e. same y (or_right (nat_eq x y) (has xs y) e)))
