-- Lists of which some stand beside others, place by place (nothing of the language).
use Rattle.std.proofs.Common.{◌≡◌, ℕ, zero, suc, ◌+◌, ◌<◌, ◌≤◌, List, [], ◌∷◌, length, map, refl, arith}
use Rattle.std.specs.Prelude.{Some, slice_get, sum_by}
use Rattle.std.proofs.lemmas.List.Sums.{sum_by-cons}
use Rattle.vf_base.specs.Lists.{AllHold}

-- something stands at each place
pub there : {A : Type 0} (xs : List A) (place : ℕ) → place < length xs → (x : A) × (slice_get xs place ≡ Some x)
there [] place low = absurd (omega (arith, low))
there (x ∷ xs) zero low = (x, refl)
there (x ∷ xs) (suc place) low = there xs place (omega (arith, low))

module _ {A B : Type 0} where
  -- what is the same of what stands at each place is the same list
  pub same-lists : {C : Type 0} (f : A → C) (h : B → C) (xs : List A) (ys : List B) → length ys ≡ length xs →
      ((place : ℕ) (x : A) (y : B) → slice_get xs place ≡ Some x → slice_get ys place ≡ Some y → h y ≡ f x) → map h ys ≡ map f xs
  same-lists f h [] [] count each = refl
  same-lists f h [] (y ∷ ys) count each = absurd (omega (arith, count))
  same-lists f h (x ∷ xs) [] count each = absurd (omega (arith, count))
  same-lists f h (x ∷ xs) (y ∷ ys) count each =
      let rest = same-lists f h xs ys (omega (arith, count)) (λ place a b one two. each (suc place) a b one two) in
      let first = each 0 x y refl refl in
      λ i. first i ∷ rest i

  -- and the same sum
  pub same-sums : (f : A → ℕ) (h : B → ℕ) (xs : List A) (ys : List B) → length ys ≡ length xs →
      ((place : ℕ) (x : A) (y : B) → slice_get xs place ≡ Some x → slice_get ys place ≡ Some y → h y ≡ f x) → sum_by h ys ≡ sum_by f xs
  same-sums f h [] [] count each = refl
  same-sums f h [] (y ∷ ys) count each = absurd (omega (arith, count))
  same-sums f h (x ∷ xs) [] count each = absurd (omega (arith, count))
  same-sums f h (x ∷ xs) (y ∷ ys) count each =
      let rest : sum_by h ys ≡ sum_by f xs = same-sums f h xs ys (omega (arith, count)) (λ place a b one two. each (suc place) a b one two) in
      let first : h y ≡ f x = each 0 x y refl refl in
      let a : sum_by h (y ∷ ys) ≡ h y + sum_by h ys = sum_by-cons h y ys in
      let b : sum_by f (x ∷ xs) ≡ f x + sum_by f xs = sum_by-cons f x xs in
      omega (arith, rest, first, a, b)

-- the sums of two measures, where one is no more than the other of each element
pub less-sums : {A : Type 0} (P : A → Type 0) (f h : A → ℕ) → ((x : A) → P x → f x ≤ h x) → (xs : List A) → AllHold P xs → sum_by f xs ≤ sum_by h xs
less-sums P f h law [] all = omega arith
less-sums P f h law (x ∷ xs) all =
    let one : f x ≤ h x = law x all.0 in
    let rest : sum_by f xs ≤ sum_by h xs = less-sums P f h law xs all.1 in
    let a : sum_by f (x ∷ xs) ≡ f x + sum_by f xs = sum_by-cons f x xs in
    let b : sum_by h (x ∷ xs) ≡ h x + sum_by h xs = sum_by-cons h x xs in
    omega (arith, one, rest, a, b)
