-- A slice of a list by the numbers of its elements.
use Rattle.std.proofs.Common.{◌≡◌, ℕ, zero, suc, ◌+◌, ◌<◌, ◌≤◌, Bool, true, false, cond, ◌&&◌, List, [], ◌∷◌, length, take, drop, refl, sym, ap, ◌∙◌, inl, inr, arith}
use Rattle.std.specs.Prelude.{Some, filter, nat_le, nat_lt, slice_get}
use Rattle.std.proofs.lemmas.Bool.{le-leb, lt-leb, lt-ltb, le-ltb, cases_lt}
use Rattle.std.proofs.lemmas.Option.{slice_get_cases}
use Rattle.moment_slices.specs.Within.{comes_within}

within-yes : (first limit n : ℕ) → first ≤ n → n < limit → comes_within first limit n ≡ true
within-yes first limit n low high = ap (λ b. b && nat_lt n limit) (le-leb first n low) ∙ lt-ltb n limit high

within-before : (first limit n : ℕ) → n < first → comes_within first limit n ≡ false
within-before first limit n low = ap (λ b. b && nat_lt n limit) (lt-leb first n low)

within-behind : (first limit n : ℕ) → limit ≤ n → comes_within first limit n ≡ false
within-behind first limit n high = ap (λ b. nat_le first n && b) (le-ltb n limit high) ∙ none (nat_le first n)
  where
    none : (b : Bool) → (b && false) ≡ false
    none true = refl
    none false = refl

-- as many come before a later bound, or more
pub counts-rise : {X : Type 0} (key : X → ℕ) (xs : List X) (from to first limit : ℕ) → first ≤ limit → from ≤ length xs →
    ((place : ℕ) (x : X) → place < from → slice_get xs place ≡ Some x → key x < first) →
    ((place : ℕ) (x : X) → to ≤ place → slice_get xs place ≡ Some x → limit ≤ key x) → from ≤ to
counts-rise key xs from to first limit order within before behind = elim (cases_lt to from) [
  | inl less ↦ elim (slice_get_cases xs to).1 [
    | inl found ↦
        let early : key found.0 < first = before to found.0 less found.2 in
        let late : limit ≤ key found.0 = behind to found.0 (omega arith) found.2 in
        absurd (omega (arith, early, late, order))
    | inr past ↦ omega (arith, past.0, within)
  ]
  | inr more ↦ more
]

-- where so many numbers come before the bounds, then so many within, and the others behind
pub slice-within : {X : Type 0} (key : X → ℕ) (xs : List X) (from count first limit : ℕ) → first ≤ limit →
    ((place : ℕ) (x : X) → place < from → slice_get xs place ≡ Some x → key x < first) →
    ((place : ℕ) (x : X) → from ≤ place → slice_get xs place ≡ Some x → first ≤ key x) →
    ((place : ℕ) (x : X) → place < from + count → slice_get xs place ≡ Some x → key x < limit) →
    ((place : ℕ) (x : X) → from + count ≤ place → slice_get xs place ≡ Some x → limit ≤ key x) →
    take count (drop from xs) ≡ filter (λ x. comes_within first limit (key x)) xs
slice-within key [] zero zero first limit order before from_on inside behind = refl
slice-within key [] zero (suc count) first limit order before from_on inside behind = refl
slice-within key [] (suc from) zero first limit order before from_on inside behind = refl
slice-within key [] (suc from) (suc count) first limit order before from_on inside behind = refl
slice-within key (x ∷ xs) zero zero first limit order before from_on inside behind =
    slice-within key xs zero zero first limit order (λ place y low here. absurd (omega (arith, low))) (λ place y low here. from_on (suc place) y (omega arith) here)
    (λ place y low here. absurd (omega (arith, low))) (λ place y low here. behind (suc place) y (omega arith) here)
    ∙ sym (ap (λ b. cond b (x ∷ filter (λ y. comes_within first limit (key y)) xs) (filter (λ y. comes_within first limit (key y)) xs))
    (within-behind first limit (key x) (behind zero x (omega arith) refl)))
slice-within key (x ∷ xs) zero (suc count) first limit order before from_on inside behind =
    ap (λ l. x ∷ l)
    (slice-within key xs zero count first limit order (λ place y low here. absurd (omega (arith, low))) (λ place y low here. from_on (suc place) y (omega arith) here)
    (λ place y low here. inside (suc place) y (omega (arith, low)) here) (λ place y low here. behind (suc place) y (omega (arith, low)) here))
    ∙ sym (ap (λ b. cond b (x ∷ filter (λ y. comes_within first limit (key y)) xs) (filter (λ y. comes_within first limit (key y)) xs))
    (within-yes first limit (key x) (from_on zero x (omega arith) refl) (inside zero x (omega arith) refl)))
slice-within key (x ∷ xs) (suc from) count first limit order before from_on inside behind =
    slice-within key xs from count first limit order (λ place y low here. before (suc place) y (omega (arith, low)) here) (λ place y low here. from_on (suc place) y (omega (arith, low)) here)
    (λ place y low here. inside (suc place) y (omega (arith, low)) here) (λ place y low here. behind (suc place) y (omega (arith, low)) here)
    ∙ sym (ap (λ b. cond b (x ∷ filter (λ y. comes_within first limit (key y)) xs) (filter (λ y. comes_within first limit (key y)) xs))
    (within-before first limit (key x) (before zero x (omega arith) refl)))
