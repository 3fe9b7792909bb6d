-- The first place that passes a test (nothing of the language).
use Rattle.std.proofs.Common.{◌≡◌, ℕ, zero, suc, ◌+◌, ◌≤◌, List, [], ◌∷◌, Bool, true, false, refl, sym, ap, ◌∙◌, arith}
use Rattle.std.specs.Prelude.{Option, Some, None, slice_get}
use Rattle.vf_base.specs.Lists.{first_place, earlier_place}
use Rattle.v_design.specs.States.{found_or}

-- no element before it passes the test
pub first-least : {A : Type 0} (test : A → Bool) (default : A) (xs : List A) (n k : ℕ) → first_place test xs ≡ Some n → test default ≡ false → test (found_or default (slice_get xs k)) ≡ true → n ≤ k
first-least test default [] n k e none is = cc
first-least test default (x ∷ xs) n k e none is = go (test x) (first_place test xs) refl refl e k is (λ m j f t. first-least test default xs m j f none t)
  where
    some-is : (x y : ℕ) → Some x ≡ Some y → x ≡ y
    some-is x y h = ap (found_or x) h

    go : (b : Bool) (o : Option ℕ) → test x ≡ b → first_place test xs ≡ o → earlier_place b o ≡ Some n → (k : ℕ) → test (found_or default (slice_get (x ∷ xs) k)) ≡ true →
        ((m j : ℕ) → first_place test xs ≡ Some m → test (found_or default (slice_get xs j)) ≡ true → m ≤ j) → n ≤ k
    go true o t f h k is rest = let z : 0 ≡ n = some-is 0 n h in omega (arith, z)
    go false None t f h k is rest = cc
    go false (Some m) t f h zero is rest = let differ : true ≡ false = sym is ∙ t in cc
    go false (Some m) t f h (suc k) is rest =
        let z : m + 1 ≡ n = some-is (m + 1) n h in
        let r : m ≤ k = rest m k f is in
        omega (arith, z, r)

-- where some element passes the test there is such a place
pub first-there : {A : Type 0} (test : A → Bool) (default : A) (xs : List A) (k : ℕ) → test default ≡ false → test (found_or default (slice_get xs k)) ≡ true → first_place test xs ≡ None → ⊥
first-there test default [] k none is e = let fails : true ≡ false = sym is ∙ none in cc
first-there test default (x ∷ xs) k none is e = go (test x) (first_place test xs) refl refl e k is (λ j t f. first-there test default xs j none t f)
  where
    go : (b : Bool) (o : Option ℕ) → test x ≡ b → first_place test xs ≡ o → earlier_place b o ≡ None → (k : ℕ) → test (found_or default (slice_get (x ∷ xs) k)) ≡ true →
        ((j : ℕ) → test (found_or default (slice_get xs j)) ≡ true → first_place test xs ≡ None → ⊥) → ⊥
    go true o t f h k is rest = cc
    go false None t f h zero is rest = let differ : true ≡ false = sym is ∙ t in cc
    go false None t f h (suc k) is rest = rest k is f
    go false (Some m) t f h k is rest = cc

-- where none passes it there is none
pub first-none : {A : Type 0} (test : A → Bool) (default : A) (xs : List A) → ((k : ℕ) → test (found_or default (slice_get xs k)) ≡ false) → first_place test xs ≡ None
first-none test default [] fails = refl
first-none test default (x ∷ xs) fails = (λ i. earlier_place (fails 0 i) (first-none test default xs (λ k. fails (suc k)) i))

-- where there is none, none passes it
pub none-passes : {A : Type 0} (test : A → Bool) (default : A) (xs : List A) (k : ℕ) → test default ≡ false → first_place test xs ≡ None → test (found_or default (slice_get xs k)) ≡ false
none-passes test default xs k none e = go (test (found_or default (slice_get xs k))) refl
  where
    go : (b : Bool) → test (found_or default (slice_get xs k)) ≡ b → test (found_or default (slice_get xs k)) ≡ false
    go true is = absurd (first-there test default xs k none is e)
    go false is = is
