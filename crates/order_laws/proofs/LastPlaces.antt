-- What it says that an element stands at the last place that passes a test.
use Rattle.std.proofs.Common.{◌≡◌, ℕ, zero, suc, ◌+◌, ◌<◌, List, [], ◌∷◌, Bool, true, false, refl, ap, subst, ◌∙◌, arith}
use Rattle.std.specs.Prelude.{Option, Some, None, slice_get}
use Rattle.vf_base.specs.Lists.{last_place, later_place}
use Rattle.v_design.specs.States.{found_or}

-- no later element passes
abbrev pub NoneLater : {A : Type 0} → (A → Bool) → List A → ℕ → Type 0
NoneLater {A} test xs k = (l : ℕ) (y : A) → k < l → slice_get xs l ≡ Some y → test y ≡ false

abbrev pub LastAt : {A : Type 0} → (A → Bool) → List A → ℕ → Type 0
LastAt {A} test xs k = (x : A) × (slice_get xs k ≡ Some x) × (test x ≡ true) × NoneLater test xs k

none-step : {A : Type 0} (test : A → Bool) (x : A) (xs : List A) (b : Bool) (o : Option ℕ) → test x ≡ b → later_place b o ≡ None →
    (o ≡ None → (l : ℕ) (y : A) → slice_get xs l ≡ Some y → test y ≡ false) → (l : ℕ) (y : A) → slice_get (x ∷ xs) l ≡ Some y → test y ≡ false
none-step test x xs true None h e rest l y g = cc
none-step test x xs true (Some n) h e rest l y g = cc
none-step test x xs false (Some n) h e rest l y g = cc
none-step test x xs false None h e rest zero y g = subst (λ z. test z ≡ false) (ap (found_or x) g) h
none-step test x xs false None h e rest (suc l) y g = rest refl l y g

pub none_last : {A : Type 0} (test : A → Bool) (xs : List A) → last_place test xs ≡ None → (l : ℕ) (y : A) → slice_get xs l ≡ Some y → test y ≡ false
none_last test [] e l y g = cc
none_last test (x ∷ xs) e l y g = none-step test x xs (test x) (last_place test xs) refl e (λ o. none_last test xs o) l y g

pub last_none : {A : Type 0} (test : A → Bool) (xs : List A) → ((l : ℕ) (y : A) → slice_get xs l ≡ Some y → test y ≡ false) → last_place test xs ≡ None
last_none test [] h = refl
last_none test (x ∷ xs) h = λ i. later_place (h 0 x refl i) (last_none test xs (λ l. h (suc l)) i)

later-shifted : {A : Type 0} (test : A → Bool) (x : A) (xs : List A) (n l : ℕ) (y : A) → suc n < l → slice_get (x ∷ xs) l ≡ Some y → NoneLater test xs n → test y ≡ false
later-shifted test x xs n zero y b g h = absurd (omega (arith, b))
later-shifted test x xs n (suc l) y b g h = h l y (omega (arith, b)) g

shifted : {A : Type 0} (test : A → Bool) (x : A) (xs : List A) (n k : ℕ) → n + 1 ≡ k → LastAt test xs n → LastAt test (x ∷ xs) k
shifted test x xs n k e r =
    subst (λ m. LastAt test (x ∷ xs) m) (let z : suc n ≡ k = omega (arith, e) in z)
    (r.0, r.1, r.2, λ l y b g. later-shifted test x xs n l y b g r.3)

later-here : {A : Type 0} (test : A → Bool) (x : A) (xs : List A) → ((l : ℕ) (y : A) → slice_get xs l ≡ Some y → test y ≡ false) → (l : ℕ) (y : A) → 0 < l → slice_get (x ∷ xs) l ≡ Some y →
    test y ≡ false
later-here test x xs h zero y b g = absurd (omega (arith, b))
later-here test x xs h (suc l) y b g = h l y g

found-step : {A : Type 0} (test : A → Bool) (x : A) (xs : List A) (k : ℕ) (b : Bool) (o : Option ℕ) → test x ≡ b → later_place b o ≡ Some k →
    (o ≡ None → (l : ℕ) (y : A) → slice_get xs l ≡ Some y → test y ≡ false) → ((n : ℕ) → o ≡ Some n → LastAt test xs n) → LastAt test (x ∷ xs) k
found-step test x xs k true None t e none some =
    subst (λ m. LastAt test (x ∷ xs) m) (ap (found_or k) e) (x, refl, t, λ l y b g. later-here test x xs (none refl) l y b g)
found-step test x xs k false None t e none some = cc
found-step test x xs k true (Some n) t e none some = shifted test x xs n k (ap (found_or k) e) (some n refl)
found-step test x xs k false (Some n) t e none some = shifted test x xs n k (ap (found_or k) e) (some n refl)

pub last_found : {A : Type 0} (test : A → Bool) (xs : List A) (k : ℕ) → last_place test xs ≡ Some k → LastAt test xs k
last_found test [] k e = cc
last_found test (x ∷ xs) k e = found-step test x xs k (test x) (last_place test xs) refl e (λ o. none_last test xs o) (λ n o. last_found test xs n o)

plus-one : (b : Bool) (k : ℕ) → later_place b (Some k) ≡ Some (suc k)
plus-one true k = ap Some (let z : k + 1 ≡ suc k = omega arith in z)
plus-one false k = ap Some (let z : k + 1 ≡ suc k = omega arith in z)

pub last_is : {A : Type 0} (test : A → Bool) (xs : List A) (k : ℕ) → LastAt test xs k → last_place test xs ≡ Some k
last_is test [] k r = absurd (none_some r.0 r.1)
  where
    none_some : {A : Type 0} (x : A) → None ≡ Some x → ⊥
    none_some x e = cc
last_is test (x ∷ xs) zero r =
    (λ i. later_place ((ap test (ap (found_or x) r.1) ∙ r.2) i) (last_none test xs (λ l y g. r.3 (suc l) y (omega arith) g) i))
last_is test (x ∷ xs) (suc k) r =
    ap (later_place (test x)) (last_is test xs k (r.0, r.1, r.2, λ l y b g. r.3 (suc l) y (omega (arith, b)) g)) ∙ plus-one (test x) k
