-- Places in joined lists, and the last place that passes a test.
use Rattle.std.proofs.Common.{◌≡◌, ℕ, zero, suc, ◌+◌, List, [], ◌∷◌, ◌++◌, map, length, Bool, true, false, ◌||◌, refl, sym, ap, subst, ◌∙◌, ◌⊎◌, inl, inr, arith, filter}
use Rattle.std.specs.Prelude.{Option, Some, None, slice_get, is_some, cond, option_map}
use Rattle.std.proofs.lemmas.Option.{slice_get-map}
use Rattle.vf_base.specs.Lists.{AllHold, joined, last_place, later_place}
use Rattle.v_design.specs.States.{found_or, some_in}
use Rattle.copy_laws.specs.Filter.{IsIn}
use Rattle.order_laws.proofs.Conflicts.{In, In-left, In-right, append-assoc}
use Rattle.order_laws.proofs.FreeLogs.{In-append}

-- Places

pub get-left : {A : Type 0} (xs ys : List A) (k : ℕ) (x : A) → slice_get xs k ≡ Some x → slice_get (xs ++ ys) k ≡ Some x
get-left [] ys k x e = cc
get-left (y ∷ xs) ys zero x e = e
get-left (y ∷ xs) ys (suc k) x e = get-left xs ys k x e

pub get-right : {A : Type 0} (xs ys : List A) (k n : ℕ) → n ≡ length xs + k → slice_get (xs ++ ys) n ≡ slice_get ys k
get-right [] ys k n e = ap (slice_get ys) (let z : n ≡ k = omega (arith, e) in z)
get-right (x ∷ xs) ys k zero e = absurd (omega (arith, e))
get-right (x ∷ xs) ys k (suc n) e = get-right xs ys k n (omega (arith, e))

-- an element of a joined list stands in the one part or the other
pub get-parts : {A : Type 0} (xs ys : List A) (n : ℕ) (x : A) → slice_get (xs ++ ys) n ≡ Some x →
    (slice_get xs n ≡ Some x) ⊎ ((k : ℕ) × (n ≡ length xs + k) × (slice_get ys k ≡ Some x))
get-parts [] ys n x e = inr (n, omega arith, e)
get-parts (y ∷ xs) ys zero x e = inl e
get-parts (y ∷ xs) ys (suc n) x e = elim (get-parts xs ys n x e) [
  | inl here ↦ inl here
  | inr r ↦ inr (r.0, (let s : n ≡ length xs + r.0 = r.1 in omega (arith, s)), r.2)
]

pub get-map : {A B : Type 0} (f : A → B) (xs : List A) (k : ℕ) (x : A) → slice_get xs k ≡ Some x → slice_get (map f xs) k ≡ Some (f x)
get-map f xs k x e = slice_get-map f xs k ∙ ap (option_map f) e

pub get-map-back : {A B : Type 0} (f : A → B) (xs : List A) (k : ℕ) (y : B) → slice_get (map f xs) k ≡ Some y → (x : A) × (slice_get xs k ≡ Some x) × (f x ≡ y)
get-map-back f [] k y e = cc
get-map-back f (x ∷ xs) zero y e = (x, refl, ap (found_or y) e)
get-map-back f (x ∷ xs) (suc k) y e = get-map-back f xs k y e

-- one place has one element
pub one-there : {A : Type 0} (xs : List A) (k : ℕ) (x y : A) → slice_get xs k ≡ Some x → slice_get xs k ≡ Some y → x ≡ y
one-there xs k x y e f = ap (found_or x) (sym e ∙ f)

-- What stands in a list

pub from_is_in : {A : Type 0} (x : A) (xs : List A) → IsIn x xs → In x xs
from_is_in x [] i = absurd i
from_is_in x (y ∷ xs) (inl e) = inl e
from_is_in x (y ∷ xs) (inr i) = inr (from_is_in x xs i)

pub to_is_in : {A : Type 0} (x : A) (xs : List A) → In x xs → IsIn x xs
to_is_in x [] i = absurd i
to_is_in x (y ∷ xs) (inl e) = inl e
to_is_in x (y ∷ xs) (inr i) = inr (to_is_in x xs i)

pub in-at : {A : Type 0} (x : A) (xs : List A) → In x xs → (k : ℕ) × (slice_get xs k ≡ Some x)
in-at x [] i = absurd i
in-at x (y ∷ xs) (inl e) = (zero, ap Some (sym e))
in-at x (y ∷ xs) (inr i) = let r = in-at x xs i in (suc r.0, r.1)

pub at-in : {A : Type 0} (xs : List A) (k : ℕ) (x : A) → slice_get xs k ≡ Some x → In x xs
at-in [] k x e = cc
at-in (y ∷ xs) zero x e = inl (sym (ap (found_or y) e))
at-in (y ∷ xs) (suc k) x e = inr (at-in xs k x e)

pub in-filter-back : {A : Type 0} (test : A → Bool) (xs : List A) (x : A) → In x (filter test xs) → In x xs × (test x ≡ true)
in-filter-back test [] x i = absurd i
in-filter-back test (y ∷ xs) x i = go (test y) refl i (λ j. in-filter-back test xs x j)
  where
    go : (b : Bool) → test y ≡ b → In x (cond b (y ∷ filter test xs) (filter test xs)) → (In x (filter test xs) → In x xs × (test x ≡ true)) → In x (y ∷ xs) × (test x ≡ true)
    go true t (inl e) rest = (inl e, ap test e ∙ t)
    go true t (inr j) rest = let r = rest j in (inr r.0, r.1)
    go false t j rest = let r = rest j in (inr r.0, r.1)

-- What holds of each element

pub all-in : {A : Type 0} (P : A → Type 0) (xs : List A) (x : A) → AllHold P xs → In x xs → P x
all-in P [] x all i = absurd i
all-in P (y ∷ xs) x all (inl e) = subst P (sym e) all.0
all-in P (y ∷ xs) x all (inr i) = all-in P xs x all.1 i

pub all-at : {A : Type 0} (P : A → Type 0) (xs : List A) (k : ℕ) (x : A) → AllHold P xs → slice_get xs k ≡ Some x → P x
all-at P xs k x all e = all-in P xs x all (at-in xs k x e)

pub all-from_in : {A : Type 0} (P : A → Type 0) (xs : List A) → ((x : A) → In x xs → P x) → AllHold P xs
all-from_in P [] h = tt
all-from_in P (x ∷ xs) h = (h x (inl refl), all-from_in P xs (λ y i. h y (inr i)))

pub all-more : {A : Type 0} (P Q : A → Type 0) (xs : List A) → ((x : A) → P x → Q x) → AllHold P xs → AllHold Q xs
all-more P Q xs h all = all-from_in Q xs (λ x i. h x (all-in P xs x all i))

-- what stands in one of the lists stands in all of them
pub in-joined_at : {A B : Type 0} (f : A → List B) (xs : List A) (k : ℕ) (x : A) (y : B) → slice_get xs k ≡ Some x → In y (f x) → In y (joined (map f xs))
in-joined_at f [] k x y e i = cc
in-joined_at f (z ∷ xs) zero x y e i = In-left y (f z) (joined (map f xs)) (subst (λ w. In y (f w)) (sym (ap (found_or z) e)) i)
in-joined_at f (z ∷ xs) (suc k) x y e i = In-right y (f z) (joined (map f xs)) (in-joined_at f xs k x y e i)

pub in-joined_back : {A B : Type 0} (f : A → List B) (xs : List A) (y : B) → In y (joined (map f xs)) → (k : ℕ) × (x : A) × (slice_get xs k ≡ Some x) × In y (f x)
in-joined_back f [] y i = absurd i
in-joined_back f (x ∷ xs) y i = elim (In-append y (f x) (joined (map f xs)) i) [
  | inl j ↦ (zero, x, refl, j)
  | inr j ↦ (let r = in-joined_back f xs y j in (suc r.0, r.1, r.2, r.3))
]

pub joined-append : {A B : Type 0} (f : A → List B) (xs ys : List A) → joined (map f (xs ++ ys)) ≡ joined (map f xs) ++ joined (map f ys)
joined-append f [] ys = refl
joined-append f (x ∷ xs) ys = ap (λ zs. f x ++ zs) (joined-append f xs ys) ∙ sym (append-assoc (f x) (joined (map f xs)) (joined (map f ys)))

-- one answer for each element: only their number counts
pub map-one : {A B C : Type 0} (c : C) (xs : List A) (ys : List B) → length xs ≡ length ys → map (λ (x : A). c) xs ≡ map (λ (y : B). c) ys
map-one c [] [] e = refl
map-one c [] (y ∷ ys) e = absurd (omega (arith, e))
map-one c (x ∷ xs) [] e = absurd (omega (arith, e))
map-one c (x ∷ xs) (y ∷ ys) e = ap (λ zs. c ∷ zs) (map-one c xs ys (omega (arith, e)))

-- The last place

-- a place among later elements, else one among the earlier ones
abbrev pub or_earlier : ℕ → Option ℕ → Option ℕ → Option ℕ
or_earlier start (Some place) found = Some (start + place)
or_earlier start None found = found

later-moved : (b : Bool) (n : ℕ) (o p : Option ℕ) → later_place b (or_earlier n o p) ≡ or_earlier (suc n) o (later_place b p)
later-moved b n (Some k) p = ap Some (let z : n + k + 1 ≡ suc n + k = omega arith in z)
later-moved b n None p = refl

pub last_place-append : {A : Type 0} (test : A → Bool) (xs ys : List A) → last_place test (xs ++ ys) ≡ or_earlier (length xs) (last_place test ys) (last_place test xs)
last_place-append test [] ys = nothing (last_place test ys)
  where
    nothing : (o : Option ℕ) → o ≡ or_earlier zero o None
    nothing None = refl
    nothing (Some n) = ap Some (let z : n ≡ zero + n = omega arith in z)
last_place-append test (x ∷ xs) ys = ap (later_place (test x)) (last_place-append test xs ys) ∙ later-moved (test x) (length xs) (last_place test ys) (last_place test xs)

some-later : (b : Bool) (o : Option ℕ) → is_some (later_place b o) ≡ (b || is_some o)
some-later true None = refl
some-later false None = refl
some-later true (Some n) = refl
some-later false (Some n) = refl

-- there is one where some element passes
pub is_some-last : {A : Type 0} (test : A → Bool) (xs : List A) → is_some (last_place test xs) ≡ some_in test xs
is_some-last test [] = refl
is_some-last test (x ∷ xs) = some-later (test x) (last_place test xs) ∙ ap (λ c. test x || c) (is_some-last test xs)

pub some_found : (o : Option ℕ) → is_some o ≡ true → (n : ℕ) × (o ≡ Some n)
some_found None e = cc
some_found (Some n) e = (n, refl)
