-- Lists of which some go with others, place by place, and that are changed one element after the other (nothing of the language).
use Rattle.std.proofs.Common.{◌≡◌, ◌⊎◌, ℕ, zero, suc, ◌+◌, ◌<◌, ◌≤◌, List, [], ◌∷◌, ◌++◌, length, set, get_or, refl, sym, ap, subst, ◌∙◌, arith, inl, inr}
use Rattle.std.specs.Prelude.{Option, None, Some, slice_get, sum_by}
use Rattle.std.specs.List.{AllZip}
use Rattle.std.proofs.lemmas.List.Sums.{sum_by-cons}
use Rattle.std.proofs.lemmas.Option.{same_Some, slice_get_read}
use Rattle.std.specs.Prelude.{MatchOption, vec_len}
use Rattle.std.specs.Global.{Global}
use Rattle.std.specs.declared.vec.Vec.{Vec}
use Rattle.vf_base.specs.Lists.{AllHold}

module _ {A : Type 0} where
  -- what stands at a place
  pub at-read : (xs : List A) (i : ℕ) (x : A) → i < length xs → x ≡ get_or xs i x → slice_get xs i ≡ Some x
  at-read xs i x low read = slice_get_read xs (length xs) i x refl low read

  -- behind a change of one element each other one stands where it stood
  pub at-set : (xs : List A) (i j : ℕ) (x y : A) → i < length xs → slice_get (set xs i x) j ≡ Some y → ((j ≡ i) × (y ≡ x)) ⊎ ((j ≡ i → ⊥) × (slice_get xs j ≡ Some y))
  at-set [] i j x y low here = absurd (omega (arith, low))
  at-set (z ∷ xs) zero zero x y low here = inl (refl, sym (same_Some x y here))
  at-set (z ∷ xs) zero (suc j) x y low here = inr ((λ same. absurd (omega (arith, same))), here)
  at-set (z ∷ xs) (suc i) zero x y low here = inr ((λ same. absurd (omega (arith, same))), here)
  at-set (z ∷ xs) (suc i) (suc j) x y low here = elim (at-set xs i j x y (omega (arith, low)) here) [
    | inl this ↦ inl (ap suc this.0, this.1)
    | inr other ↦ inr ((λ same. other.0 (omega (arith, same))), other.1)
  ]

  -- an element more stands behind the others
  pub at-push : (xs : List A) (x y : A) (j : ℕ) → slice_get (xs ++ x ∷ []) j ≡ Some y → ((j < length xs) × (slice_get xs j ≡ Some y)) ⊎ ((j ≡ length xs) × (y ≡ x))
  at-push [] x y zero here = inr (refl, sym (same_Some x y here))
  at-push [] x y (suc j) here = cc
  at-push (z ∷ xs) x y zero here = inl (omega arith, here)
  at-push (z ∷ xs) x y (suc j) here = elim (at-push xs x y j here) [
    | inl front ↦ inl (omega (arith, front.0), front.1)
    | inr last ↦ inr (ap suc last.0, last.1)
  ]

  -- what stands in the front stands there with one element more
  pub at-front : (xs : List A) (x y : A) (j : ℕ) → slice_get xs j ≡ Some y → slice_get (xs ++ x ∷ []) j ≡ Some y
  at-front [] x y j here = cc
  at-front (z ∷ xs) x y zero here = here
  at-front (z ∷ xs) x y (suc j) here = at-front xs x y j here

  pub at-last : (xs : List A) (x : A) → slice_get (xs ++ x ∷ []) (length xs) ≡ Some x
  at-last [] x = refl
  at-last (z ∷ xs) x = at-last xs x

module _ {A : Type 0} (P : A → Type 0) where
  pub hold-at : (xs : List A) (i : ℕ) (x : A) → AllHold P xs → slice_get xs i ≡ Some x → P x
  hold-at [] i x all here = cc
  hold-at (y ∷ xs) zero x all here = subst P (same_Some y x here) all.0
  hold-at (y ∷ xs) (suc i) x all here = hold-at xs i x all.1 here

  pub all-at : (xs : List A) → ((i : ℕ) (x : A) → slice_get xs i ≡ Some x → P x) → AllHold P xs
  all-at [] each = tt
  all-at (x ∷ xs) each = (each 0 x refl, all-at xs (λ i y here. each (suc i) y here))

module _ {A : Type 0} (R : A → A → Type 0) where
  pub zip-length : (xs ys : List A) → AllZip R xs ys → length ys ≡ length xs
  zip-length [] [] zip = refl
  zip-length [] (y ∷ ys) zip = absurd zip
  zip-length (x ∷ xs) [] zip = absurd zip
  zip-length (x ∷ xs) (y ∷ ys) zip = ap suc (zip-length xs ys zip.1)

  pub zip-back : (xs ys : List A) (i : ℕ) (y : A) → AllZip R xs ys → slice_get ys i ≡ Some y → (x : A) × (slice_get xs i ≡ Some x) × R x y
  zip-back [] [] i y zip here = cc
  zip-back [] (z ∷ ys) i y zip here = absurd zip
  zip-back (x ∷ xs) [] i y zip here = absurd zip
  zip-back (x ∷ xs) (z ∷ ys) zero y zip here = (x, refl, subst (R x) (same_Some z y here) zip.0)
  zip-back (x ∷ xs) (z ∷ ys) (suc i) y zip here = zip-back xs ys i y zip.1 here

  pub zip-at : (xs ys : List A) → length ys ≡ length xs → ((i : ℕ) (x y : A) → slice_get xs i ≡ Some x → slice_get ys i ≡ Some y → R x y) → AllZip R xs ys
  zip-at [] [] same each = tt
  zip-at [] (y ∷ ys) same each = absurd (omega (arith, same))
  zip-at (x ∷ xs) [] same each = absurd (omega (arith, same))
  zip-at (x ∷ xs) (y ∷ ys) same each = (each 0 x y refl refl, zip-at xs ys (omega (arith, same)) (λ i u v one two. each (suc i) u v one two))

  pub zip-refl : ((x : A) → R x x) → (xs : List A) → AllZip R xs xs
  zip-refl law [] = tt
  zip-refl law (x ∷ xs) = (law x, zip-refl law xs)

  -- one element more was changed
  pub zip-set : ((x y z : A) → R x y → R y z → R x z) → (xs ys : List A) (i : ℕ) (y z : A) → AllZip R xs ys → y ≡ get_or ys i y → i < length xs → R y z → AllZip R xs (set ys i z)
  zip-set law [] ys i y z zip read low r = absurd (omega (arith, low))
  zip-set law (x ∷ xs) [] i y z zip read low r = absurd zip
  zip-set law (x ∷ xs) (u ∷ ys) zero y z zip read low r = (law x y z (subst (R x) (sym read) zip.0) r, zip.1)
  zip-set law (x ∷ xs) (u ∷ ys) (suc i) y z zip read low r = (zip.0, zip-set law xs ys i y z zip.1 read (omega (arith, low)) r)

  -- one change behind another
  pub zip-join : ((x y z : A) → R x y → R y z → R x z) → (xs ys zs : List A) → AllZip R xs ys → AllZip R ys zs → AllZip R xs zs
  zip-join law [] [] [] one two = tt
  zip-join law [] [] (z ∷ zs) one two = absurd two
  zip-join law [] (y ∷ ys) zs one two = absurd one
  zip-join law (x ∷ xs) [] zs one two = absurd one
  zip-join law (x ∷ xs) (y ∷ ys) [] one two = absurd two
  zip-join law (x ∷ xs) (y ∷ ys) (z ∷ zs) one two = (law x y z one.0 two.0, zip-join law xs ys zs one.1 two.1)

-- where nothing was popped nothing was there
module _ {T : Type 0} where
  pub none-popped : (popped : Option T) (old new : Vec T Global) → popped ≡ None → MatchOption popped ((vec_len old ≡ 0) × (vec_len new ≡ 0)) (λ _. vec_len new + 1 ≡ vec_len old) →
      (length old.items ≡ 0) × (length new.items ≡ 0)
  none-popped popped old new is cases =
      let none : (vec_len old ≡ 0) × (vec_len new ≡ 0) =
      subst (λ (o : Option T). MatchOption o ((vec_len old ≡ 0) × (vec_len new ≡ 0)) (λ _. vec_len new + 1 ≡ vec_len old)) is cases in
      let before = old.ok.0 in
      let after = new.ok.0 in
      let was = none.0 in
      let gone = none.1 in
      (omega (arith, before, was), omega (arith, after, gone))

-- Sums

module _ {A : Type 0} where
  -- where each element of one list stands for one of another that is no less
  pub zip-sums : (R : A → A → Type 0) (f h : A → ℕ) → ((x y : A) → R x y → f x ≤ h y) → (xs ys : List A) → AllZip R xs ys → sum_by f xs ≤ sum_by h ys
  zip-sums R f h law [] [] zip = omega arith
  zip-sums R f h law [] (y ∷ ys) zip = absurd zip
  zip-sums R f h law (x ∷ xs) [] zip = absurd zip
  zip-sums R f h law (x ∷ xs) (y ∷ ys) zip =
      let one : f x ≤ h y = law x y zip.0 in
      let rest : sum_by f xs ≤ sum_by h ys = zip-sums R f h law xs ys zip.1 in
      let a : sum_by f (x ∷ xs) ≡ f x + sum_by f xs = sum_by-cons f x xs in
      let b : sum_by h (y ∷ ys) ≡ h y + sum_by h ys = sum_by-cons h y ys in
      omega (arith, one, rest, a, b)

  -- one relation of the elements is another
  pub zip-law : (R S : A → A → Type 0) → ((x y : A) → R x y → S x y) → (xs ys : List A) → AllZip R xs ys → AllZip S xs ys
  zip-law R S law [] [] zip = tt
  zip-law R S law [] (y ∷ ys) zip = absurd zip
  zip-law R S law (x ∷ xs) [] zip = absurd zip
  zip-law R S law (x ∷ xs) (y ∷ ys) zip = (law x y zip.0, zip-law R S law xs ys zip.1)

  -- the first so many elements count in one way, the others in another
  module _ (f h : A → ℕ) where
    abbrev pub mixed : ℕ → List A → ℕ
    mixed i [] = 0
    mixed zero (x ∷ xs) = f x + mixed zero xs
    mixed (suc i) (x ∷ xs) = h x + mixed i xs

    pub mixed-none : (xs : List A) → mixed 0 xs ≡ sum_by f xs
    mixed-none [] = refl
    mixed-none (x ∷ xs) = ap (λ n. f x + n) (mixed-none xs) ∙ sym (sum_by-cons f x xs)

    pub mixed-all : (i : ℕ) (xs : List A) → length xs ≤ i → mixed i xs ≡ sum_by h xs
    mixed-all i [] past = refl
    mixed-all zero (x ∷ xs) past = absurd (omega (arith, past))
    mixed-all (suc i) (x ∷ xs) past = ap (λ n. h x + n) (mixed-all i xs (omega (arith, past))) ∙ sym (sum_by-cons h x xs)

    -- one more counts in the one way, and changes
    mixed-suc : (i : ℕ) (xs : List A) (x y : A) → i < length xs → x ≡ get_or xs i x → mixed (suc i) (set xs i y) + f x ≡ mixed i xs + h y
    mixed-suc i [] x y low read = absurd (omega (arith, low))
    mixed-suc zero (z ∷ xs) x y low read = let same : f x ≡ f z = ap f read in omega (arith, same)
    mixed-suc (suc i) (z ∷ xs) x y low read = let rest : mixed (suc i) (set xs i y) + f x ≡ mixed i xs + h y = mixed-suc i xs x y (omega (arith, low)) read in omega (arith, rest)

    pub mixed-more : (i : ℕ) (xs : List A) (x y : A) → i < length xs → x ≡ get_or xs i x → mixed (i + 1) (set xs i y) + f x ≡ mixed i xs + h y
    mixed-more i xs x y low read =
        let same : suc i ≡ i + 1 = omega arith in
        subst (λ n. mixed n (set xs i y) + f x ≡ mixed i xs + h y) same (mixed-suc i xs x y low read)

    -- one fewer
    pub mixed-less : (i : ℕ) (xs : List A) (x y : A) → i < length xs → x ≡ get_or xs i x → mixed i (set xs i y) + h x ≡ mixed (suc i) xs + f y
    mixed-less i [] x y low read = absurd (omega (arith, low))
    mixed-less zero (z ∷ xs) x y low read = let same : h x ≡ h z = ap h read in omega (arith, same)
    mixed-less (suc i) (z ∷ xs) x y low read = let rest : mixed i (set xs i y) + h x ≡ mixed (suc i) xs + f y = mixed-less i xs x y (omega (arith, low)) read in omega (arith, rest)

  -- an element at the end
  pub sum-push : (f : A → ℕ) (xs : List A) (x : A) → sum_by f (xs ++ x ∷ []) ≡ sum_by f xs + f x
  sum-push f [] x = let a : sum_by f (x ∷ []) ≡ f x + sum_by f [] = sum_by-cons f x [] in omega (arith, a)
  sum-push f (z ∷ xs) x =
      let a : sum_by f (z ∷ (xs ++ x ∷ [])) ≡ f z + sum_by f (xs ++ x ∷ []) = sum_by-cons f z (xs ++ x ∷ []) in
      let b : sum_by f (z ∷ xs) ≡ f z + sum_by f xs = sum_by-cons f z xs in
      let rest : sum_by f (xs ++ x ∷ []) ≡ sum_by f xs + f x = sum-push f xs x in
      omega (arith, a, b, rest)

  -- nothing to count
  pub sum-none : (f : A → ℕ) (xs : List A) → AllHold (λ x. f x ≡ 0) xs → sum_by f xs ≡ 0
  sum-none f [] all = refl
  sum-none f (x ∷ xs) all =
      let a : sum_by f (x ∷ xs) ≡ f x + sum_by f xs = sum_by-cons f x xs in
      let one : f x ≡ 0 = all.0 in
      let rest : sum_by f xs ≡ 0 = sum-none f xs all.1 in
      omega (arith, a, one, rest)

  pub sum-empty : (f : A → ℕ) (xs : List A) → length xs ≡ 0 → sum_by f xs ≡ 0
  sum-empty f [] none = refl
  sum-empty f (x ∷ xs) none = absurd (omega (arith, none))
