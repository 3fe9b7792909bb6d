-- Lists whose elements are changed one after the other (nothing of the language).
use Rattle.std.proofs.Common.{◌≡◌, ℕ, zero, suc, ◌+◌, ◌<◌, ◌≤◌, List, [], ◌∷◌, length, get_or, set, refl, sym, ap, subst, ◌∙◌, arith}
use Rattle.std.specs.List.{AllZip, sum_by}
use Rattle.std.proofs.lemmas.List.Sums.{sum_by-cons, sum_by-set}
use Rattle.vf_base.specs.Lists.{AllHold}
use Rattle.slot_steps.specs.Rises.{RisesWithin}

-- of two lists the first so many elements were changed so, and the others are the same
abbrev pub ChangedTo : {A : Type 0} → (A → A → Type 0) → ℕ → List A → List A → Type 0
ChangedTo R i [] [] = Unit {0}
ChangedTo R i [] (y ∷ ys) = ⊥
ChangedTo R i (x ∷ xs) [] = ⊥
ChangedTo R zero (x ∷ xs) (y ∷ ys) = (y ≡ x) × ChangedTo R zero xs ys
ChangedTo R (suc i) (x ∷ xs) (y ∷ ys) = R x y × ChangedTo R i xs ys

module _ {A : Type 0} (R : A → A → Type 0) where
  pub changed-none : (xs : List A) → ChangedTo R 0 xs xs
  changed-none [] = tt
  changed-none (x ∷ xs) = (refl, changed-none xs)

  pub changed-length : (i : ℕ) (xs ys : List A) → ChangedTo R i xs ys → length ys ≡ length xs
  changed-length i [] [] c = refl
  changed-length i [] (y ∷ ys) c = absurd c
  changed-length i (x ∷ xs) [] c = absurd c
  changed-length zero (x ∷ xs) (y ∷ ys) c = ap suc (changed-length zero xs ys c.1)
  changed-length (suc i) (x ∷ xs) (y ∷ ys) c = ap suc (changed-length i xs ys c.1)

  -- one element more
  changed-suc : (i : ℕ) (xs ys : List A) (x y : A) → ChangedTo R i xs ys → i < length xs → x ≡ get_or ys i x → R x y → ChangedTo R (suc i) xs (set ys i y)
  changed-suc i [] ys x y c low read r = absurd (omega (arith, low))
  changed-suc i (first ∷ xs) [] x y c low read r = absurd c
  changed-suc zero (first ∷ xs) (other ∷ ys) x y c low read r = (subst (λ z. R z y) (read ∙ c.0) r, c.1)
  changed-suc (suc i) (first ∷ xs) (other ∷ ys) x y c low read r = (c.0, changed-suc i xs ys x y c.1 (omega (arith, low)) read r)

  pub changed-more : (i : ℕ) (xs ys : List A) (x y : A) → ChangedTo R i xs ys → i < length xs → x ≡ get_or ys i x → R x y → ChangedTo R (i + 1) xs (set ys i y)
  changed-more i xs ys x y c low read r =
      let same : suc i ≡ i + 1 = omega arith in
      subst (λ n. ChangedTo R n xs (set ys i y)) same (changed-suc i xs ys x y c low read r)

  pub changed-all : (i : ℕ) (xs ys : List A) → ChangedTo R i xs ys → length xs ≤ i → AllZip R xs ys
  changed-all i [] [] c all = tt
  changed-all i [] (y ∷ ys) c all = absurd c
  changed-all i (x ∷ xs) [] c all = absurd c
  changed-all zero (x ∷ xs) (y ∷ ys) c all = absurd (omega (arith, all))
  changed-all (suc i) (x ∷ xs) (y ∷ ys) c all = (c.0, changed-all i xs ys c.1 (omega (arith, all)))

  -- what holds of each element at first holds of one that wasn't changed yet
  pub unchanged-holds : (P : A → Type 0) (i : ℕ) (xs ys : List A) (x : A) → ChangedTo R i xs ys → AllHold P xs → i < length xs → x ≡ get_or ys i x → P x
  unchanged-holds P i [] ys x c all low read = absurd (omega (arith, low))
  unchanged-holds P i (first ∷ xs) [] x c all low read = absurd c
  unchanged-holds P zero (first ∷ xs) (other ∷ ys) x c all low read = subst P (sym (read ∙ c.0)) all.0
  unchanged-holds P (suc i) (first ∷ xs) (other ∷ ys) x c all low read = unchanged-holds P i xs ys x c.1 all.1 (omega (arith, low)) read

  -- what follows from what holds of each old element, of the new ones
  pub zip-holds : (P Q : A → Type 0) → ((x y : A) → P x → R x y → Q y) → (xs ys : List A) → AllHold P xs → AllZip R xs ys → AllHold Q ys
  zip-holds P Q law [] [] all zip = tt
  zip-holds P Q law [] (y ∷ ys) all zip = absurd zip
  zip-holds P Q law (x ∷ xs) [] all zip = absurd zip
  zip-holds P Q law (x ∷ xs) (y ∷ ys) all zip = (law x y all.0 zip.0, zip-holds P Q law xs ys all.1 zip.1)

  -- and of both
  pub zip-with : (P : A → Type 0) (S : A → A → Type 0) → ((x y : A) → P x → R x y → S x y) → (xs ys : List A) → AllHold P xs → AllZip R xs ys → AllZip S xs ys
  zip-with P S law [] [] all zip = tt
  zip-with P S law [] (y ∷ ys) all zip = absurd zip
  zip-with P S law (x ∷ xs) [] all zip = absurd zip
  zip-with P S law (x ∷ xs) (y ∷ ys) all zip = (law x y all.0 zip.0, zip-with P S law xs ys all.1 zip.1)

  -- elements that stay
  pub zip-same : (P : A → Type 0) → ((x : A) → P x → R x x) → (xs : List A) → AllHold P xs → AllZip R xs xs
  zip-same P law [] all = tt
  zip-same P law (x ∷ xs) all = (law x all.0, zip-same P law xs all.1)

  -- one change behind another
  pub zip-join : (S T : A → A → Type 0) → ((x y z : A) → R x y → S y z → T x z) → (xs ys zs : List A) → AllZip R xs ys → AllZip S ys zs → AllZip T xs zs
  zip-join S T law [] [] [] one two = tt
  zip-join S T law [] [] (z ∷ zs) one two = absurd two
  zip-join S T law [] (y ∷ ys) zs one two = absurd one
  zip-join S T law (x ∷ xs) [] zs one two = absurd one
  zip-join S T law (x ∷ xs) (y ∷ ys) [] one two = absurd two
  zip-join S T law (x ∷ xs) (y ∷ ys) (z ∷ zs) one two = (law x y z one.0 two.0, zip-join S T law xs ys zs one.1 two.1)

module _ {A : Type 0} (P Q : A → Type 0) where
  pub hold-map : ((x : A) → P x → Q x) → (xs : List A) → AllHold P xs → AllHold Q xs
  hold-map law [] all = tt
  hold-map law (x ∷ xs) all = (law x all.0, hold-map law xs all.1)

  pub hold-both : (xs : List A) → AllHold P xs → AllHold Q xs → AllHold (λ (x : A). P x × Q x) xs
  hold-both [] one other = tt
  hold-both (x ∷ xs) one other = ((one.0, other.0), hold-both xs one.1 other.1)

-- Sums

module _ {A : Type 0} (f : A → ℕ) where
  -- where the sum over a list bounds what a counter rose by, it does with one element changed for which the counter rose by no more than that is above what it was
  pub sum-more : (xs : List A) (i : ℕ) (x y : A) (from before mid after : ℕ) → i < length xs → x ≡ get_or xs i x → RisesWithin from (sum_by f xs) before mid → RisesWithin (f x) (f y) mid after →
      RisesWithin from (sum_by f (set xs i y)) before after
  sum-more xs i x y from before mid after low read so_far rises =
      let more : sum_by f (set xs i y) + f (get_or xs i x) ≡ sum_by f xs + f y = sum_by-set f xs i y x low in
      let same : f x ≡ f (get_or xs i x) = ap f read in
      omega (arith, more, same, so_far, rises)

  -- changes that leave it
  pub sum-same : (R : A → A → Type 0) → ((x y : A) → R x y → f y ≡ f x) → (xs ys : List A) → AllZip R xs ys → sum_by f ys ≡ sum_by f xs
  sum-same R law [] [] zip = refl
  sum-same R law [] (y ∷ ys) zip = absurd zip
  sum-same R law (x ∷ xs) [] zip = absurd zip
  sum-same R law (x ∷ xs) (y ∷ ys) zip = sum_by-cons f y ys ∙ ((λ i. law x y zip.0 i + sum-same R law xs ys zip.1 i) ∙ sym (sum_by-cons f x xs))
