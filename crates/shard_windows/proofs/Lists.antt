-- Lists whose elements are changed one after the other (nothing of the language).
use Rattle.std.proofs.Common.{◌≡◌, ℕ, zero, suc, ◌+◌, ◌<◌, ◌≤◌, List, [], ◌∷◌, length, map, get_or, set, refl, sym, ap, subst, ◌∙◌, arith}
use Rattle.std.specs.List.{AllZip}
use Rattle.vf_base.specs.Lists.{AllHold}

-- of two lists the first so many elements were changed so, and the others are the same
abbrev pub ChangedTo : {A : Type 0} → (A → A → Type 0) → ℕ → List A → List A → Type 0
ChangedTo R i [] [] = Unit {0}
ChangedTo R i [] (y ∷ ys) = ⊥
ChangedTo R i (x ∷ xs) [] = ⊥
ChangedTo R zero (x ∷ xs) (y ∷ ys) = (y ≡ x) × ChangedTo R zero xs ys
ChangedTo R (suc i) (x ∷ xs) (y ∷ ys) = R x y × ChangedTo R i xs ys

module _ {A : Type 0} (R : A → A → Type 0) where
  pub changed-none : (xs : List A) → ChangedTo R 0 xs xs
  changed-none [] = tt
  changed-none (x ∷ xs) = (refl, changed-none xs)

  pub changed-length : (i : ℕ) (xs ys : List A) → ChangedTo R i xs ys → length ys ≡ length xs
  changed-length i [] [] c = refl
  changed-length i [] (y ∷ ys) c = absurd c
  changed-length i (x ∷ xs) [] c = absurd c
  changed-length zero (x ∷ xs) (y ∷ ys) c = ap suc (changed-length zero xs ys c.1)
  changed-length (suc i) (x ∷ xs) (y ∷ ys) c = ap suc (changed-length i xs ys c.1)

  -- one element more
  changed-suc : (i : ℕ) (xs ys : List A) (x y : A) → ChangedTo R i xs ys → i < length xs → x ≡ get_or ys i x → R x y → ChangedTo R (suc i) xs (set ys i y)
  changed-suc i [] ys x y c low read r = absurd (omega (arith, low))
  changed-suc i (first ∷ xs) [] x y c low read r = absurd c
  changed-suc zero (first ∷ xs) (other ∷ ys) x y c low read r = (subst (λ z. R z y) (read ∙ c.0) r, c.1)
  changed-suc (suc i) (first ∷ xs) (other ∷ ys) x y c low read r = (c.0, changed-suc i xs ys x y c.1 (omega (arith, low)) read r)

  pub changed-more : (i : ℕ) (xs ys : List A) (x y : A) → ChangedTo R i xs ys → i < length xs → x ≡ get_or ys i x → R x y → ChangedTo R (i + 1) xs (set ys i y)
  changed-more i xs ys x y c low read r =
      let same : suc i ≡ i + 1 = omega arith in
      subst (λ n. ChangedTo R n xs (set ys i y)) same (changed-suc i xs ys x y c low read r)

  pub changed-all : (i : ℕ) (xs ys : List A) → ChangedTo R i xs ys → length xs ≤ i → AllZip R xs ys
  changed-all i [] [] c all = tt
  changed-all i [] (y ∷ ys) c all = absurd c
  changed-all i (x ∷ xs) [] c all = absurd c
  changed-all zero (x ∷ xs) (y ∷ ys) c all = absurd (omega (arith, all))
  changed-all (suc i) (x ∷ xs) (y ∷ ys) c all = (c.0, changed-all i xs ys c.1 (omega (arith, all)))

  -- what holds of each element at first holds of one that wasn't changed yet
  pub unchanged-holds : (P : A → Type 0) (i : ℕ) (xs ys : List A) (x : A) → ChangedTo R i xs ys → AllHold P xs → i < length xs → x ≡ get_or ys i x → P x
  unchanged-holds P i [] ys x c all low read = absurd (omega (arith, low))
  unchanged-holds P i (first ∷ xs) [] x c all low read = absurd c
  unchanged-holds P zero (first ∷ xs) (other ∷ ys) x c all low read = subst P (sym (read ∙ c.0)) all.0
  unchanged-holds P (suc i) (first ∷ xs) (other ∷ ys) x c all low read = unchanged-holds P i xs ys x c.1 all.1 (omega (arith, low)) read

  -- all elements were changed so
  pub zip-holds : (P : A → Type 0) → ((x y : A) → R x y → P y) → (xs ys : List A) → AllZip R xs ys → AllHold P ys
  zip-holds P law [] [] zip = tt
  zip-holds P law [] (y ∷ ys) zip = absurd zip
  zip-holds P law (x ∷ xs) [] zip = absurd zip
  zip-holds P law (x ∷ xs) (y ∷ ys) zip = (law x y zip.0, zip-holds P law xs ys zip.1)

module _ {A B : Type 0} (R : A → A → Type 0) (S : B → B → Type 0) (f : A → B) (law : (x y : A) → R x y → S (f x) (f y)) where
  pub zip-map : (xs ys : List A) → AllZip R xs ys → AllZip S (map f xs) (map f ys)
  zip-map [] [] zip = tt
  zip-map [] (y ∷ ys) zip = absurd zip
  zip-map (x ∷ xs) [] zip = absurd zip
  zip-map (x ∷ xs) (y ∷ ys) zip = (law x y zip.0, zip-map xs ys zip.1)
