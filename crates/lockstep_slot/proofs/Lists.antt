-- Two lists side by side (nothing of the language).
use Rattle.std.proofs.Common.{◌≡◌, ℕ, ◌+◌, ◌<◌, ◌++◌, Bool, true, false, ◌||◌, List, [], ◌∷◌, length, take, get_or, refl, sym, ap, subst, ◌∙◌}
use Rattle.std.proofs.lemmas.List.{take_more}
use Rattle.std.specs.List.{AllZip, list_any}
use Rattle.vf_base.specs.Lists.{AllHold}

module _ {A : Type 0} where
  -- what follows of pairs from what holds of each of both
  pub zip-pairs : (R S : A → A → Type 0) (P Q : A → Type 0) → ((x y : A) → R x y → P x → Q y → S x y) → (xs ys : List A) → AllZip R xs ys → AllHold P xs → AllHold Q ys → AllZip S xs ys
  zip-pairs R S P Q law [] [] zip one other = tt
  zip-pairs R S P Q law [] (y ∷ ys) zip one other = absurd zip
  zip-pairs R S P Q law (x ∷ xs) [] zip one other = absurd zip
  zip-pairs R S P Q law (x ∷ xs) (y ∷ ys) zip one other = (law x y zip.0 one.0 other.0, zip-pairs R S P Q law xs ys zip.1 one.1 other.1)

  -- a pair the second element of which passes a test
  pub record HasPassing (R : A → A → Type 0) (P : A → Type 0) (test : A → Bool) : Type 0 where
    pub old : A
    pub new : A
    pub relates : R old new
    pub holds : P old
    pub passes : test new ≡ true

  pub some-passes : (R : A → A → Type 0) (P : A → Type 0) (test : A → Bool) (xs ys : List A) → AllZip R xs ys → AllHold P xs → list_any test ys ≡ true → HasPassing R P test
  some-passes R P test [] [] zip all e = cc
  some-passes R P test [] (y ∷ ys) zip all e = absurd zip
  some-passes R P test (x ∷ xs) [] zip all e = absurd zip
  some-passes R P test (x ∷ xs) (y ∷ ys) zip all e = go (test y) refl e (some-passes R P test xs ys zip.1 all.1)
    where
      go : (b : Bool) → test y ≡ b → (b || list_any test ys) ≡ true → (list_any test ys ≡ true → HasPassing R P test) → HasPassing R P test
      go true is e rest = record { old = x; new = y; relates = zip.0; holds = all.0; passes = is }
      go false is e rest = rest e

  pub none-passes : (test : A → Bool) (xs : List A) → list_any test xs ≡ false → AllHold (λ (x : A). test x ≡ false) xs
  none-passes test [] e = tt
  none-passes test (x ∷ xs) e = go (test x) refl e (none-passes test xs)
    where
      go : (b : Bool) → test x ≡ b → (b || list_any test xs) ≡ false → (list_any test xs ≡ false → AllHold (λ (y : A). test y ≡ false) xs) → AllHold (λ (y : A). test y ≡ false) (x ∷ xs)
      go true is e rest = cc
      go false is e rest = (is, rest e)

  -- what holds of the first so many elements holds of one more
  hold-more : (P : A → Type 0) (xs : List A) (x : A) → AllHold P xs → P x → AllHold P (xs ++ x ∷ [])
  hold-more P [] x all here = (here, tt)
  hold-more P (y ∷ xs) x all here = (all.0, hold-more P xs x all.1 here)

  pub take-more : (P : A → Type 0) (xs : List A) (place : ℕ) (x : A) → place < length xs → x ≡ get_or xs place x → AllHold P (take place xs) → P x → AllHold P (take (place + 1) xs)
  take-more P xs place x low read all here =
      subst (AllHold P) (sym (take_more xs place x low ∙ ap (λ (y : A). take place xs ++ y ∷ []) (sym read))) (hold-more P (take place xs) x all here)
