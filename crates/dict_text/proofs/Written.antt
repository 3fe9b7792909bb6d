-- What is written of lists, element by element (nothing of the language).
use Rattle.std.proofs.Common.{◌≡◌, ℕ, ◌+◌, ◌<◌, ◌≤◌, min, List, [], ◌∷◌, ◌++◌, length, get_or, drop, map, refl, sym, ap, ◌∙◌, ◌⊎◌, inl, inr, arith, append_assoc, append-nil}
use Rattle.std.proofs.lemmas.Bool.{cases_lt}
use Rattle.std.proofs.lemmas.List.{drop_more, drop_all}
use Rattle.vf_base.specs.Lists.{joined, zip_with}

-- what is left at a place
pub drop-at : {A : Type 0} (xs : List A) (n : ℕ) (x : A) → n < length xs → x ≡ get_or xs n x → drop n xs ≡ x ∷ drop (n + 1) xs
drop-at xs n x low is = drop_more xs n x low ∙ ap (λ y. y ∷ drop (n + 1) xs) (sym is)

-- one more element is written
pub lines-more : {A B : Type 0} (f : B → List ℕ) (h : A → B) (xs : List A) (n : ℕ) (x : A) (out more whole : List ℕ) → n < length xs → x ≡ get_or xs n x →
    (out ++ joined (map f (map h (drop n xs)))) ≡ whole → more ≡ out ++ f (h x) → (more ++ joined (map f (map h (drop (n + 1) xs)))) ≡ whole
lines-more f h xs n x out more whole low is had added =
    ap (λ l. l ++ joined (map f (map h (drop (n + 1) xs)))) added ∙ append_assoc out (f (h x)) (joined (map f (map h (drop (n + 1) xs))))
    ∙ ap (λ l. out ++ joined (map f (map h l))) (sym (drop-at xs n x low is)) ∙ had

-- all elements are written
pub lines-all : {A B : Type 0} (f : B → List ℕ) (h : A → B) (xs : List A) (n : ℕ) (out whole : List ℕ) → length xs ≤ n → (out ++ joined (map f (map h (drop n xs)))) ≡ whole → out ≡ whole
lines-all f h xs n out whole past had = sym (append-nil out) ∙ ap (λ l. out ++ joined (map f (map h l))) (sym (drop_all n xs past)) ∙ had

-- one more pair is written
pub pairs-more : {A B C D : Type 0} (f : B → D → List ℕ) (g : A → B) (h : C → D) (xs : List A) (ys : List C) (n m : ℕ) (x : A) (y : C) (out more whole : List ℕ) →
    n < length xs → n < length ys → x ≡ get_or xs n x → y ≡ get_or ys n y → m ≡ n + 1 →
    (out ++ joined (zip_with f (map g (drop n xs)) (map h (drop n ys)))) ≡ whole → more ≡ out ++ f (g x) (h y) → (more ++ joined (zip_with f (map g (drop m xs)) (map h (drop m ys)))) ≡ whole
pairs-more f g h xs ys n m x y out more whole low within is same next had added =
    ap (λ k. more ++ joined (zip_with f (map g (drop k xs)) (map h (drop k ys)))) next
    ∙ ap (λ l. l ++ joined (zip_with f (map g (drop (n + 1) xs)) (map h (drop (n + 1) ys)))) added
    ∙ append_assoc out (f (g x) (h y)) (joined (zip_with f (map g (drop (n + 1) xs)) (map h (drop (n + 1) ys))))
    ∙ (λ i. out ++ joined (zip_with f (map g (sym (drop-at xs n x low is) i)) (map h (sym (drop-at ys n y within same) i)))) ∙ had

zip-nil : {A B C : Type 0} (f : A → B → C) (xs : List A) → zip_with f xs [] ≡ []
zip-nil f [] = refl
zip-nil f (x ∷ xs) = refl

-- all pairs are written
pub pairs-all : {A B C D : Type 0} (f : B → D → List ℕ) (g : A → B) (h : C → D) (xs : List A) (ys : List C) (n : ℕ) (out whole : List ℕ) → n ≡ min (length xs) (length ys) →
    (out ++ joined (zip_with f (map g (drop n xs)) (map h (drop n ys)))) ≡ whole → out ≡ whole
pairs-all f g h xs ys n out whole done had = by (cases_lt n (length xs))
  where
    by : (n < length xs) ⊎ (length xs ≤ n) → out ≡ whole
    by (inl low) =
        let past : length ys ≤ n = omega arith in
        sym (append-nil out) ∙ ap (λ l. out ++ joined l) (sym (ap (λ l. zip_with f (map g (drop n xs)) (map h l)) (drop_all n ys past) ∙ zip-nil f (map g (drop n xs)))) ∙ had
    by (inr past) = sym (append-nil out) ∙ ap (λ l. out ++ joined (zip_with f (map g l) (map h (drop n ys)))) (sym (drop_all n xs past)) ∙ had
