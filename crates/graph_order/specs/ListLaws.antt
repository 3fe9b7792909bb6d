-- Laws on the words that the definitions use of lists (nothing of the language).
use Rattle.std.proofs.Common.{◌≡◌, ℕ, zero, suc, ◌+◌, ◌<◌, ◌≤◌, Bool, true, false, List, [], ◌∷◌, ◌++◌, length, get_or, take, refl, ap, sym, ◌∙◌, subst, inl, inr, arith}
use Rattle.std.specs.Prelude.{Some, slice_get, nat_eq, ◌||◌, sum_by, ◌⊎◌}
use Rattle.std.proofs.lemmas.List.Sums.{sum_by-cons}
use Rattle.std.proofs.lemmas.Bool.{or_cases, or_right, or_left, eqb-true, eq-eqb, ne_eqb}
use Rattle.std.proofs.lemmas.List.{take_more}
use Rattle.vf_base.specs.Lists.{has, without_repeats, fresh_only, AllHold}

-- a fact of each element holds of one that stands in the list
pub AllHold-slice_get : {A : Type 0} (P : A → Type 0) (xs : List A) (i : ℕ) (x : A) → AllHold P xs → slice_get xs i ≡ Some x → P x
AllHold-slice_get P [] i x h e = absurd (cc)
AllHold-slice_get P (y ∷ ys) zero x h e = let same : y ≡ x = cc in subst P same h.0
AllHold-slice_get P (y ∷ ys) (suc i) x h e = AllHold-slice_get P ys i x h.1 e

-- a fact of each element holds of a number that the list has
pub AllHold-has : (P : ℕ → Type 0) (xs : List ℕ) (n : ℕ) → AllHold P xs → has xs n ≡ true → P n
AllHold-has P [] n h e = absurd (cc)
AllHold-has P (x ∷ xs) n h e =
    elim (or_cases (nat_eq x n) (has xs n) e) [ inl same ↦ subst P (eqb-true x n same) h.0 | inr there ↦ AllHold-has P xs n h.1 there ]

-- sums of equal terms are equal
pub sum_by-agree : {A : Type 0} (f g : A → ℕ) (xs : List A) → ((i : ℕ) (x : A) → slice_get xs i ≡ Some x → f x ≡ g x) → sum_by f xs ≡ sum_by g xs
sum_by-agree f g [] same = refl
sum_by-agree f g (x ∷ xs) same =
    let here : f x ≡ g x = same 0 x refl in
    let rest : sum_by f xs ≡ sum_by g xs = sum_by-agree f g xs (λ i y e. same (suc i) y e) in
    sum_by-cons f x xs ∙ (cc) ∙ sym (sum_by-cons g x xs)

-- a sum of nothing but 0
pub sum_by-none : {A : Type 0} (f : A → ℕ) (xs : List A) → ((i : ℕ) (x : A) → slice_get xs i ≡ Some x → f x ≡ 0) → sum_by f xs ≡ 0
sum_by-none f [] none = refl
sum_by-none f (x ∷ xs) none =
    let here : f x ≡ 0 = none 0 x refl in
    let rest : sum_by f xs ≡ 0 = sum_by-none f xs (λ i y e. none (suc i) y e) in
    omega (arith, sum_by-cons f x xs)

-- sums over numbers of the list
pub sum_by-agree_has : (p q : ℕ → ℕ) (xs : List ℕ) → ((x : ℕ) → has xs x ≡ true → p x ≡ q x) → sum_by p xs ≡ sum_by q xs
sum_by-agree_has p q [] same = refl
sum_by-agree_has p q (x ∷ xs) same =
    let here : p x ≡ q x = same x (or_left (nat_eq x x) (has xs x) (eq-eqb x x refl)) in
    let rest : sum_by p xs ≡ sum_by q xs = sum_by-agree_has p q xs (λ y e. same y (or_right (nat_eq x y) (has xs y) e)) in
    sum_by-cons p x xs ∙ (cc) ∙ sym (sum_by-cons q x xs)

-- a term of a sum is at most the sum
pub le-sum_by : (p : ℕ → ℕ) (xs : List ℕ) (x : ℕ) → has xs x ≡ true → p x ≤ sum_by p xs
le-sum_by p [] x e = absurd (cc)
le-sum_by p (y ∷ ys) x e =
    elim (or_cases (nat_eq y x) (has ys x) e) [
      | inl same ↦ let term : p y ≡ p x = ap p (eqb-true y x same) in omega (arith, sum_by-cons p y ys)
      | inr there ↦ omega (arith, sum_by-cons p y ys, le-sum_by p ys x there)
    ]

positive_term : (p : ℕ → ℕ) (y : ℕ) (ys : List ℕ) → (0 < sum_by p ys → (x : ℕ) × (has ys x ≡ true) × (0 < p x)) → 0 < p y + sum_by p ys → (n : ℕ) → p y ≡ n →
    (x : ℕ) × (has (y ∷ ys) x ≡ true) × (0 < p x)
positive_term p y ys rest h zero e = let r = rest (omega arith) in (r.0, or_right (nat_eq y r.0) (has ys r.0) r.1, r.2)
positive_term p y ys rest h (suc n) e = (y, or_left (nat_eq y y) (has ys y) (eq-eqb y y refl), omega arith)

-- a sum that isn't 0 has a term that isn't 0
pub term_of_sum : (p : ℕ → ℕ) (xs : List ℕ) → 0 < sum_by p xs → (x : ℕ) × (has xs x ≡ true) × (0 < p x)
term_of_sum p [] h = absurd (omega arith)
term_of_sum p (y ∷ ys) h = positive_term p y ys (term_of_sum p ys) (omega (arith, sum_by-cons p y ys)) (p y) refl

pub has-append : (xs ys : List ℕ) (n : ℕ) → has (xs ++ ys) n ≡ (has xs n || has ys n)
has-append [] ys n = refl
has-append (x ∷ xs) ys n = elim (nat_eq x n) as (λ b. (b || has (xs ++ ys) n) ≡ ((b || has xs n) || has ys n)) [ true ↦ refl | false ↦ has-append xs ys n ]

pub or-false : (b : Bool) → (b || false) ≡ b
or-false true = refl
or-false false = refl

pub has-take_more : (xs : List ℕ) (i n : ℕ) → i < length xs → has (take (i + 1) xs) n ≡ (has (take i xs) n || nat_eq (get_or xs i 0) n)
has-take_more xs i n h =
    ap (λ l. has l n) (take_more xs i 0 h) ∙ has-append (take i xs) (get_or xs i 0 ∷ []) n ∙ ap (λ b. has (take i xs) n || b) (or-false (nat_eq (get_or xs i 0) n))

-- what is kept stood there
pub has-fresh_only : (seen : Bool) (x : ℕ) (rest : List ℕ) (n : ℕ) → has (fresh_only seen x rest) n ≡ true → (nat_eq x n || has rest n) ≡ true
has-fresh_only true x rest n e = or_right (nat_eq x n) (has rest n) e
has-fresh_only false x rest n e = e

pub has-without_repeats : (seen xs : List ℕ) (n : ℕ) → has (without_repeats seen xs) n ≡ true → has xs n ≡ true
has-without_repeats seen [] n e = e
has-without_repeats seen (x ∷ xs) n e =
    elim (or_cases (nat_eq x n) (has (without_repeats (x ∷ seen) xs) n) (has-fresh_only (has seen x) x _ n e)) [
      | inl same ↦ or_left (nat_eq x n) (has xs n) same
      | inr there ↦ or_right (nat_eq x n) (has xs n) (has-without_repeats (x ∷ seen) xs n there)
    ]

fresh_kept : (seen : List ℕ) (x n : ℕ) (rest : List ℕ) → nat_eq x n ≡ true → has seen n ≡ false → has (fresh_only (has seen x) x rest) n ≡ true
fresh_kept seen x n rest same e =
    let same_seen : has seen x ≡ has seen n = ap (has seen) (eqb-true x n same) in
    let fresh : has seen x ≡ false = cc in
    subst (λ b. has (fresh_only b x rest) n ≡ true) (sym fresh) (or_left (nat_eq x n) (has rest n) same)

rest_kept : (seen : Bool) (x n : ℕ) (rest : List ℕ) → has rest n ≡ true → has (fresh_only seen x rest) n ≡ true
rest_kept true x n rest e = e
rest_kept false x n rest e = or_right (nat_eq x n) (has rest n) e

-- what stood there is kept, once
pub without_repeats-has : (seen xs : List ℕ) (n : ℕ) → has xs n ≡ true → has seen n ≡ false → has (without_repeats seen xs) n ≡ true
without_repeats-has seen [] n e h = e
without_repeats-has seen (x ∷ xs) n e h =
    elim (nat_eq x n) as (λ b. nat_eq x n ≡ b → has (without_repeats seen (x ∷ xs)) n ≡ true) [
      | true ↦ λ same. fresh_kept seen x n (without_repeats (x ∷ seen) xs) same h
      | false ↦ λ other.
          let there : has xs n ≡ true = subst (λ b. (b || has xs n) ≡ true) other e in
          let unseen : has (x ∷ seen) n ≡ false = subst (λ b. (b || has seen n) ≡ false) (sym other) h in
          rest_kept (has seen x) x n (without_repeats (x ∷ seen) xs) (without_repeats-has (x ∷ seen) xs n there unseen)
    ] refl

or-middle : (a b c : Bool) → ((a || b) || c) ≡ (b || (a || c))
or-middle true true c = refl
or-middle true false c = refl
or-middle false true c = refl
or-middle false false c = refl

fresh_only-append : (b : Bool) (x : ℕ) (rest ys : List ℕ) → fresh_only b x (rest ++ ys) ≡ fresh_only b x rest ++ ys
fresh_only-append true x rest ys = refl
fresh_only-append false x rest ys = refl

fresh_only-seen : (b c : Bool) (x : ℕ) → b ≡ c → fresh_only b x [] ≡ fresh_only c x []
fresh_only-seen b c x e = ap (λ t. fresh_only t x []) e

-- one more number at the end
pub without_repeats-push : (seen xs : List ℕ) (n : ℕ) → without_repeats seen (xs ++ n ∷ []) ≡ without_repeats seen xs ++ fresh_only (has seen n || has xs n) n []
without_repeats-push seen [] n = ap (λ t. fresh_only t n []) (sym (or-false (has seen n)))
without_repeats-push seen (x ∷ xs) n =
    ap (fresh_only (has seen x) x) (without_repeats-push (x ∷ seen) xs n)
    ∙ fresh_only-append (has seen x) x (without_repeats (x ∷ seen) xs) (fresh_only (has (x ∷ seen) n || has xs n) n [])
    ∙ ap (λ t. fresh_only (has seen x) x (without_repeats (x ∷ seen) xs) ++ fresh_only t n []) (or-middle (nat_eq x n) (has seen n) (has xs n))

-- a list has its last number
pub now_has : (taken : List ℕ) (x : ℕ) → has (taken ++ x ∷ []) x ≡ true
now_has taken x = has-append taken (x ∷ []) x ∙ or_right (has taken x) (nat_eq x x || false) (or_left (nat_eq x x) false (eq-eqb x x refl))

-- one more number is that number alone
pub still_has : (taken : List ℕ) (x o : ℕ) → (o ≡ x → ⊥) → has (taken ++ x ∷ []) o ≡ has taken o
still_has taken x o other =
    has-append taken (x ∷ []) o ∙ ap (λ b. has taken o || (b || false)) (ne_eqb x o (λ e. other (sym e))) ∙ or-false (has taken o)

-- an element of a list stands in it
pub has-get_or : (xs : List ℕ) (i d : ℕ) → i < length xs → has xs (get_or xs i d) ≡ true
has-get_or [] i d low = absurd (omega arith)
has-get_or (x ∷ xs) zero d low = or_left (nat_eq x x) (has xs x) (eq-eqb x x refl)
has-get_or (x ∷ xs) (suc i) d low = or_right (nat_eq x (get_or xs i d)) (has xs (get_or xs i d)) (has-get_or xs i d (omega arith))

-- where a number stands
pub has_place : (xs : List ℕ) (n : ℕ) → has xs n ≡ true → (i : ℕ) × (i < length xs) × (get_or xs i 0 ≡ n)
has_place [] n e = absurd (cc)
has_place (x ∷ xs) n e =
    elim (or_cases (nat_eq x n) (has xs n) e) [
      | inl same ↦ (0, omega arith, eqb-true x n same)
      | inr there ↦ let r = has_place xs n there in (suc r.0, omega (arith, r.1), r.2)
    ]

-- what stands in the first part stands in the whole
pub has-take : (xs : List ℕ) (i n : ℕ) → has (take i xs) n ≡ true → has xs n ≡ true
has-take xs zero n e = absurd (cc)
has-take [] (suc i) n e = absurd (cc)
has-take (x ∷ xs) (suc i) n e =
    elim (or_cases (nat_eq x n) (has (take i xs) n) e) [
      | inl same ↦ or_left (nat_eq x n) (has xs n) same
      | inr there ↦ or_right (nat_eq x n) (has xs n) (has-take xs i n there)
    ]

-- what a longer list has that is its last number or stood before
pub has_push : (xs : List ℕ) (y n : ℕ) → has (xs ++ y ∷ []) n ≡ true → (has xs n ≡ true) ⊎ (y ≡ n)
has_push xs y n e =
    elim (or_cases (has xs n) (nat_eq y n || false) (sym (has-append xs (y ∷ []) n) ∙ e)) [
      | inl before ↦ inl before
      | inr last ↦ inr (eqb-true y n (sym (or-false (nat_eq y n)) ∙ last))
    ]

-- a number that stood in a list stands in a longer one
pub has_before : (xs : List ℕ) (y n : ℕ) → has xs n ≡ true → has (xs ++ y ∷ []) n ≡ true
has_before xs y n e = has-append xs (y ∷ []) n ∙ or_left (has xs n) (nat_eq y n || false) e
