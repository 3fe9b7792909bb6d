-- Laws on numbered lists (nothing of the language).
use Rattle.std.proofs.Common.{◌≡◌, ℕ, zero, suc, ◌+◌, ◌<◌, ◌≤◌, Bool, true, List, [], ◌∷◌, ◌++◌, length, map, Some, refl, ap, sym, ◌∙◌, subst, inl, inr, arith}
use Rattle.std.specs.Prelude.{nat_eq, slice_get, filter, flat_map, sum_by}
use Rattle.std.proofs.lemmas.Bool.{cases_Bool, or_cases, or_left, or_right, eq-eqb, eqb-true, cond-true, cond-false}
use Rattle.std.proofs.lemmas.List.Sums.{sum_by-cons}
use Rattle.vf_base.specs.Lists.{has, map_numbered, without_repeats, fresh_only, AllHold}
use Rattle.v_design.specs.Expressions.{up_from}
use Rattle.v_design.specs.WellFormed.{IsAscending}
use Rattle.graph_order.specs.ListLaws.{AllHold-has, sum_by-none}
use Rattle.flat_laws.specs.Lists.{same_some}

-- Numbers of elements

pub length-numbered : {A B : Type 0} (f : ℕ → A → B) (n : ℕ) (xs : List A) → length (map_numbered f n xs) ≡ length xs
length-numbered f n [] = refl
length-numbered f n (x ∷ xs) = ap suc (length-numbered f (n + 1) xs)

-- an element with its number
pub at-numbered : {A B : Type 0} (f : ℕ → A → B) (n : ℕ) (xs : List A) (i : ℕ) (y : B) → slice_get (map_numbered f n xs) i ≡ Some y → (x : A) × (slice_get xs i ≡ Some x) × (f (n + i) x ≡ y)
at-numbered f n [] i y e = absurd (cc)
at-numbered f n (x ∷ xs) zero y e = let same : n + 0 ≡ n = omega arith in (x, refl, ap (λ k. f k x) same ∙ same_some (f n x) y e)
at-numbered f n (x ∷ xs) (suc i) y e =
    let r = at-numbered f (n + 1) xs i y e in
    let same : n + suc i ≡ (n + 1) + i = omega arith in
    (r.0, r.1, ap (λ k. f k r.0) same ∙ r.2)

-- Numbers upwards

pub has-up_from : (start count n : ℕ) → has (up_from start count) n ≡ true → (start ≤ n) × (n < start + count)
has-up_from start zero n e = absurd (cc)
has-up_from start (suc count) n e =
    elim (or_cases (nat_eq start n) (has (up_from (start + 1) count) n) e) [
      | inl same ↦ let is = eqb-true start n same in (omega (arith, is), omega (arith, is))
      | inr later ↦ let r = has-up_from (start + 1) count n later in (omega (arith, r.0), omega (arith, r.1))
    ]

pub AllHold-up_from : (start count : ℕ) → AllHold (λ n. (start ≤ n) × (n < start + count)) (up_from start count)
AllHold-up_from start count = within start count start (start + count) (omega arith) (omega arith)
  where
    within : (first some low high : ℕ) → low ≤ first → first + some ≤ high → AllHold (λ n. (low ≤ n) × (n < high)) (up_from first some)
    within first zero low high l h = tt
    within first (suc some) low high l h = ((l, omega (arith, h)), within (first + 1) some low high (omega (arith, l)) (omega (arith, h)))

pub AllHold-filter : {A : Type 0} (P : A → Type 0) (test : A → Bool) (xs : List A) → AllHold P xs → AllHold P (filter test xs)
AllHold-filter P test [] h = tt
AllHold-filter P test (x ∷ xs) h =
    elim (cases_Bool (test x)) [
      | inl passes ↦ subst (AllHold P) (sym (cond-true (test x) (x ∷ filter test xs) (filter test xs) passes)) (h.0, AllHold-filter P test xs h.1)
      | inr fails ↦ subst (AllHold P) (sym (cond-false (test x) (x ∷ filter test xs) (filter test xs) fails)) (AllHold-filter P test xs h.1)
    ]

pub AllHold-each : {A : Type 0} (P Q : A → Type 0) (xs : List A) → ((x : A) → P x → Q x) → AllHold P xs → AllHold Q xs
AllHold-each P Q [] each h = tt
AllHold-each P Q (x ∷ xs) each h = (each x h.0, AllHold-each P Q xs each h.1)

pub AllHold-append : {A : Type 0} (P : A → Type 0) (xs ys : List A) → AllHold P xs → AllHold P ys → AllHold P (xs ++ ys)
AllHold-append P [] ys h k = k
AllHold-append P (x ∷ xs) ys h k = (h.0, AllHold-append P xs ys h.1 k)

pub AllHold-flat_map : {A B : Type 0} (P : B → Type 0) (f : A → List B) (xs : List A) → AllHold (λ x. AllHold P (f x)) xs → AllHold P (flat_map f xs)
AllHold-flat_map P f [] h = tt
AllHold-flat_map P f (x ∷ xs) h = AllHold-append P (f x) (flat_map f xs) h.0 (AllHold-flat_map P f xs h.1)

pub AllHold-map : {A B : Type 0} (P : B → Type 0) (f : A → B) (xs : List A) → AllHold (λ x. P (f x)) xs → AllHold P (map f xs)
AllHold-map P f [] h = tt
AllHold-map P f (x ∷ xs) h = (h.0, AllHold-map P f xs h.1)

pub AllHold-all : {A : Type 0} (P : A → Type 0) (xs : List A) → ((x : A) → P x) → AllHold P xs
AllHold-all P [] each = tt
AllHold-all P (x ∷ xs) each = (each x, AllHold-all P xs each)

-- Ascending numbers

-- ascending numbers, none of which was seen, are all fresh
ascending-fresh : (seen xs : List ℕ) → ((s x : ℕ) → has seen s ≡ true → has xs x ≡ true → s < x) → IsAscending xs → without_repeats seen xs ≡ xs
ascending-fresh seen [] less up = refl
ascending-fresh seen (x ∷ xs) less up =
    elim (cases_Bool (has seen x)) [
      | inl old ↦ let low : x < x = less x x old (or_left (nat_eq x x) (has xs x) (eq-eqb x x refl)) in absurd (omega (arith, low))
      | inr fresh ↦
          ap (λ b. fresh_only b x (without_repeats (x ∷ seen) xs)) fresh
          ∙ ap (λ l. x ∷ l)
          (ascending-fresh (x ∷ seen) xs
          (λ s y e h.
          elim (or_cases (nat_eq x s) (has seen s) e) [
            | inl same ↦ subst (λ n. n < y) (eqb-true x s same) (AllHold-has (λ later. x < later) xs y up.0 h)
            | inr old ↦ less s y old (or_right (nat_eq x y) (has xs y) h)
          ]) up.1)
    ]

-- ascending numbers stand each once
pub ascending-once : (xs : List ℕ) → IsAscending xs → without_repeats [] xs ≡ xs
ascending-once xs up = ascending-fresh [] xs (λ s x e h. absurd (cc)) up

-- Counting

-- what counts one at a single number at most counts one at most
pub counted-once : {A : Type 0} (f : A → ℕ) (xs : List A) (number : ℕ) → ((i : ℕ) (x : A) → slice_get xs i ≡ Some x → f x ≤ 1) →
    ((i : ℕ) (x : A) → slice_get xs i ≡ Some x → (i ≡ number → ⊥) → f x ≡ 0) → sum_by f xs ≤ 1
counted-once f [] number few none = omega arith
counted-once f (x ∷ xs) zero few none =
    let here : f x ≤ 1 = few 0 x refl in
    let rest : sum_by f xs ≡ 0 = sum_by-none f xs (λ i y at. none (suc i) y at (λ e. omega arith)) in
    omega (arith, sum_by-cons f x xs, here, rest)
counted-once f (x ∷ xs) (suc number) few none =
    let here : f x ≡ 0 = none 0 x refl (λ e. omega arith) in
    let rest : sum_by f xs ≤ 1 = counted-once f xs number (λ i y at. few (suc i) y at) (λ i y at other. none (suc i) y at (λ e. other (omega (arith, e)))) in
    omega (arith, sum_by-cons f x xs, here, rest)
