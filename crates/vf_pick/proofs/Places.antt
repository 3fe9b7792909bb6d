-- The places of strobes, and the index of the faults that have them.
use Rattle.std.proofs.Common.{◌≡◌, ℕ, zero, suc, ◌+◌, ◌<◌, ◌≤◌, Bool, true, false, ◌||◌, cond, List, [], ◌∷◌, ◌++◌, length, get_or, map, filter, nat_eq, All, refl, sym, ap, subst, ◌∙◌, inl}
use Rattle.std.proofs.Common.{inr, arith}
use Rattle.std.specs.List.{position_or_len}
use Rattle.std.specs.List.Sorted.{IsNonDecreasing, IsNonDecreasingBy}
use Rattle.std.proofs.lemmas.Bool.{eqb-true, eq-eqb, ne_eqb, cases_eq, cases_order, false_from_ne_true}
use Rattle.std.proofs.lemmas.List.Elements.{All-nil, All-cons, All-append, All-weaker, filter-append}
use Rattle.std.proofs.lemmas.List.{map-append}
use Rattle.std.proofs.lemmas.List.Sums.{position_or_len_is}
use Rattle.vf_base.specs.Lists.{has, AllHold}
use Rattle.v_design.specs.WellFormed.{IsAscending}
use Rattle.pick_laws.proofs.Covers.{either-true}
use Rattle.window_index.specs.declared.occurrence.Occurrence.{Occurrence}
use Rattle.window_index.specs.Moments.{moment_of, is_of, moments_of}
use Rattle.vf_pick.specs.Faults.{placed, faults_with_from}
use Rattle.vf_pick.specs.Occurrences.{occurrence_of, occurrences_from}
use Rattle.vf_pick.proofs.Standing.{hold-at, above}

-- Ascending lists by their places

pub ascends : (xs : List ℕ) (i j d : ℕ) → IsAscending xs → i < j → j < length xs → get_or xs i d < get_or xs j d
ascends [] i j d a order low = absurd (omega arith)
ascends (x ∷ xs) i zero d a order low = absurd (omega arith)
ascends (x ∷ xs) zero (suc j) d a order low = hold-at (λ later. x < later) xs j d (omega arith) a.0
ascends (x ∷ xs) (suc i) (suc j) d a order low = ascends xs i j d a.1 (omega arith) (omega arith)

pub non-decreasing : (xs : List ℕ) → IsAscending xs → IsNonDecreasing xs
non-decreasing xs a = λ i j d order low. elim (cases_eq i j) [
  | inl same ↦ (let e : get_or xs i d ≡ get_or xs j d = ap (λ k. get_or xs k d) same in omega arith)
  | inr other ↦ (let less : get_or xs i d < get_or xs j d = ascends xs i j d a (omega arith) low in omega arith)
]

-- each number stands at one place
apart : (xs : List ℕ) (i j : ℕ) → IsAscending xs → i < length xs → j < length xs → get_or xs i 0 ≡ get_or xs j 0 → i ≡ j
apart xs i j a low high e = elim (cases_order i j) [
  | inl same ↦ same
  | inr other ↦ elim other [
    | inl less ↦ (let h : get_or xs i 0 < get_or xs j 0 = ascends xs i j 0 a less high in absurd (omega arith))
    | inr more ↦ (let h : get_or xs j 0 < get_or xs i 0 = ascends xs j i 0 a more low in absurd (omega arith))
  ]
]

pub has-place : (xs : List ℕ) (x : ℕ) → has xs x ≡ true → (place : ℕ) × (place < length xs) × (get_or xs place 0 ≡ x)
has-place [] x h = absurd (cc)
has-place (y ∷ xs) x h = elim (either-true (nat_eq y x) (has xs x) h) [
  | inl same ↦ (zero, omega arith, eqb-true y x same)
  | inr there ↦ (let r = has-place xs x there in (suc r.0, (let low : r.0 < length xs = r.1 in omega arith), r.2))
]

-- the first place that isn't before a strobe is the strobe's
pub found-at : (xs : List ℕ) (x place : ℕ) → IsAscending xs → has xs x ≡ true → ((k : ℕ) → k < place → k < length xs → get_or xs k 0 < x) →
    ((k : ℕ) → place ≤ k → k < length xs → x ≤ get_or xs k 0) →
    (place < length xs) × (get_or xs place 0 ≡ x)
found-at xs x place a h before after =
    let r = has-place xs x h in
    let low : r.0 < length xs = r.1 in
    let is : get_or xs r.0 0 ≡ x = r.2 in
    elim (cases_order r.0 place) [
      | inl same ↦ (subst (λ k. k < length xs) same low, ap (λ k. get_or xs k 0) (sym same) ∙ is)
      | inr other ↦ elim other [
        | inl less ↦ (let h : get_or xs r.0 0 < x = before r.0 less low in absurd (omega arith))
        | inr more ↦
            (let h : get_or xs place 0 < get_or xs r.0 0 = ascends xs place r.0 0 a more low in
            let k : x ≤ get_or xs place 0 = after place (omega arith) (omega arith) in
            absurd (omega arith))
      ]
    ]

-- and it is the first place of that number
pub place-is : (xs : List ℕ) (x place : ℕ) → IsAscending xs → place < length xs → get_or xs place 0 ≡ x → position_or_len (nat_eq x) xs ≡ place
place-is xs x place a low is =
    position_or_len_is (nat_eq x) xs place 0 (omega arith)
    (λ k less. ne_eqb x (get_or xs k 0) (λ e. let h : get_or xs k 0 < get_or xs place 0 = ascends xs k place 0 a less low in omega (arith, e, h, is)))
    (λ l. eq-eqb x (get_or xs place 0) (sym is))

-- a number's place is a place just where the number stands there
same-place : (xs : List ℕ) (x place : ℕ) → IsAscending xs → has xs x ≡ true → place < length xs → nat_eq (position_or_len (nat_eq x) xs) place ≡ nat_eq x (get_or xs place 0)
same-place xs x place a h low =
    let r = has-place xs x h in
    let is : position_or_len (nat_eq x) xs ≡ r.0 = place-is xs x r.0 a r.1 r.2 in
    let at : get_or xs r.0 0 ≡ x = r.2 in
    elim (cases_eq r.0 place) [
      | inl same ↦ eq-eqb (position_or_len (nat_eq x) xs) place (is ∙ same) ∙ sym (eq-eqb x (get_or xs place 0) (sym at ∙ ap (λ k. get_or xs k 0) same))
      | inr other ↦ ne_eqb (position_or_len (nat_eq x) xs) place (λ e. other (sym is ∙ e)) ∙ sym (ne_eqb x (get_or xs place 0) (λ e. other (apart xs r.0 place a r.1 low (at ∙ e))))
    ]

-- Occurrences

abbrev Parts : List ℕ → List ℕ → Type 0
Parts strobes times = AllHold (λ time. has strobes time ≡ true) times

numbers-of : (strobes : List ℕ) (fault : ℕ) (times : List ℕ) → IsAscending strobes → Parts strobes times →
    All (λ (o : Occurrence). o.number < length strobes) (map (occurrence_of strobes fault) times)
numbers-of strobes fault [] a h = All-nil (λ (o : Occurrence). o.number < length strobes)
numbers-of strobes fault (t ∷ times) a h =
    let r = has-place strobes t h.0 in
    let is : position_or_len (nat_eq t) strobes ≡ r.0 = place-is strobes t r.0 a r.1 r.2 in
    let low : r.0 < length strobes = r.1 in
    All-cons (λ (o : Occurrence). o.number < length strobes) (occurrence_of strobes fault t) (map (occurrence_of strobes fault) times) (subst (λ k. k < length strobes) (sym is) low)
    (numbers-of strobes fault times a h.1)

pub numbers-within : (strobes : List ℕ) (number : ℕ) (faults : List (List ℕ)) → IsAscending strobes → AllHold (Parts strobes) faults →
    All (λ (o : Occurrence). o.number < length strobes) (occurrences_from strobes number faults)
numbers-within strobes number [] a h = All-nil (λ (o : Occurrence). o.number < length strobes)
numbers-within strobes number (times ∷ faults) a h =
    All-append (λ (o : Occurrence). o.number < length strobes) (map (occurrence_of strobes number) times) (occurrences_from strobes (number + 1) faults)
    (numbers-of strobes number times a h.0) (numbers-within strobes (number + 1) faults a h.1)

cons-ascends : (o : Occurrence) (os : List Occurrence) → All (λ (other : Occurrence). o.moment ≤ other.moment) os → IsNonDecreasingBy moment_of os → IsNonDecreasingBy moment_of (o ∷ os)
cons-ascends o os low up zero zero d order within = omega arith
cons-ascends o os low up zero (suc j) d order within = low j d (omega arith)
cons-ascends o os low up (suc i) zero d order within = absurd (omega arith)
cons-ascends o os low up (suc i) (suc j) d order within = up i j d (omega arith) (omega arith)

record FromOn (number : ℕ) (os : List Occurrence) : Type 0 where
  low : All (λ (o : Occurrence). number ≤ o.moment) os
  up : IsNonDecreasingBy moment_of os

times-ascend : (strobes : List ℕ) (number : ℕ) (times : List ℕ) (os : List Occurrence) → FromOn number os → FromOn number (map (occurrence_of strobes number) times ++ os)
times-ascend strobes number [] os h = h
times-ascend strobes number (t ∷ times) os h =
    let r = times-ascend strobes number times os h in
    record {
      low = All-cons (λ (o : Occurrence). number ≤ o.moment) (occurrence_of strobes number t) (map (occurrence_of strobes number) times ++ os) (omega arith) r.low;
      up = cons-ascends (occurrence_of strobes number t) (map (occurrence_of strobes number) times ++ os) r.low r.up;
    }

faults-ascend : (strobes : List ℕ) (number : ℕ) (faults : List (List ℕ)) → FromOn number (occurrences_from strobes number faults)
faults-ascend strobes number [] = record { low = All-nil (λ (o : Occurrence). number ≤ o.moment); up = λ i j d order within. absurd (omega arith) }
faults-ascend strobes number (times ∷ faults) =
    let r = faults-ascend strobes (number + 1) faults in
    times-ascend strobes number times (occurrences_from strobes (number + 1) faults) (record {
      low = All-weaker (λ (o : Occurrence). number + 1 ≤ o.moment) (λ (o : Occurrence). number ≤ o.moment) (λ o h. omega arith) (occurrences_from strobes (number + 1) faults) r.low;
      up = r.up;
    })

pub moments-ascend : (strobes : List ℕ) (number : ℕ) (faults : List (List ℕ)) → IsNonDecreasingBy moment_of (occurrences_from strobes number faults)
moments-ascend strobes number faults = (faults-ascend strobes number faults).up

-- the moments of a strobe's place are the faults that have it
moments-times : (strobes : List ℕ) (number place : ℕ) (times : List ℕ) → IsAscending strobes → place < length strobes → IsAscending times → Parts strobes times →
    moments_of (map (occurrence_of strobes number) times) place ≡ placed (has times (get_or strobes place 0)) number []
moments-times strobes number place [] a low b h = refl
moments-times strobes number place (t ∷ times) a low b h =
    ap (λ here. map moment_of
    (cond here (occurrence_of strobes number t ∷ filter (is_of place) (map (occurrence_of strobes number) times)) (filter (is_of place) (map (occurrence_of strobes number) times))))
    (same-place strobes t place a h.0 low)
    ∙ go (nat_eq t (get_or strobes place 0)) refl (moments-times strobes number place times a low b.1 h.1)
  where
    go : (here : Bool) → nat_eq t (get_or strobes place 0) ≡ here → moments_of (map (occurrence_of strobes number) times) place ≡ placed (has times (get_or strobes place 0)) number [] →
        map moment_of (cond here (occurrence_of strobes number t ∷ filter (is_of place) (map (occurrence_of strobes number) times)) (filter (is_of place) (map (occurrence_of strobes number) times)))
        ≡ placed (has (t ∷ times) (get_or strobes place 0)) number []
    go true e rest =
        let none : has times (get_or strobes place 0) ≡ false =
        false_from_ne_true (has times (get_or strobes place 0))
        (λ there.
        let same : t ≡ get_or strobes place 0 = eqb-true t (get_or strobes place 0) e in
        let less : t < get_or strobes place 0 = above t times (get_or strobes place 0) b.0 there in
        omega arith) in
        ap (λ xs. number ∷ xs) (rest ∙ ap (λ x. placed x number []) none) ∙ sym (ap (λ x. placed (x || has times (get_or strobes place 0)) number []) e)
    go false e rest = rest ∙ sym (ap (λ x. placed (x || has times (get_or strobes place 0)) number []) e)

moments-append : (xs ys : List Occurrence) (place : ℕ) → moments_of (xs ++ ys) place ≡ moments_of xs place ++ moments_of ys place
moments-append xs ys place = ap (map moment_of) (filter-append (is_of place) xs ys) ∙ map-append moment_of (filter (is_of place) xs) (filter (is_of place) ys)

placed-append : (b : Bool) (number : ℕ) (xs : List ℕ) → placed b number [] ++ xs ≡ placed b number xs
placed-append true number xs = refl
placed-append false number xs = refl

pub moments-are : (strobes : List ℕ) (number place : ℕ) (faults : List (List ℕ)) → IsAscending strobes → place < length strobes → AllHold IsAscending faults → AllHold (Parts strobes) faults →
    moments_of (occurrences_from strobes number faults) place ≡ faults_with_from number faults (get_or strobes place 0)
moments-are strobes number place [] a low b h = refl
moments-are strobes number place (times ∷ faults) a low b h =
    moments-append (map (occurrence_of strobes number) times) (occurrences_from strobes (number + 1) faults) place
    ∙ (ap (λ xs. xs ++ moments_of (occurrences_from strobes (number + 1) faults) place) (moments-times strobes number place times a low b.0 h.0)
    ∙ (ap (λ xs. placed (has times (get_or strobes place 0)) number [] ++ xs) (moments-are strobes (number + 1) place faults a low b.1 h.1)
    ∙ placed-append (has times (get_or strobes place 0)) number (faults_with_from (number + 1) faults (get_or strobes place 0))))
