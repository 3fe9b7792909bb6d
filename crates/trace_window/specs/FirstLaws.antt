-- An index of occurrences answers the first thing from a moment on in which a number occurs (nothing of the language).
use Rattle.std.proofs.Common.{◌≡◌, ℕ, zero, suc, ◌+◌, ◌-◌, ◌<◌, ◌≤◌, Bool, true, false, cond, List, [], ◌∷◌, ◌++◌, map, length, get_or, refl, sym, ap, subst, ◌∙◌, ◌⊎◌, inl, inr, arith}
use Rattle.std.specs.Prelude.{Option, Some, None, filter, nat_eq, Contains}
use Rattle.std.proofs.lemmas.Bool.{cases_Bool}
use Rattle.std.proofs.lemmas.List.{map-append}
use Rattle.std.proofs.lemmas.List.Elements.{filter-append, All-contains, Contains-append_left, Contains-append_right, Contains-append_cases}
use Rattle.window_index.specs.declared.occurrence.Occurrence.{Occurrence}
use Rattle.window_index.specs.Moments.{moment_of, is_of, moments_of, IsFirstAtOrAfter}
use Rattle.trace_window.specs.Occurring.{occurrences_from, occurs_at, Occurs}
use Rattle.trace_window.specs.Touched.{IsFirstFrom}

moments-append : (xs ys : List Occurrence) (number : ℕ) → moments_of (xs ++ ys) number ≡ moments_of xs number ++ moments_of ys number
moments-append xs ys number = ap (map moment_of) (filter-append (is_of number) xs ys) ∙ map-append moment_of (filter (is_of number) xs) (filter (is_of number) ys)

-- An occurrence before others

pub one-more : (number moment other : ℕ) (rest : List Occurrence) (found : ℕ) → Contains (moments_of (record { number = other; moment = moment } ∷ rest) number) found →
    ((nat_eq other number ≡ true) × (found ≡ moment)) ⊎ Contains (moments_of rest number) found
one-more number moment other rest found has = go (nat_eq other number) refl has
  where
    go : (b : Bool) → nat_eq other number ≡ b → Contains (map moment_of (cond b (record { number = other; moment = moment } ∷ filter (is_of number) rest) (filter (is_of number) rest))) found →
        ((nat_eq other number ≡ true) × (found ≡ moment)) ⊎ Contains (moments_of rest number) found
    go false e there = inr there
    go true e there = at there.0 there.1 there.2
      where
        at : (k : ℕ) → k < suc (length (map moment_of (filter (is_of number) rest))) → get_or (moment ∷ map moment_of (filter (is_of number) rest)) k found ≡ found →
            ((nat_eq other number ≡ true) × (found ≡ moment)) ⊎ Contains (moments_of rest number) found
        at zero low is = inl (e, sym is)
        at (suc k) low is = inr (k, omega arith, is)

pub one-first : (number moment other : ℕ) (rest : List Occurrence) → nat_eq other number ≡ true → Contains (moments_of (record { number = other; moment = moment } ∷ rest) number) moment
one-first number moment other rest e =
    subst (λ b. Contains (map moment_of (cond b (record { number = other; moment = moment } ∷ filter (is_of number) rest) (filter (is_of number) rest))) moment) (sym e) (0, omega arith, refl)

pub one-later : (number moment other : ℕ) (rest : List Occurrence) (found : ℕ) → Contains (moments_of rest number) found →
    Contains (moments_of (record { number = other; moment = moment } ∷ rest) number) found
one-later number moment other rest found there = go (nat_eq other number)
  where
    go : (b : Bool) → Contains (map moment_of (cond b (record { number = other; moment = moment } ∷ filter (is_of number) rest) (filter (is_of number) rest))) found
    go true = (suc there.0, (let h : there.0 < length (map moment_of (filter (is_of number) rest)) = there.1 in omega arith), there.2)
    go false = there

-- Things in a row

-- the moments of a number are those of the things in which it occurs
abbrev MomentsAre : {X : Type 0} → (ℕ → X → List Occurrence) → (ℕ → X → Bool) → ℕ → ℕ → List X → Type 0
MomentsAre each occurs number first xs =
    ((moment : ℕ) → Contains (moments_of (occurrences_from each first xs) number) moment → (first ≤ moment) × (moment < first + length xs) × (occurs_at occurs xs number (moment - first) ≡ true))
    × ((k : ℕ) → occurs_at occurs xs number k ≡ true → Contains (moments_of (occurrences_from each first xs) number) (first + k))

moments-more : {X : Type 0} (each : ℕ → X → List Occurrence) (occurs : ℕ → X → Bool) → Occurs each occurs → (number first : ℕ) (x : X) (xs : List X) →
    MomentsAre each occurs number (first + 1) xs → MomentsAre each occurs number first (x ∷ xs)
moments-more {X} each occurs has number first x xs later = (forth, back)
  where
    both : moments_of (occurrences_from each first (x ∷ xs)) number ≡ moments_of (each first x) number ++ moments_of (occurrences_from each (first + 1) xs) number
    both = moments-append (each first x) (occurrences_from each (first + 1) xs) number

    forth : (moment : ℕ) → Contains (moments_of (occurrences_from each first (x ∷ xs)) number) moment →
        (first ≤ moment) × (moment < first + length (x ∷ xs)) × (occurs_at occurs (x ∷ xs) number (moment - first) ≡ true)
    forth moment there = elim (Contains-append_cases (moments_of (each first x) number) (moments_of (occurrences_from each (first + 1) xs) number) moment
        (subst (λ l. Contains l moment) both there)) [
          | inl own ↦
              (let h = has.forth number first x moment own in
              let same : moment ≡ first = h.0 in
              let none : moment - first ≡ 0 = omega arith in
              (omega arith, omega arith, ap (λ n. occurs_at occurs (x ∷ xs) number n) none ∙ h.1))
          | inr more ↦
              (let h = later.0 moment more in
              let low : first + 1 ≤ moment = h.0 in
              let high : moment < first + 1 + length xs = h.1 in
              let next : moment - first ≡ suc (moment - (first + 1)) = omega arith in
              (omega arith, omega arith, ap (λ n. occurs_at occurs (x ∷ xs) number n) next ∙ h.2))
        ]

    back : (k : ℕ) → occurs_at occurs (x ∷ xs) number k ≡ true → Contains (moments_of (occurrences_from each first (x ∷ xs)) number) (first + k)
    back zero e =
        subst (λ l. Contains l (first + 0)) (sym both)
        (Contains-append_left (moments_of (each first x) number) (moments_of (occurrences_from each (first + 1) xs) number) (first + 0)
        (let same : first ≡ first + 0 = omega arith in subst (λ n. Contains (moments_of (each first x) number) n) same (has.back number first x e)))
    back (suc k) e =
        subst (λ l. Contains l (first + suc k)) (sym both)
        (Contains-append_right (moments_of (each first x) number) (moments_of (occurrences_from each (first + 1) xs) number) (first + suc k)
        (let same : first + 1 + k ≡ first + suc k = omega arith in subst (λ n. Contains (moments_of (occurrences_from each (first + 1) xs) number) n) same (later.1 k e)))

moments-are : {X : Type 0} (each : ℕ → X → List Occurrence) (occurs : ℕ → X → Bool) → Occurs each occurs → (number first : ℕ) (xs : List X) → MomentsAre each occurs number first xs
moments-are each occurs has number first [] = ((λ moment there. let low : there.0 < 0 = there.1 in absurd (omega arith)), (λ k e. cc))
moments-are each occurs has number first (x ∷ xs) = moments-more each occurs has number first x xs (moments-are each occurs has number (first + 1) xs)

-- what the index answers
pub first-occurrence : {X : Type 0} (each : ℕ → X → List Occurrence) (occurs : ℕ → X → Bool) → Occurs each occurs → (xs : List X) (number moment : ℕ) (answer : Option ℕ) →
    IsFirstAtOrAfter (moments_of (occurrences_from each 0 xs) number) moment answer → IsFirstFrom (occurs_at occurs xs number) (length xs) moment answer
first-occurrence each occurs has xs number moment None all = λ place low within. absent place (cases_Bool (occurs_at occurs xs number place)) low
  where
    absent : (place : ℕ) → (occurs_at occurs xs number place ≡ true) ⊎ (occurs_at occurs xs number place ≡ false) → moment ≤ place → occurs_at occurs xs number place ≡ false
    absent place (inr e) low = e
    absent place (inl e) low =
        let there = (moments-are each occurs has number 0 xs).1 place e in
        let before : 0 + place < moment = All-contains (λ other. other < moment) (moments_of (occurrences_from each 0 xs) number) (0 + place) all there in absurd (omega arith)
first-occurrence each occurs has xs number moment (Some first) found = (
  found.1,
  within,
  (let same : first ≡ first - 0 = omega arith in ap (λ n. occurs_at occurs xs number n) same ∙ is.2),
  (λ place from below. absent place (cases_Bool (occurs_at occurs xs number place)) from below),
)
  where
    is : (0 ≤ first) × (first < 0 + length xs) × (occurs_at occurs xs number (first - 0) ≡ true)
    is = (moments-are each occurs has number 0 xs).0 first found.0

    within : first < length xs
    within = let high : first < 0 + length xs = is.1 in omega arith

    absent : (place : ℕ) → (occurs_at occurs xs number place ≡ true) ⊎ (occurs_at occurs xs number place ≡ false) → moment ≤ place → place < first →
        occurs_at occurs xs number place ≡ false
    absent place (inr e) from below = e
    absent place (inl e) from below =
        let also = (moments-are each occurs has number 0 xs).1 place e in
        let bound : moment ≤ 0 + place → first ≤ 0 + place =
        All-contains (λ other. moment ≤ other → first ≤ other) (moments_of (occurrences_from each 0 xs) number) (0 + place) found.2 also in
        let more : first ≤ 0 + place = bound (omega arith) in absurd (omega arith)

-- the same by a test that answers alike
pub first-same : (test other : ℕ → Bool) (count same moment : ℕ) (answer : Option ℕ) → ((number : ℕ) → test number ≡ other number) → count ≡ same → IsFirstFrom test count moment answer →
    IsFirstFrom other same moment answer
first-same test other count same moment answer alike is first =
    subst (λ n. IsFirstFrom other n moment answer) is (subst (λ (t : ℕ → Bool). IsFirstFrom t count moment answer) (λ i number. alike number i) first)
