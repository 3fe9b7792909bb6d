-- The n-th element of an owner at a moment, by an index (nothing of the language).
use Rattle.std.proofs.Common.{◌≡◌, ℕ, zero, suc, ◌+◌, ◌-◌, ◌<◌, ◌≤◌, Bool, true, false, cond, List, [], ◌∷◌, map, length, get_or, take, refl, sym, ap, ◌∙◌, arith}
use Rattle.std.specs.Prelude.{◌≢◌, Option, Some, None, filter, nat_eq, nat_le, slice_get}
use Rattle.std.proofs.lemmas.Bool.{eqb-true, eq-eqb, le-leb, lt-leb}
use Rattle.window_index.specs.Moments.{moment_of, is_of, moments_of}
use Rattle.window_runs.specs.Placed.{own_of, at_moment, at_place, at_places, at_only}

true-false : {A : Type 0} (b : Bool) → b ≡ true → b ≡ false → A
true-false true e f = cc
true-false false e f = cc

-- the moments of a number are those of its elements
pub own-moments : {A : Type 0} (owner moment : A → ℕ) (number : ℕ) (xs : List A) → moments_of (map (at_moment owner moment) xs) number ≡ map moment (own_of owner number xs)
own-moments owner moment number [] = refl
own-moments owner moment number (x ∷ xs) = go (nat_eq (owner x) number) (own-moments owner moment number xs)
  where
    go : (b : Bool) → moments_of (map (at_moment owner moment) xs) number ≡ map moment (own_of owner number xs) →
        map moment_of (cond b (at_moment owner moment x ∷ filter (is_of number) (map (at_moment owner moment) xs)) (filter (is_of number) (map (at_moment owner moment) xs)))
        ≡ map moment (cond b (x ∷ own_of owner number xs) (own_of owner number xs))
    go true rest = ap (λ l. moment x ∷ l) rest
    go false rest = rest

-- there are as many places
pub own-count : {A : Type 0} (owner : A → ℕ) (number place : ℕ) (xs : List A) → length (moments_of (at_places owner place xs) number) ≡ length (own_of owner number xs)
own-count owner number place [] = refl
own-count owner number place (x ∷ xs) = go (nat_eq (owner x) number) (own-count owner number (place + 1) xs)
  where
    go : (b : Bool) → length (moments_of (at_places owner (place + 1) xs) number) ≡ length (own_of owner number xs) →
        length (map moment_of (cond b (at_place owner place x ∷ filter (is_of number) (at_places owner (place + 1) xs)) (filter (is_of number) (at_places owner (place + 1) xs))))
        ≡ length (cond b (x ∷ own_of owner number xs) (own_of owner number xs))
    go true h = ap suc h
    go false h = h

-- and at each of them stands the element
pub record StandsAt {A : Type 0} (place : ℕ) (xs own : List A) (places : List ℕ) (k : ℕ) : Type 0 where
  pub low : place ≤ get_or places k 0
  pub high : get_or places k 0 < place + length xs
  pub is : slice_get xs (get_or places k 0 - place) ≡ slice_get own k

-- the same with an element more in front
behind : {A : Type 0} (x : A) (place : ℕ) (xs own : List A) (places : List ℕ) (k : ℕ) → StandsAt (place + 1) xs own places k → StandsAt place (x ∷ xs) own places k
behind x place xs own places k had = record {
  low = let h : place + 1 ≤ get_or places k 0 = had.low in omega arith;
  high = let h : get_or places k 0 < place + 1 + length xs = had.high in omega arith;
  is =
      let h : place + 1 ≤ get_or places k 0 = had.low in
      let e : get_or places k 0 - place ≡ suc (get_or places k 0 - (place + 1)) = omega arith in ap (λ n. slice_get (x ∷ xs) n) e ∙ had.is;
}

first-stands : {A : Type 0} (x : A) (place : ℕ) (xs own : List A) (places : List ℕ) (k : ℕ) → ((j : ℕ) → j < length own → StandsAt (place + 1) xs own places j) → k < length (x ∷ own) →
    StandsAt place (x ∷ xs) (x ∷ own) (place ∷ places) k
first-stands x place xs own places zero had low =
    record { low = omega arith; high = omega arith; is = let e : place - place ≡ 0 = omega arith in ap (λ n. slice_get (x ∷ xs) n) e }
first-stands x place xs own places (suc k) had low =
    let b = behind x place xs own places k (had k (omega arith)) in record { low = b.low; high = b.high; is = b.is }

pub own-places : {A : Type 0} (owner : A → ℕ) (number place : ℕ) (xs : List A) (k : ℕ) → k < length (own_of owner number xs) →
    StandsAt place xs (own_of owner number xs) (moments_of (at_places owner place xs) number) k
own-places owner number place [] k low = absurd (omega arith)
own-places {A} owner number place (x ∷ xs) k low = go (nat_eq (owner x) number) (λ j lower. own-places owner number (place + 1) xs j lower) low
  where
    go : (b : Bool) → ((j : ℕ) → j < length (own_of owner number xs) → StandsAt (place + 1) xs (own_of owner number xs) (moments_of (at_places owner (place + 1) xs) number) j) →
        k < length (cond b (x ∷ own_of owner number xs) (own_of owner number xs)) →
        StandsAt place (x ∷ xs) (cond b (x ∷ own_of owner number xs) (own_of owner number xs))
        (map moment_of (cond b (at_place owner place x ∷ filter (is_of number) (at_places owner (place + 1) xs)) (filter (is_of number) (at_places owner (place + 1) xs)))) k
    go true more lower = first-stands x place xs (own_of owner number xs) (moments_of (at_places owner (place + 1) xs) number) k more lower
    go false more lower = behind x place xs (own_of owner number xs) (moments_of (at_places owner (place + 1) xs) number) k (more k lower)

-- The n-th at a moment

none-at : {A : Type 0} (moment : A → ℕ) (time : ℕ) (xs : List A) → ((k : ℕ) → k < length xs → time < get_or (map moment xs) k 0) → filter (λ x. nat_eq (moment x) time) xs ≡ []
none-at moment time [] late = refl
none-at {A} moment time (x ∷ xs) late = go (nat_eq (moment x) time) refl (none-at moment time xs (λ k low. late (suc k) (omega arith)))
  where
    go : (b : Bool) → nat_eq (moment x) time ≡ b → filter (λ y. nat_eq (moment y) time) xs ≡ [] → cond b (x ∷ filter (λ y. nat_eq (moment y) time) xs) (filter (λ y. nat_eq (moment y) time) xs) ≡ []
    go true e rest = let same : moment x ≡ time = eqb-true (moment x) time e in let less : time < moment x = late 0 (omega arith) in absurd (omega arith)
    go false e rest = rest

only-late : {A : Type 0} (moment : A → ℕ) (time : ℕ) (xs : List A) (k : ℕ) → ((j : ℕ) → j < length xs → time < get_or (map moment xs) j 0) → at_only moment time (slice_get xs k) ≡ None
only-late moment time [] k late = refl
only-late {A} moment time (x ∷ xs) zero late = go (nat_eq (moment x) time) refl
  where
    go : (b : Bool) → nat_eq (moment x) time ≡ b → ◌≡◌ {A = Option A} (cond b (Some x) None) None
    go true e = let same : moment x ≡ time = eqb-true (moment x) time e in let less : time < moment x = late 0 (omega arith) in absurd (omega arith)
    go false e = refl
only-late moment time (x ∷ xs) (suc k) late = only-late moment time xs k (λ j low. late (suc j) (omega arith))

-- among elements in ascending order of their moments, of which so many come before a time, the n-th at that time
pub picked : {A : Type 0} (moment : A → ℕ) (time : ℕ) (xs : List A) (first n : ℕ) →
    ((i j : ℕ) → i ≤ j → j < length xs → get_or (map moment xs) i 0 ≤ get_or (map moment xs) j 0) →
    ((k : ℕ) → k < first → k < length xs → get_or (map moment xs) k 0 < time) → ((k : ℕ) → first ≤ k → k < length xs → time ≤ get_or (map moment xs) k 0) →
    slice_get (filter (λ x. nat_eq (moment x) time) xs) n ≡ at_only moment time (slice_get xs (first + n))
picked moment time [] first n rising before behind = refl
picked {A} moment time (x ∷ xs) (suc first) n rising before behind = go (nat_eq (moment x) time) refl
    (picked moment time xs first n (λ i j order low. rising (suc i) (suc j) (omega arith) (omega arith)) (λ k less low. before (suc k) (omega arith) (omega arith))
    (λ k more low. behind (suc k) (omega arith) (omega arith)))
  where
    there : slice_get (x ∷ xs) (suc first + n) ≡ slice_get xs (first + n)
    there = let e : suc first + n ≡ suc (first + n) = omega arith in ap (λ k. slice_get (x ∷ xs) k) e

    go : (b : Bool) → nat_eq (moment x) time ≡ b → slice_get (filter (λ y. nat_eq (moment y) time) xs) n ≡ at_only moment time (slice_get xs (first + n)) →
        slice_get (cond b (x ∷ filter (λ y. nat_eq (moment y) time) xs) (filter (λ y. nat_eq (moment y) time) xs)) n ≡ at_only moment time (slice_get (x ∷ xs) (suc first + n))
    go true e rest = let same : moment x ≡ time = eqb-true (moment x) time e in let less : moment x < time = before 0 (omega arith) (omega arith) in absurd (omega arith)
    go false e rest = rest ∙ ap (at_only moment time) (sym there)
picked {A} moment time (x ∷ xs) zero n rising before behind = go (nat_eq (moment x) time) refl n
    (λ m. picked moment time xs zero m (λ i j order low. rising (suc i) (suc j) (omega arith) (omega arith)) (λ k less low. absurd (omega arith))
    (λ k more low. behind (suc k) (omega arith) (omega arith)))
  where
    late : nat_eq (moment x) time ≡ false → (k : ℕ) → k < length xs → time < get_or (map moment xs) k 0
    late e k low =
        let first : time ≤ moment x = behind 0 (omega arith) (omega arith) in
        let apart : moment x ≢ time = λ same. true-false (nat_eq (moment x) time) (eq-eqb (moment x) time same) e in
        let order : moment x ≤ get_or (map moment xs) k 0 = rising 0 (suc k) (omega arith) (omega arith) in
        omega arith

    go : (b : Bool) → nat_eq (moment x) time ≡ b → (m : ℕ) → ((k : ℕ) → slice_get (filter (λ y. nat_eq (moment y) time) xs) k ≡ at_only moment time (slice_get xs (0 + k))) →
        slice_get (cond b (x ∷ filter (λ y. nat_eq (moment y) time) xs) (filter (λ y. nat_eq (moment y) time) xs)) m ≡ at_only moment time (slice_get (x ∷ xs) (0 + m))
    go true e zero rest = sym (ap (λ b. cond b (Some x) None) e)
    go true e (suc m) rest =
        rest m ∙ (let a : 0 + m ≡ m = omega arith in ap (λ k. at_only moment time (slice_get xs k)) a)
        ∙ (let b : suc m ≡ 0 + suc m = omega arith in ap (λ k. at_only moment time (slice_get (x ∷ xs) k)) b)
    go false e m rest = ap (λ l. slice_get l m) (none-at moment time xs (late e)) ∙ sym (at m)
      where
        at : (j : ℕ) → at_only moment time (slice_get (x ∷ xs) (0 + j)) ≡ slice_get [] j
        at zero = ap (λ b. cond b (Some x) None) e
        at (suc j) =
            (let a : 0 + suc j ≡ suc j = omega arith in ap (λ k. at_only moment time (slice_get (x ∷ xs) k)) a) ∙ only-late moment time xs j (late e)

-- In the first phases

-- among elements in ascending order of their moments, those up to a time are the first so many
pub front-is : {A : Type 0} (moment : A → ℕ) (time : ℕ) (xs : List A) (count : ℕ) → count ≤ length xs → ((k : ℕ) → k < count → get_or (map moment xs) k 0 ≤ time) →
    ((k : ℕ) → count ≤ k → k < length xs → time < get_or (map moment xs) k 0) → filter (λ x. nat_le (moment x) time) xs ≡ take count xs
front-is moment time [] zero low before behind = refl
front-is moment time [] (suc count) low before behind = absurd (omega (arith, low))
front-is moment time (x ∷ xs) zero low before behind =
    ap (λ b. cond b (x ∷ filter (λ y. nat_le (moment y) time) xs) (filter (λ y. nat_le (moment y) time) xs)) (lt-leb (moment x) time (behind 0 (omega arith) (omega arith)))
    ∙ front-is moment time xs zero (omega arith) (λ k less. absurd (omega (arith, less))) (λ k more within. behind (suc k) (omega arith) (omega (arith, within)))
front-is moment time (x ∷ xs) (suc count) low before behind =
    ap (λ b. cond b (x ∷ filter (λ y. nat_le (moment y) time) xs) (filter (λ y. nat_le (moment y) time) xs)) (le-leb (moment x) time (before 0 (omega arith)))
    ∙ ap (λ l. x ∷ l)
    (front-is moment time xs count (omega (arith, low)) (λ k less. before (suc k) (omega (arith, less))) (λ k more within. behind (suc k) (omega (arith, more)) (omega (arith, within))))

-- two tests in either order
pub filter-swap : {A : Type 0} (p q : A → Bool) (xs : List A) → filter p (filter q xs) ≡ filter q (filter p xs)
filter-swap p q [] = refl
filter-swap {A} p q (x ∷ xs) = go (p x) (q x) refl refl (filter-swap p q xs)
  where
    go : (a b : Bool) → p x ≡ a → q x ≡ b → filter p (filter q xs) ≡ filter q (filter p xs) →
        filter p (cond b (x ∷ filter q xs) (filter q xs)) ≡ filter q (cond a (x ∷ filter p xs) (filter p xs))
    go true true e f rest = (λ i. cond (e i) (x ∷ rest i) (rest i)) ∙ sym (ap (λ c. cond c (x ∷ filter q (filter p xs)) (filter q (filter p xs))) f)
    go true false e f rest = rest ∙ sym (ap (λ c. cond c (x ∷ filter q (filter p xs)) (filter q (filter p xs))) f)
    go false true e f rest = λ i. cond (e i) (x ∷ rest i) (rest i)
    go false false e f rest = rest
