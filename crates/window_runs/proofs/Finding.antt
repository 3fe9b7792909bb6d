-- What the index of a window's runs finds.
use Rattle.std.proofs.Common.{◌≡◌, ℕ, zero, suc, ◌+◌, ◌-◌, ◌<◌, ◌≤◌, Bool, true, false, ◌&&◌, cond, List, [], ◌∷◌, map, length, get_or, refl, sym, ap, subst, ◌∙◌, inl, inr, arith}
use Rattle.std.specs.Prelude.{All, Some, None, filter, nat_eq, slice_get}
use Rattle.std.specs.List.Sorted.{IsNonDecreasingBy}
use Rattle.std.proofs.lemmas.List.{length-map, get_or-map}
use Rattle.std.proofs.lemmas.List.Kept.{IsNonDecreasingBy-filter}
use Rattle.std.proofs.lemmas.Option.{slice_get_cases, slice_get-get_or}
use Rattle.vf_base.specs.Base.{process_number}
use Rattle.vf_base.specs.Lists.{map_numbered}
use Rattle.window_index.specs.declared.occurrence.Occurrence.{Occurrence}
use Rattle.window_index.specs.Moments.{moment_of, moments_of}
use Rattle.process_code.specs.declared.state.RunEnd.{RunEnd}
use Rattle.window_runs.specs.declared.index.RunIndex.{RunIndex}
use Rattle.window_runs.specs.Placed.{at_moment, at_place, at_places, placed}
use Rattle.run_ends.specs.RunEnds.{ends_of}
use Rattle.window_runs.specs.RunsByProcess.{run_process, run_phase, runs_of_process, only_at, IsRunIndexOf}
use Rattle.window_runs.proofs.Picking.{own-moments, own-count, own-places, picked}

-- Building

-- the keys of mapped elements ascend where theirs do
pub map-rises : {A B : Type 0} (f : A → B) (key : B → ℕ) (xs : List A) → IsNonDecreasingBy (λ x. key (f x)) xs → IsNonDecreasingBy key (map f xs)
map-rises {A} f key xs up i j d order low =
    let long : length (map f xs) ≡ length xs = length-map xs f in
    elim (slice_get_cases xs j).1 [
      | inl found ↦ at found.0 found.1
      | inr past ↦ absurd (omega (arith, past.0, long, low))
    ]
  where
    at : (x : A) → j < length xs → key (get_or (map f xs) i d) ≤ key (get_or (map f xs) j d)
    at x within =
        let one : key (get_or (map f xs) i d) ≡ key (f (get_or xs i x)) = ap key (get_or-map f xs i x d (omega arith)) in
        let other : key (get_or (map f xs) j d) ≡ key (f (get_or xs j x)) = ap key (get_or-map f xs j x d within) in
        let less : key (f (get_or xs i x)) ≤ key (f (get_or xs j x)) = up i j x order within in
        omega arith

-- the places of elements are their numbers, from the first on
placed-at : {A : Type 0} (owner : A → ℕ) (place : ℕ) (xs : List A) (k : ℕ) (d : Occurrence) → k < length (at_places owner place xs) → moment_of (get_or (at_places owner place xs) k d) ≡ place + k
placed-at owner place [] k d low = absurd (omega arith)
placed-at owner place (x ∷ xs) zero d low = omega arith
placed-at owner place (x ∷ xs) (suc k) d low =
    let h : moment_of (get_or (at_places owner (place + 1) xs) k d) ≡ place + 1 + k = placed-at owner (place + 1) xs k d (omega arith) in
    omega arith

pub places-rise : {A : Type 0} (owner : A → ℕ) (xs : List A) → IsNonDecreasingBy moment_of (at_places owner 0 xs)
places-rise owner xs i j d order low =
    let one : moment_of (get_or (at_places owner 0 xs) i d) ≡ 0 + i = placed-at owner 0 xs i d (omega arith) in
    let other : moment_of (get_or (at_places owner 0 xs) j d) ≡ 0 + j = placed-at owner 0 xs j d low in
    omega arith

pub places-within : {A : Type 0} (owner : A → ℕ) (count place : ℕ) (xs : List A) → All (λ x. owner x < count) xs → All (λ (o : Occurrence). o.number < count) (at_places owner place xs)
places-within owner count place [] h k d low = absurd (omega arith)
places-within owner count place (x ∷ xs) h zero d low = h 0 x (omega arith)
places-within owner count place (x ∷ xs) h (suc k) d low = places-within owner count (place + 1) xs (λ j e less. h (suc j) e (omega arith)) k d (omega arith)

-- elements that were listed at their moments
pub places-again : {A : Type 0} (owner moment : A → ℕ) (place : ℕ) (xs : List A) → map_numbered placed place (map (at_moment owner moment) xs) ≡ at_places owner place xs
places-again owner moment place [] = refl
places-again owner moment place (x ∷ xs) = ap (λ l. at_place owner place x ∷ l) (places-again owner moment (place + 1) xs)

-- Finding

places-are : (runs : List RunEnd) (index : RunIndex) (count process : ℕ) → IsRunIndexOf count runs index → process < count →
    get_or index.places process [] ≡ moments_of (at_places run_process 0 runs) process
places-are runs index count process had low = had.places_are.moments process low

-- a place that the index has is one of the runs
pub place-low : (runs : List RunEnd) (index : RunIndex) (count process place : ℕ) (places : List ℕ) → IsRunIndexOf count runs index → process < count → places ≡ get_or index.places process [] →
    place < length places →
    get_or places place 0 < length runs
place-low runs index count process place places had low are within =
    let same : places ≡ moments_of (at_places run_process 0 runs) process = are ∙ places-are runs index count process had low in
    let long : length (moments_of (at_places run_process 0 runs) process) ≡ length (runs_of_process process runs) = own-count run_process process 0 runs in
    let count : length places ≡ length (moments_of (at_places run_process 0 runs) process) = ap length same in
    let stands = own-places run_process process 0 runs place (omega arith) in
    subst (λ l. get_or l place 0 < length runs) (sym same) (let h : get_or (moments_of (at_places run_process 0 runs) process) place 0 < 0 + length runs = stands.high in omega arith)

pub found-at : (runs : List RunEnd) (index : RunIndex) (count process place : ℕ) (places : List ℕ) (run : RunEnd) → IsRunIndexOf count runs index → process < count →
    places ≡ get_or index.places process [] → place < length places →
    run ≡ get_or runs (get_or places place 0) run → Some run ≡ slice_get (runs_of_process process runs) place
found-at runs index count process place places run had low are within read =
    let same : places ≡ moments_of (at_places run_process 0 runs) process = are ∙ places-are runs index count process had low in
    let long : length (moments_of (at_places run_process 0 runs) process) ≡ length (runs_of_process process runs) = own-count run_process process 0 runs in
    let lengths : length places ≡ length (moments_of (at_places run_process 0 runs) process) = ap length same in
    let stands = own-places run_process process 0 runs place (omega arith) in
    ap Some read ∙ sym (slice_get-get_or runs (get_or places place 0) run (place-low runs index count process place places had low are within))
    ∙ ap (λ l. slice_get runs (get_or l place 0)) same
    ∙ (let e : get_or (moments_of (at_places run_process 0 runs) process) place 0 ≡ get_or (moments_of (at_places run_process 0 runs) process) place 0 - 0 = omega arith in
    ap (λ n. slice_get runs n) e)
    ∙ stands.is

pub own-long : (runs : List RunEnd) (index : RunIndex) (count process : ℕ) (places : List ℕ) → IsRunIndexOf count runs index → process < count → places ≡ get_or index.places process [] →
    length places ≡ length (runs_of_process process runs)
own-long runs index count process places had low are = ap length (are ∙ places-are runs index count process had low) ∙ own-count run_process process 0 runs

pub none-at : {A : Type 0} (xs : List A) (place : ℕ) → length xs ≤ place → None ≡ slice_get xs place
none-at xs place past = elim (slice_get_cases xs place).1 [ inl found ↦ absurd (omega (arith, found.1)) | inr none ↦ sym none.1 ]

-- Picking

filter-both : {A : Type 0} (p q : A → Bool) (xs : List A) → filter (λ x. p x && q x) xs ≡ filter p (filter q xs)
filter-both p q [] = refl
filter-both {A} p q (x ∷ xs) = go (q x) (p x) refl (filter-both p q xs)
  where
    go : (c b : Bool) → p x ≡ b → filter (λ y. p y && q y) xs ≡ filter p (filter q xs) →
        cond (p x && c) (x ∷ filter (λ y. p y && q y) xs) (filter (λ y. p y && q y) xs) ≡ filter p (cond c (x ∷ filter q xs) (filter q xs))
    go true true e rest = (λ i. cond (e i && true) (x ∷ rest i) (rest i)) ∙ sym (ap (λ b. cond b (x ∷ filter p (filter q xs)) (filter p (filter q xs))) e)
    go true false e rest = (λ i. cond (e i && true) (x ∷ rest i) (rest i)) ∙ sym (ap (λ b. cond b (x ∷ filter p (filter q xs)) (filter p (filter q xs))) e)
    go false true e rest = (λ i. cond (e i && false) (x ∷ rest i) (rest i))
    go false false e rest = (λ i. cond (e i && false) (x ∷ rest i) (rest i))

pub keys-rise : {A : Type 0} (key : A → ℕ) (xs : List A) → IsNonDecreasingBy key xs → (i j : ℕ) → i ≤ j → j < length xs → get_or (map key xs) i 0 ≤ get_or (map key xs) j 0
keys-rise {A} key xs up i j order low =
    let long : length (map key xs) ≡ length xs = length-map xs key in
    map-rises key (λ n. n) xs up i j 0 order (omega arith)

pub phases-are : (runs : List RunEnd) (index : RunIndex) (count process : ℕ) → IsRunIndexOf count runs index → process < count →
    get_or index.phases process [] ≡ map run_phase (runs_of_process process runs)
phases-are runs index count process had low = had.phases_are.moments process low ∙ own-moments run_process run_phase process runs

-- the n-th run of a process in a phase, before which so many of its runs come
pub run-found : (runs : List RunEnd) (index : RunIndex) (count process phase before number : ℕ) → IsRunIndexOf count runs index → process < count →
    ((place : ℕ) → place < before → get_or (get_or index.phases process []) place 0 < phase) →
    ((place : ℕ) → before ≤ place → place < length (get_or index.phases process []) → phase ≤ get_or (get_or index.phases process []) place 0) →
    slice_get (ends_of phase process runs) number ≡ only_at phase (slice_get (runs_of_process process runs) (before + number))
run-found runs index count process phase before number had low less more =
    let are = phases-are runs index count process had low in
    let own = runs_of_process process runs in
    let long : length (map run_phase own) ≡ length own = length-map own run_phase in
    let lengths : length (get_or index.phases process []) ≡ length (map run_phase own) = ap length are in
    ap (λ l. slice_get l number) (filter-both (λ (run : RunEnd). nat_eq run.phase phase) (λ (run : RunEnd). nat_eq (process_number run.process) process) runs)
    ∙ picked run_phase phase own before number (keys-rise run_phase own (IsNonDecreasingBy-filter run_phase (λ (run : RunEnd). nat_eq (process_number run.process) process) runs had.rise))
    (λ k first within. subst (λ l. get_or l k 0 < phase) are (less k first))
    (λ k first within. subst (λ l. phase ≤ get_or l k 0) are (more k first (omega arith)))
