-- How many bits an entry is on, and where (IEEE 1364-2001, clause 9.7.2).
use Rattle.std.proofs.Common.{◌≡◌, ℕ, zero, suc, ◌+◌, ◌<◌, ◌≤◌, List, [], ◌∷◌, ◌++◌, length, map, replicate, Option, Some, None, refl, ap, ◌∙◌, length-append, arith}
use Rattle.std.proofs.lemmas.List.{length-replicate, length-map}
use Rattle.vf_base.specs.Lists.{AllHold}
use Rattle.v_design.specs.Expressions.{up_from}
use Rattle.v_design.specs.Sized.{most_bits}
use Rattle.object_waits.specs.Selects.{run_places}
use Rattle.object_statements.specs.Texts.{IsVectorPlace, AreFewPlaces}

up-length : (n start : ℕ) → length (up_from start n) ≡ n
up-length zero start = refl
up-length (suc n) start = ap suc (up-length n (start + 1))

hold-behind : {A : Type 0} (P : A → Type 0) (xs ys : List A) → AllHold P (xs ++ ys) → AllHold P ys
hold-behind P [] ys h = h
hold-behind P (x ∷ xs) ys h = hold-behind P xs ys h.1

run-length : (below low width above : ℕ) → length (run_places below low width above) ≡ below + (width + above)
run-length below low width above =
    let whole = length-append (replicate below None) (map Some (up_from low width) ++ replicate above None) in
    let inner = length-append (map Some (up_from low width)) (replicate above None) in
    let first = length-replicate {A = Option ℕ} below None in
    let middle = length-map (up_from low width) Some ∙ up-length width low in
    let last = length-replicate {A = Option ℕ} above None in
    omega (arith, whole, inner, first, middle, last)

first-low : (low width above : ℕ) → AllHold IsVectorPlace (map Some (up_from low width) ++ replicate above None) → 1 ≤ width → low < most_bits
first-low low zero above h some = absurd (omega arith)
first-low low (suc n) above h some = h.0

-- a run of few places is short, and begins at a place of a vector
pub run-few : (below low width above : ℕ) → AreFewPlaces (run_places below low width above) → (below + (width + above) ≤ most_bits) × (1 ≤ width → low < most_bits)
run-few below low width above h =
    let all = run-length below low width above in
    let few = h.0 in
    (omega (arith, all, few), first-low low width above (hold-behind IsVectorPlace (replicate below None) (map Some (up_from low width) ++ replicate above None) h.1))

-- the place with which a run begins that may have no bits
pub place-few : (width low place : ℕ) → (width ≡ 0 → place ≡ 0) → (1 ≤ width → place ≡ low) → (1 ≤ width → low < most_bits) → place < most_bits
place-few zero low place none some few = let is = none refl in omega (arith, is)
place-few (suc n) low place none some few = let is = some (omega arith) in let small = few (omega arith) in omega (arith, is, small)

-- a run without bits begins anywhere
pub none-up : (start other count : ℕ) → count ≡ 0 → up_from start count ≡ up_from other count
none-up start other zero e = refl
none-up start other (suc n) e = absurd (omega (arith, e))
