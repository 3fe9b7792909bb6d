-- Which entry of a wait matches first, and whose wait some changes end (IEEE 1364-2001, clause 9.7).
use Rattle.std.proofs.Common.{◌≡◌, ℕ, zero, suc, ◌+◌, ◌<◌, Bool, true, false, List, [], ◌∷◌, ◌++◌, length, map, get_or, take, drop, Option, Some, None, refl, sym, ap, ◌∙◌, subst, arith, inl, inr}
use Rattle.std.specs.Prelude.{nat_eq, ◌||◌}
use Rattle.std.proofs.lemmas.Bool.{or_cases, and_parts, eqb-true}
use Rattle.four_value.specs.Values.{edge_matches, part_of}
use Rattle.vf_base.specs.Lists.{AllHold, first_place, earlier_place}
use Rattle.v_design.specs.Trees.{Entry}
use Rattle.v_design.specs.States.{some_entry, entry_matches}
use Rattle.v_design.specs.Accesses.{without_first}
use Rattle.value_change.specs.Changes.{ObjectChange, matches_one}

-- The first that passes a test

pub earlier-none : (b : Bool) (rest : Option ℕ) → earlier_place b rest ≡ None → (b ≡ false) × (rest ≡ None)
earlier-none true rest e = absurd (cc)
earlier-none false None e = (refl, refl)
earlier-none false (Some place) e = absurd (cc)

-- the images of a list are passed one by one
goes_on-suc : {A B : Type 0} (f : A → B) (test : B → Bool) (xs : List A) (i : ℕ) (x : A) → first_place test (map f (take i xs)) ≡ None → i < length xs → x ≡ get_or xs i x → test (f x) ≡ false →
    first_place test (map f (take (suc i) xs)) ≡ None
goes_on-suc f test [] i x none low is fails = absurd (omega (arith, low))
goes_on-suc f test (y ∷ ys) zero x none low is fails = ap (λ b. earlier_place b None) (ap (λ z. test (f z)) (sym is) ∙ fails)
goes_on-suc f test (y ∷ ys) (suc i) x none low is fails =
    let parts = earlier-none (test (f y)) (first_place test (map f (take i ys))) none in
    ap (λ b. earlier_place b (first_place test (map f (take (suc i) ys)))) parts.0 ∙ ap (earlier_place false) (goes_on-suc f test ys i x parts.1 (omega (arith, low)) is fails)

pub first-goes_on : {A B : Type 0} (f : A → B) (test : B → Bool) (xs : List A) (i : ℕ) (x : A) → first_place test (map f (take i xs)) ≡ None → i < length xs → x ≡ get_or xs i x → test (f x) ≡ false →
    first_place test (map f (take (i + 1) xs)) ≡ None
first-goes_on f test xs i x none low is fails = (let e : i + 1 ≡ suc i = omega arith in ap (λ k. first_place test (map f (take k xs))) e) ∙ goes_on-suc f test xs i x none low is fails

pub first-found : {A B : Type 0} (f : A → B) (test : B → Bool) (xs : List A) (i : ℕ) (x : A) → first_place test (map f (take i xs)) ≡ None → i < length xs → x ≡ get_or xs i x → test (f x) ≡ true →
    Some i ≡ first_place test (map f xs)
first-found f test [] i x none low is passes = absurd (omega (arith, low))
first-found f test (y ∷ ys) zero x none low is passes = sym (ap (λ b. earlier_place b (first_place test (map f ys))) (ap (λ z. test (f z)) (sym is) ∙ passes))
first-found f test (y ∷ ys) (suc i) x none low is passes =
    let parts = earlier-none (test (f y)) (first_place test (map f (take i ys))) none in
    (let e : suc i ≡ i + 1 = omega arith in ap Some e)
    ∙ ap (earlier_place false) (first-found f test ys i x parts.1 (omega (arith, low)) is passes)
    ∙ sym (ap (λ b. earlier_place b (first_place test (map f ys))) parts.0)

-- a fact of each image
pub AllHold-image : {A B : Type 0} (f : A → B) (P : B → Type 0) (xs : List A) (i : ℕ) (x : A) → AllHold P (map f xs) → i < length xs → x ≡ get_or xs i x → P (f x)
AllHold-image f P [] i x h low is = absurd (omega (arith, low))
AllHold-image f P (y ∷ ys) zero x h low is = subst (λ z. P (f z)) (sym is) h.0
AllHold-image f P (y ∷ ys) (suc i) x h low is = AllHold-image f P ys i x h.1 (omega (arith, low)) is

-- the same without one of them
others-hold : {A B : Type 0} (f : A → B) (P : B → Type 0) (xs : List A) (i : ℕ) → AllHold P (map f xs) → AllHold P (map f (take i xs ++ drop (suc i) xs))
others-hold f P [] zero h = tt
others-hold f P [] (suc i) h = tt
others-hold f P (x ∷ xs) zero h = h.1
others-hold f P (x ∷ xs) (suc i) h = (h.0, others-hold f P xs i h.1)

pub AllHold-others : {A B : Type 0} (f : A → B) (P : B → Type 0) (xs : List A) (i : ℕ) → AllHold P (map f xs) → AllHold P (map f (take i xs ++ drop (i + 1) xs))
AllHold-others f P xs i h = (let e : suc i ≡ i + 1 = omega arith in subst (λ k. AllHold P (map f (take i xs ++ drop k xs))) e (others-hold f P xs i h))

-- a place found later
pub later_place : (i : ℕ) (place : Option ℕ) → Some i ≡ earlier_place false place → (j : ℕ) × ((Some j ≡ place) × (i ≡ j + 1))
later_place i None e = absurd (cc)
later_place i (Some place) e = (place, (refl, cc))

-- what is left without the first entry that passes
others-by : {A : Type 0} (f : A → Entry) (test : Entry → Bool) (x : A) (xs : List A) (b : Bool) (i : ℕ) →
    ((j : ℕ) → Some j ≡ first_place test (map f xs) → map f (take j xs ++ drop (suc j) xs) ≡ without_first test (map f xs)) → Some i ≡ earlier_place b (first_place test (map f xs)) →
    map f (take i (x ∷ xs) ++ drop (suc i) (x ∷ xs)) ≡ elim b [ true ↦ map f xs | false ↦ f x ∷ without_first test (map f xs) ]
others-by f test x xs true zero rest is = refl
others-by f test x xs true (suc i) rest is = absurd (cc)
others-by f test x xs false zero rest is = let found = later_place 0 (first_place test (map f xs)) is in absurd (omega (arith, found.1.1))
others-by f test x xs false (suc i) rest is =
    let found = later_place (suc i) (first_place test (map f xs)) is in
    let same : found.0 ≡ i = omega (arith, found.1.1) in
    ap (λ ys. f x ∷ ys) (rest i (subst (λ k. Some k ≡ first_place test (map f xs)) same found.1.0))

others-suc : {A : Type 0} (f : A → Entry) (test : Entry → Bool) (xs : List A) (i : ℕ) → Some i ≡ first_place test (map f xs) → map f (take i xs ++ drop (suc i) xs) ≡ without_first test (map f xs)
others-suc f test [] i is = absurd (cc)
others-suc f test (x ∷ xs) i is = others-by f test x xs (test (f x)) i (λ j e. others-suc f test xs j e) is

pub others-left : {A : Type 0} (f : A → Entry) (test : Entry → Bool) (xs : List A) (i : ℕ) → Some i ≡ first_place test (map f xs) → map f (take i xs ++ drop (i + 1) xs) ≡ without_first test (map f xs)
others-left f test xs i is = (let e : i + 1 ≡ suc i = omega arith in ap (λ k. map f (take i xs ++ drop k xs)) e) ∙ others-suc f test xs i is

-- one that passes is there
some-by : (test : Entry → Bool) (entries : List Entry) (b : Bool) (i : ℕ) → ((j : ℕ) → Some j ≡ first_place test entries → some_entry test entries ≡ true) →
    Some i ≡ earlier_place b (first_place test entries) →
    (b || some_entry test entries) ≡ true
some-by test entries true i rest is = refl
some-by test entries false i rest is = let found = later_place i (first_place test entries) is in rest found.0 found.1.0

pub found-some : (test : Entry → Bool) (entries : List Entry) (i : ℕ) → Some i ≡ first_place test entries → some_entry test entries ≡ true
found-some test [] i is = absurd (cc)
found-some test (entry ∷ entries) i is = some-by test entries (test entry) i (λ j e. found-some test entries j e) is

below-by : {A : Type 0} (test : A → Bool) (xs : List A) (b : Bool) (i : ℕ) → ((j : ℕ) → Some j ≡ first_place test xs → j < length xs) → Some i ≡ earlier_place b (first_place test xs) →
    i < suc (length xs)
below-by test xs true i rest is = (let zeroth : i ≡ 0 = cc in omega (arith, zeroth))
below-by test xs false i rest is = let found = later_place i (first_place test xs) is in omega (arith, rest found.0 found.1.0, found.1.1)

pub found-below : {A : Type 0} (test : A → Bool) (xs : List A) (i : ℕ) → Some i ≡ first_place test xs → i < length xs
found-below test [] i is = absurd (cc)
found-below test (x ∷ xs) i is = below-by test xs (test x) i (λ j e. found-below test xs j e) is

-- where none is found none passes
pub none-some : (test : Entry → Bool) (entries : List Entry) → None ≡ first_place test entries → some_entry test entries ≡ false
none-some test [] is = refl
none-some test (entry ∷ entries) is =
    let parts = earlier-none (test entry) (first_place test entries) (sym is) in
    ap (λ b. b || some_entry test entries) parts.0 ∙ none-some test entries (sym parts.1)

-- Changes one by one

-- an entry that matches one of some changes looks at the object of one
pub matched-one : (G : Type 0) (changes : List ObjectChange) (entry : Entry) → AllHold (λ (change : ObjectChange). entry.object ≡ change.object → G) changes → matches_one changes entry ≡ true → G
matched-one G [] entry h e = absurd (cc)
matched-one G (change ∷ changes) entry h e =
    elim (or_cases (entry_matches change.object change.old change.new entry) (matches_one changes entry) e) [
      | inl here ↦
          h.0
          (eqb-true entry.object change.object
          (and_parts (nat_eq entry.object change.object) (edge_matches entry.edge (part_of change.old entry.low entry.width) (part_of change.new entry.low entry.width)) here).0)
      | inr there ↦ matched-one G changes entry h.1 there
    ]

-- one of some entries that passes a test
pub matched-some : (G : Type 0) (P : Entry → Type 0) (test : Entry → Bool) (entries : List Entry) → ((entry : Entry) → P entry → test entry ≡ true → G) → AllHold P entries →
    some_entry test entries ≡ true → G
matched-some G P test [] gives h e = absurd (cc)
matched-some G P test (entry ∷ entries) gives h e =
    elim (or_cases (test entry) (some_entry test entries) e) [ inl here ↦ gives entry h.0 here | inr there ↦ matched-some G P test entries gives h.1 there ]
