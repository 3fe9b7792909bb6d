-- Numbers in ascending order, those among some in particular.
use Rattle.std.proofs.Common.{◌≡◌, ℕ, zero, suc, ◌+◌, ◌-◌, ◌<◌, ◌≤◌, Bool, true, false, List, [], ◌∷◌, ◌++◌, length, get_or, drop, append-nil, refl, sym, ap, ap₂, ◌∙◌, subst, arith, inl, inr}
use Rattle.std.proofs.Common.{◌⊎◌}
use Rattle.std.specs.Prelude.{nat_eq, ◌||◌, filter, cond}
use Rattle.std.specs.List.Sorted.{IsNonDecreasing, IsPermutation}
use Rattle.std.proofs.lemmas.List.Sorted.{Contains-permutation, IsPermutation-sym}
use Rattle.std.proofs.lemmas.Bool.{eqb-true, eq-eqb, ne_eqb}
use Rattle.std.proofs.lemmas.List.{drop_all, get_or-drop, append_assoc}
use Rattle.std.proofs.Math.Seq.{drop-cons}
use Rattle.vf_base.specs.Lists.{has}
use Rattle.v_design.specs.Expressions.{up_from}
use Rattle.graph_order.specs.ListLaws.{has_place, has-get_or}

-- Orders of one list

has-moved : (old new : List ℕ) (n : ℕ) → IsPermutation old new → has old n ≡ true → has new n ≡ true
has-moved old new n moved h =
    let place = has_place old n h in
    let there = Contains-permutation old new n moved (place.0, place.1, got old place.0 n 0 place.1 ∙ place.2) in
    subst (λ x. has new x ≡ true) there.2 (has-get_or new there.0 n there.1)
  where
    got : (xs : List ℕ) (k n d : ℕ) → k < length xs → get_or xs k n ≡ get_or xs k d
    got [] k n d low = absurd (omega (arith, low))
    got (x ∷ xs) zero n d low = refl
    got (x ∷ xs) (suc k) n d low = got xs k n d (omega (arith, low))

both-ways : (a b : Bool) → (a ≡ true → b ≡ true) → (b ≡ true → a ≡ true) → b ≡ a
both-ways true b there back = there refl
both-ways false true there back = sym (back refl)
both-ways false false there back = refl

-- a list in another order has the same numbers
pub has-either-order : (old new : List ℕ) (n : ℕ) → IsPermutation old new → has new n ≡ has old n
has-either-order old new n moved = both-ways (has old n) (has new n) (has-moved old new n moved) (has-moved new old n (IsPermutation-sym old new moved))

-- Numbers of a run that are among some

-- tests that agree on a run find the same
pub filter-alike : (p q : ℕ → Bool) (start count : ℕ) → ((n : ℕ) → start ≤ n → n < start + count → p n ≡ q n) → filter p (up_from start count) ≡ filter q (up_from start count)
filter-alike p q start zero same = refl
filter-alike p q start (suc count) same =
    ap₂ (λ (b : Bool) (l : List ℕ). cond b (start ∷ l) l) (same start (omega arith) (omega arith))
    (filter-alike p q (start + 1) count (λ n low high. same n (omega (arith, low)) (omega (arith, high))))

-- the least number that is among some is found first
pub filter-least : (p : ℕ → Bool) (start count least : ℕ) → start ≤ least → least < start + count → p least ≡ true → ((n : ℕ) → start ≤ n → n < least → p n ≡ false) →
    filter p (up_from start count) ≡ least ∷ filter p (up_from (least + 1) (start + count - (least + 1)))
filter-least p start zero least low high found before = absurd (omega (arith, low, high))
filter-least p start (suc count) least low high found before =
    by_place (nat_eq start least) refl (λ later. filter-least p (start + 1) count least later (omega (arith, high)) found (λ n l h. before n (omega (arith, l)) h))
  where
    rest : List ℕ
    rest = filter p (up_from (start + 1) count)

    by_place : (here : Bool) → nat_eq start least ≡ here → (start + 1 ≤ least → rest ≡ least ∷ filter p (up_from (least + 1) ((start + 1) + count - (least + 1)))) →
        filter p (up_from start (suc count)) ≡ least ∷ filter p (up_from (least + 1) (start + suc count - (least + 1)))
    by_place true e further =
        let same : start ≡ least = eqb-true start least e in
        let left : count ≡ start + suc count - (start + 1) = omega arith in
        ap (λ b. cond b (start ∷ rest) rest) (ap p same ∙ found)
        ∙ (ap (λ n. start ∷ filter p (up_from (start + 1) n)) left ∙ ap (λ n. n ∷ filter p (up_from (n + 1) (start + suc count - (n + 1)))) same)
    by_place false e further =
        let apart : start ≡ least → ⊥ = λ d. absurd (let t = eq-eqb start least d in cc) in
        let later : start + 1 ≤ least = omega (arith, low, apart) in
        let left : (start + 1) + count - (least + 1) ≡ start + suc count - (least + 1) = omega arith in
        ap (λ b. cond b (start ∷ rest) rest) (before start (omega arith) (omega (arith, later))) ∙ (further later ∙ ap (λ n. least ∷ filter p (up_from (least + 1) n)) left)

behind : (xs : List ℕ) (k j : ℕ) → j < length (drop k xs) → k + j < length xs
behind xs zero j l = omega (arith, l)
behind [] (suc k) j l = absurd (omega (arith, l))
behind (x ∷ xs) (suc k) j l = let m = behind xs k j l in omega (arith, m)

-- no number that comes is less than the one that stands here
not-before : (numbers : List ℕ) (i n : ℕ) → IsNonDecreasing numbers → i < length numbers → n < get_or numbers i 0 → has (drop i numbers) n ≡ false
not-before numbers i n rises low less = by_test (has (drop i numbers) n) refl
  where
    by_test : (test : Bool) → has (drop i numbers) n ≡ test → test ≡ false
    by_test false e = refl
    by_test true e =
        let place = has_place (drop i numbers) n e in
        let long : i + place.0 < length numbers = behind numbers i place.0 place.1 in
        let least : get_or numbers i 0 ≤ get_or numbers (i + place.0) 0 = rises i (i + place.0) 0 (omega arith) long in
        let is : get_or numbers (i + place.0) 0 ≡ n = sym (get_or-drop i numbers place.0 0) ∙ place.2 in
        absurd (omega (arith, least, is, less))

here : (numbers : List ℕ) (i x : ℕ) → i < length numbers → get_or numbers i 0 ≡ x → drop i numbers ≡ x ∷ drop (i + 1) numbers
here numbers i x low is = drop-cons numbers i 0 low ∙ ap₂ (λ y k. y ∷ drop k numbers) is (let e : suc i ≡ i + 1 = omega arith in e)

has-here : (x : ℕ) (rest : List ℕ) → has (x ∷ rest) x ≡ true
has-here x rest = ap (λ b. b || has rest x) (eq-eqb x x refl)

has-other : (x n : ℕ) (rest : List ℕ) → (x ≡ n → ⊥) → has (x ∷ rest) n ≡ has rest n
has-other x n rest apart = ap (λ b. b || has rest n) (ne_eqb x n apart)

-- the next number is found where it is past those that were found and among so many
pub step-found : (numbers : List ℕ) (i x next count : ℕ) → i < length numbers → get_or numbers i 0 ≡ x → IsNonDecreasing numbers → next ≤ x → x < count →
    filter (has (drop i numbers)) (up_from next (count - next)) ≡ x ∷ filter (has (drop (i + 1) numbers)) (up_from (x + 1) (count - (x + 1)))
step-found numbers i x next count low is rises past among =
    let rest = drop (i + 1) numbers in
    let stands = here numbers i x low is in
    let whole : next + (count - next) ≡ count = omega (arith, past, among) in
    filter-least (has (drop i numbers)) next (count - next) x past (omega (arith, whole, among)) (ap (λ l. has l x) stands ∙ has-here x rest)
    (λ n l h. not-before numbers i n rises low (omega (arith, is, h)))
    ∙ ap (λ l. x ∷ l) (ap (λ n. filter (has (drop i numbers)) (up_from (x + 1) (n - (x + 1)))) whole
    ∙ filter-alike (has (drop i numbers)) (has rest) (x + 1) (count - (x + 1)) (λ n l h. ap (λ l. has l n) stands ∙ has-other x n rest (λ e. absurd (omega (arith, e, l)))))

-- the next number is passed where it was found or isn't among so many
pub step-passed : (numbers : List ℕ) (i x next count : ℕ) → i < length numbers → get_or numbers i 0 ≡ x → next ≤ count → (x < next) ⊎ (count ≤ x) →
    filter (has (drop i numbers)) (up_from next (count - next)) ≡ filter (has (drop (i + 1) numbers)) (up_from next (count - next))
step-passed numbers i x next count low is least passed =
    filter-alike (has (drop i numbers)) (has (drop (i + 1) numbers)) next (count - next)
    (λ n l h. ap (λ l. has l n) (here numbers i x low is) ∙ has-other x n (drop (i + 1) numbers) (apart n l (omega (arith, h, least)) passed))
  where
    apart : (n : ℕ) → next ≤ n → n < count → (x < next) ⊎ (count ≤ x) → x ≡ n → ⊥
    apart n l h (inl before) e = absurd (omega (arith, l, before, e))
    apart n l h (inr behind) e = absurd (omega (arith, h, behind, e))

-- those that are among a list in another order
pub same-found : (old new : List ℕ) (count : ℕ) → ((n : ℕ) → has new n ≡ has old n) → filter (has new) (up_from 0 count) ≡ filter (has old) (up_from 0 count)
same-found old new count same = filter-alike (has new) (has old) 0 count (λ n l h. same n)

-- Lists of those that were found

pub found-more : (among : List ℕ) (x : ℕ) (left next : List ℕ) (all more : List ℕ) → left ≡ x ∷ next → among ++ left ≡ all → more ≡ among ++ x ∷ [] → more ++ next ≡ all
found-more among x left next all more is had pushed = ap (λ l. l ++ next) pushed ∙ (append_assoc among (x ∷ []) next ∙ (ap (λ l. among ++ l) (sym is) ∙ had))

nothing-found : (start count : ℕ) → filter (has []) (up_from start count) ≡ []
nothing-found start zero = refl
nothing-found start (suc count) = nothing-found (start + 1) count

pub none-left : (among numbers : List ℕ) (i next count : ℕ) (all : List ℕ) → length numbers ≤ i → among ++ filter (has (drop i numbers)) (up_from next (count - next)) ≡ all → among ≡ all
none-left among numbers i next count all past had =
    sym (append-nil among) ∙ (ap (λ l. among ++ l) (sym (ap (λ l. filter (has l) (up_from next (count - next))) (drop_all i numbers past) ∙ nothing-found next (count - next))) ∙ had)
