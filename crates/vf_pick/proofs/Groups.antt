-- The faults that have a strobe, and what their counts say.
use Rattle.std.proofs.Common.{◌≡◌, ℕ, zero, suc, ◌+◌, ◌<◌, ◌≤◌, Bool, true, false, cond, List, [], ◌∷◌, ◌++◌, length, get_or, nat_eq, All, count_by, refl, ap, subst, ◌∙◌, inl, inr, arith}
use Rattle.std.proofs.lemmas.Bool.{ne_eqb, eq-eqb, cases_Bool}
use Rattle.std.proofs.lemmas.List.Elements.{All-nil, All-cons, All-head, All-tail}
use Rattle.std.proofs.lemmas.List.Sums.{sum_by-cons}
use Rattle.vf_base.specs.Lists.{has, AllHold}
use Rattle.v_design.specs.WellFormed.{IsAscending}
use Rattle.pick_laws.specs.Kept.{covers, is_covered}
use Rattle.vf_pick.specs.Faults.{placed, faults_with_from, faults_with, AreCounts}
use Rattle.vf_pick.proofs.Standing.{tally, hold-at, without, once, covered-count, count-covered, covered-same, covers-each, covers-from}

-- Facts of the faults that have a strobe

with-from : (P : ℕ → Type 0) (number : ℕ) (faults : List (List ℕ)) (s : ℕ) → ((place : ℕ) → place < length faults → has (get_or faults place []) s ≡ true → P (number + place)) →
    All P (faults_with_from number faults s)
with-from P number [] s h = All-nil P
with-from P number (times ∷ faults) s h =
    go (has times s) refl (with-from P (number + 1) faults s (λ place low there. let e : number + suc place ≡ number + 1 + place = omega arith in subst P e (h (suc place) (omega arith) there)))
  where
    go : (b : Bool) → has times s ≡ b → All P (faults_with_from (number + 1) faults s) → All P (placed b number (faults_with_from (number + 1) faults s))
    go true e rest = let here : number + 0 ≡ number = omega arith in All-cons P number (faults_with_from (number + 1) faults s) (subst P here (h zero (omega arith) e)) rest
    go false e rest = rest

pub all-with : (P : ℕ → Type 0) (faults : List (List ℕ)) (s : ℕ) → ((place : ℕ) → place < length faults → has (get_or faults place []) s ≡ true → P place) → All P (faults_with faults s)
all-with P faults s h = with-from P 0 faults s (λ place low there. let e : place ≡ 0 + place = omega arith in subst P e (h place low there))

at-from : (P : ℕ → Type 0) (number : ℕ) (faults : List (List ℕ)) (s : ℕ) → All P (faults_with_from number faults s) → (place : ℕ) → place < length faults →
    has (get_or faults place []) s ≡ true → P (number + place)
at-from P number [] s all place low there = absurd (omega arith)
at-from P number (times ∷ faults) s all zero low there =
    let here : number ≡ number + 0 = omega arith in
    let first : All P (number ∷ faults_with_from (number + 1) faults s) = subst (λ b. All P (placed b number (faults_with_from (number + 1) faults s))) there all in
    subst P here (All-head P number (faults_with_from (number + 1) faults s) first)
at-from P number (times ∷ faults) s all (suc place) low there =
    let e : number + 1 + place ≡ number + suc place = omega arith in
    subst P e (at-from P (number + 1) faults s (rest (has times s) all) place (omega arith) there)
  where
    rest : (b : Bool) → All P (placed b number (faults_with_from (number + 1) faults s)) → All P (faults_with_from (number + 1) faults s)
    rest true h = All-tail P number (faults_with_from (number + 1) faults s) h
    rest false h = h

pub all-at : (P : ℕ → Type 0) (faults : List (List ℕ)) (s : ℕ) → All P (faults_with faults s) → (place : ℕ) → place < length faults → has (get_or faults place []) s ≡ true → P place
all-at P faults s all place low there = let e : 0 + place ≡ place = omega arith in subst P e (at-from P 0 faults s all place low there)

-- How often a fault is among them

count-placed : (p : ℕ → Bool) (b : Bool) (n : ℕ) (xs : List ℕ) → count_by p (placed b n xs) ≡ cond b (tally (p n)) 0 + count_by p xs
count-placed p true n xs = sum_by-cons (λ x. cond (p x) 1 0) n xs
count-placed p false n xs = omega arith

cond-none : (b : Bool) (n : ℕ) → n ≡ 0 → cond b n 0 ≡ 0
cond-none true n e = e
cond-none false n e = refl

cond-one : (b : Bool) (n : ℕ) → n ≡ 1 → cond b n 0 ≡ tally b
cond-one true n e = e
cond-one false n e = refl

count-before : (k number : ℕ) (faults : List (List ℕ)) (s : ℕ) → k < number → count_by (nat_eq k) (faults_with_from number faults s) ≡ 0
count-before k number [] s low = refl
count-before k number (times ∷ faults) s low =
    let c = count-placed (nat_eq k) (has times s) number (faults_with_from (number + 1) faults s) in
    let r = count-before k (number + 1) faults s (omega arith) in
    let z = cond-none (has times s) (tally (nat_eq k number)) (ap tally (ne_eqb k number (λ e. omega arith))) in
    omega (arith, c, r, z)

count-from : (number : ℕ) (faults : List (List ℕ)) (s place : ℕ) → place < length faults →
    count_by (nat_eq (number + place)) (faults_with_from number faults s) ≡ tally (has (get_or faults place []) s)
count-from number [] s place low = absurd (omega arith)
count-from number (times ∷ faults) s zero low =
    let c = count-placed (nat_eq (number + 0)) (has times s) number (faults_with_from (number + 1) faults s) in
    let r = count-before (number + 0) (number + 1) faults s (omega arith) in
    let z = cond-one (has times s) (tally (nat_eq (number + 0) number)) (ap tally (eq-eqb (number + 0) number (omega arith))) in
    omega (arith, c, r, z)
count-from number (times ∷ faults) s (suc place) low =
    let c = count-placed (nat_eq (number + suc place)) (has times s) number (faults_with_from (number + 1) faults s) in
    let e : number + suc place ≡ number + 1 + place = omega arith in
    let r : count_by (nat_eq (number + suc place)) (faults_with_from (number + 1) faults s) ≡ tally (has (get_or faults place []) s) =
    ap (λ k. count_by (nat_eq k) (faults_with_from (number + 1) faults s)) e ∙ count-from (number + 1) faults s place (omega arith) in
    let z = cond-none (has times s) (tally (nat_eq (number + suc place) number)) (ap tally (ne_eqb (number + suc place) number (λ f. omega arith))) in
    omega (arith, c, r, z)

pub count-with : (faults : List (List ℕ)) (s place : ℕ) → place < length faults → count_by (nat_eq place) (faults_with faults s) ≡ tally (has (get_or faults place []) s)
count-with faults s place low = let e : place ≡ 0 + place = omega arith in ap (λ k. count_by (nat_eq k) (faults_with faults s)) e ∙ count-from 0 faults s place low

tally-le : (b : Bool) → tally b ≤ 1
tally-le true = omega arith
tally-le false = omega arith

-- What may go

-- a strobe may go where each of its faults has two
pub may-go : (faults : List (List ℕ)) (before : List ℕ) (s : ℕ) (after counts : List ℕ) → (has (before ++ after) s ≡ true → ⊥) → AllHold IsAscending faults →
    covers faults (before ++ s ∷ after) ≡ true →
    AreCounts faults (before ++ s ∷ after) counts → All (λ fault. 2 ≤ get_or counts fault 0) (faults_with faults s) → covers faults (before ++ after) ≡ true
may-go faults before s after counts out ascend all counted two = covers-from faults (before ++ after) each
  where
    each : (place : ℕ) → place < length faults → is_covered (before ++ after) (get_or faults place []) ≡ true
    each place low =
        let parts = without before s after out (get_or faults place []) in
        let one = once s (get_or faults place []) (hold-at IsAscending faults place [] low ascend) in
        let right = counted.right place low in
        elim (cases_Bool (has (get_or faults place []) s)) [
          | inl h ↦
              (let t : tally (has (get_or faults place []) s) ≡ 1 = ap tally h in
              let more : 2 ≤ get_or counts place 0 = all-at (λ fault. 2 ≤ get_or counts fault 0) faults s two place low h in
              count-covered (before ++ after) (get_or faults place []) (omega (arith, parts, one, right, t, more)))
          | inr h ↦
              (let t : tally (has (get_or faults place []) s) ≡ 0 = ap tally h in
              covered-same (before ++ s ∷ after) (before ++ after) (get_or faults place []) (omega (arith, parts, one, t)) (covers-each faults (before ++ s ∷ after) all place low))
        ]

-- and only there
pub must-stay : (faults : List (List ℕ)) (before : List ℕ) (s : ℕ) (after counts : List ℕ) → (has (before ++ after) s ≡ true → ⊥) → AllHold IsAscending faults →
    AreCounts faults (before ++ s ∷ after) counts →
    covers faults (before ++ after) ≡ true → All (λ fault. 2 ≤ get_or counts fault 0) (faults_with faults s)
must-stay faults before s after counts out ascend counted go = all-with (λ fault. 2 ≤ get_or counts fault 0) faults s each
  where
    each : (place : ℕ) → place < length faults → has (get_or faults place []) s ≡ true → 2 ≤ get_or counts place 0
    each place low h =
        let parts = without before s after out (get_or faults place []) in
        let one = once s (get_or faults place []) (hold-at IsAscending faults place [] low ascend) in
        let right = counted.right place low in
        let t : tally (has (get_or faults place []) s) ≡ 1 = ap tally h in
        let there = covered-count (before ++ after) (get_or faults place []) s (covers-each faults (before ++ after) go place low) h in
        omega (arith, parts, one, right, t, there)

-- the counts without a strobe
pub counts-left : (faults : List (List ℕ)) (before : List ℕ) (s : ℕ) (after counts new : List ℕ) → (has (before ++ after) s ≡ true → ⊥) → AllHold IsAscending faults →
    AreCounts faults (before ++ s ∷ after) counts → length new ≡ length counts →
    ((fault : ℕ) → fault < length counts → get_or new fault 0 + count_by (nat_eq fault) (faults_with faults s) ≡ get_or counts fault 0) → AreCounts faults (before ++ after) new
counts-left faults before s after counts new out ascend counted same taken = record {
  whole = same ∙ counted.whole;
  right = λ place low.
      let parts = without before s after out (get_or faults place []) in
      let one = once s (get_or faults place []) (hold-at IsAscending faults place [] low ascend) in
      let right = counted.right place low in
      let often = count-with faults s place low in
      let whole = counted.whole in
      let less = taken place (omega (arith, whole, low)) in
      omega (arith, parts, one, right, often, less);
}

-- the faults that have a strobe are faults
pub with-within : (faults : List (List ℕ)) (s n : ℕ) → length faults ≤ n → All (λ fault. fault < n) (faults_with faults s)
with-within faults s n whole = all-with (λ fault. fault < n) faults s (λ place low there. omega arith)

-- none of them is there more often than it has strobes
pub with-enough : (faults : List (List ℕ)) (s : ℕ) (counts : List ℕ) → length counts ≡ length faults → All (λ fault. 2 ≤ get_or counts fault 0) (faults_with faults s) → (fault : ℕ) →
    fault < length counts →
    count_by (nat_eq fault) (faults_with faults s) ≤ get_or counts fault 0
with-enough faults s counts whole two fault low =
    let within : fault < length faults = omega (arith, whole, low) in
    let often = count-with faults s fault within in
    elim (cases_Bool (has (get_or faults fault []) s)) [
      | inl h ↦
          (let more : 2 ≤ get_or counts fault 0 = all-at (λ fault. 2 ≤ get_or counts fault 0) faults s two fault within h in
          let t : tally (has (get_or faults fault []) s) ≡ 1 = ap tally h in
          omega (arith, often, t, more))
      | inr h ↦ (let t : tally (has (get_or faults fault []) s) ≡ 0 = ap tally h in omega (arith, often, t))
    ]
