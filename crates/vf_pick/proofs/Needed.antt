-- The fault for which a strobe is kept.
use Rattle.std.proofs.Common.{◌≡◌, ℕ, zero, suc, ◌+◌, ◌<◌, ◌≤◌, Bool, true, false, ◌&&◌, cond, List, [], ◌∷◌, ◌++◌, length, get_or, map, filter, find, nat_eq, All, Option, Some, None}
use Rattle.std.proofs.Common.{IsSome, refl, sym, ap, subst, ◌∙◌, inl, inr, arith}
use Rattle.std.proofs.lemmas.Bool.{eqb-true, eqb-false, eq-eqb, ne_eqb, cases_Bool, false_from_ne_true}
use Rattle.std.proofs.lemmas.List.{length-map, get_or-map}
use Rattle.std.proofs.lemmas.List.Elements.{All-nil, All-cons}
use Rattle.vf_base.specs.Lists.{has, AllHold}
use Rattle.v_design.specs.WellFormed.{IsAscending}
use Rattle.strobe_detect.specs.declared.hard.Hard.{Hard}
use Rattle.pick_laws.specs.Kept.{covers, kept_strobes, is_only, needs}
use Rattle.pick_laws.proofs.Covers.{either-true, or-left, true-false, has-filter, filter-has, kept-covers, kept-needed, kept-ascends, not-in-rest}
use Rattle.vf_pick.specs.Faults.{lists_of, placed, faults_with_from, faults_with, standing_count, AreCounts}
use Rattle.vf_pick.proofs.Standing.{covered-count, covers-each, parts-cover, all-standing}
use Rattle.vf_pick.proofs.Groups.{all-with, all-at, may-go}

-- The counts before the walk

first-right : (strobes : List ℕ) (hard : List Hard) → AllHold (λ times. AllHold (λ time. has strobes time ≡ true) times) (lists_of hard) → (place : ℕ) → place < length (lists_of hard) →
    get_or (map (λ (one : Hard). length one.times) hard) place 0 ≡ standing_count strobes (get_or (lists_of hard) place [])
first-right strobes [] h place low = absurd (omega arith)
first-right strobes (one ∷ hard) h zero low = sym (all-standing strobes one.times h.0)
first-right strobes (one ∷ hard) h (suc place) low = first-right strobes hard h.1 place (omega arith)

pub first-counts : (strobes : List ℕ) (hard : List Hard) (counts : List ℕ) → AllHold (λ times. AllHold (λ time. has strobes time ≡ true) times) (lists_of hard) →
    counts ≡ map (λ (one : Hard). length one.times) hard → AreCounts (lists_of hard) strobes counts
first-counts strobes hard counts h e = record {
  whole = ap length e ∙ (length-map hard (λ (one : Hard). length one.times) ∙ sym (length-map hard (λ (one : Hard). one.times)));
  right = λ place low. ap (λ xs. get_or xs place 0) e ∙ first-right strobes hard h place low;
}

-- A fault whose only kept hard strobe is this one

one-is : (s : ℕ) (xs : List ℕ) → has xs s ≡ true → is_only s xs ≡ nat_eq (length xs) 1
one-is s [] h = absurd (cc)
one-is s (x ∷ []) h = elim (either-true (nat_eq x s) false h) [ inl same ↦ same ∙ sym (eq-eqb (length (x ∷ [])) 1 (omega arith)) | inr none ↦ true-false false none refl ]
one-is s (x ∷ y ∷ xs) h = sym (ne_eqb (length (x ∷ y ∷ xs)) 1 (λ e. omega arith))

only-there : (s : ℕ) (xs : List ℕ) → is_only s xs ≡ true → has xs s ≡ true
only-there s [] e = e
only-there s (x ∷ []) e = or-left (nat_eq x s) false e
only-there s (x ∷ y ∷ xs) e = absurd (cc)

-- by the count of its kept strobes
needs-is : (kept : List ℕ) (s : ℕ) (times : List ℕ) → has kept s ≡ true → needs kept s times ≡ (has times s && nat_eq (standing_count kept times) 1)
needs-is kept s times stands = elim (cases_Bool (has times s)) [
  | inl h ↦ one-is s (filter (has kept) times) (has-filter (has kept) times s h stands) ∙ sym (ap (λ b. b && nat_eq (standing_count kept times) 1) h)
  | inr h ↦
      false_from_ne_true (needs kept s times) (λ only. true-false (has times s) (filter-has (has kept) times s (only-there s (filter (has kept) times) only)).0 h)
      ∙ sym (ap (λ b. b && nat_eq (standing_count kept times) 1) h)
]

-- The first of some faults

-- the first fault that passes, found among those that have a strobe
pub record IsFound (hard : List Hard) (test : Hard → Bool) (number fault : ℕ) : Type 0 where
  pub one : Hard
  pub place : ℕ
  pub at : fault ≡ number + place
  pub low : place < length hard
  pub there : (d : Hard) → get_or hard place d ≡ one
  pub first : find test hard ≡ Some one

some-is : (x y : ℕ) → Some x ≡ Some y → x ≡ y
some-is x y e = cc

find-from : (number : ℕ) (hard : List Hard) (s : ℕ) (passes : ℕ → Bool) (test : Hard → Bool) →
    ((place : ℕ) (d : Hard) → place < length hard → test (get_or hard place d) ≡ (has (get_or hard place d).times s && passes (number + place))) →
    (fault : ℕ) → find passes (faults_with_from number (lists_of hard) s) ≡ Some fault → IsFound hard test number fault
find-from number [] s passes test agree fault e = absurd (cc)
find-from number (one ∷ hard) s passes test agree fault e =
    go (has one.times s) refl (passes number) refl e
    (λ f. find-from (number + 1) hard s passes test
    (λ place d low. let next : number + suc place ≡ number + 1 + place = omega arith in agree (suc place) d (omega arith) ∙ ap (λ k. has (get_or hard place d).times s && passes k) next) fault f)
  where
    here : number + 0 ≡ number
    here = omega arith

    now : test one ≡ (has one.times s && passes number)
    now = agree zero one (omega arith) ∙ ap (λ k. has one.times s && passes k) here

    on : test one ≡ false → IsFound hard test (number + 1) fault → IsFound (one ∷ hard) test number fault
    on fails r = record {
      one = r.one;
      place = suc r.place;
      at = let a : fault ≡ number + 1 + r.place = r.at in omega arith;
      low = let l : r.place < length hard = r.low in omega arith;
      there = r.there;
      first = ap (λ b. cond b (Some one) (find test hard)) fails ∙ r.first;
    }

    go : (b : Bool) → has one.times s ≡ b → (c : Bool) → passes number ≡ c → find passes (placed b number (faults_with_from (number + 1) (lists_of hard) s)) ≡ Some fault →
        (find passes (faults_with_from (number + 1) (lists_of hard) s) ≡ Some fault → IsFound hard test (number + 1) fault) → IsFound (one ∷ hard) test number fault
    go true h true p f later = record {
      one = one;
      place = zero;
      at = sym (some-is number fault (sym (ap (λ b. cond b (Some number) (find passes (faults_with_from (number + 1) (lists_of hard) s))) p) ∙ f)) ∙ sym here;
      low = omega arith;
      there = λ d. refl;
      first = ap (λ b. cond b (Some one) (find test hard)) (now ∙ (ap (λ b. b && passes number) h ∙ p));
    }
    go true h false p f later = on (now ∙ (ap (λ b. b && passes number) h ∙ p)) (later (sym (ap (λ b. cond b (Some number) (find passes (faults_with_from (number + 1) (lists_of hard) s))) p) ∙ f))
    go false h c p f later = on (now ∙ ap (λ b. b && passes number) h) (later f)

find-none : (passes : ℕ → Bool) (xs : List ℕ) → find passes xs ≡ None → All (λ x. passes x ≡ false) xs
find-none passes [] e = All-nil (λ x. passes x ≡ false)
find-none passes (x ∷ xs) e = go (passes x) refl (λ none. find-none passes xs none)
  where
    go : (b : Bool) → passes x ≡ b → (find passes xs ≡ None → All (λ y. passes y ≡ false) xs) → All (λ y. passes y ≡ false) (x ∷ xs)
    go true p rest = absurd (let f : Some x ≡ None = sym (ap (λ b. cond b (Some x) (find passes xs)) p) ∙ e in cc)
    go false p rest = All-cons (λ y. passes y ≡ false) x xs p (rest (sym (ap (λ b. cond b (Some x) (find passes xs)) p) ∙ e))

-- Each kept strobe has a fault

has-split : (xs : List ℕ) (s : ℕ) → has xs s ≡ true → (before : List ℕ) × (after : List ℕ) × (xs ≡ before ++ s ∷ after)
has-split [] s h = absurd (cc)
has-split (x ∷ xs) s h = elim (either-true (nat_eq x s) (has xs s) h) [
  | inl same ↦ ([], xs, ap (λ y. y ∷ xs) (eqb-true x s same))
  | inr there ↦ (let r = has-split xs s there in (x ∷ r.0, r.1, ap (λ ys. x ∷ ys) r.2))
]

-- a fault that has one strobe alone
abbrev pub has_one : List ℕ → ℕ → Bool
has_one counts fault = nat_eq (get_or counts fault 0) 1

at-least : (n : ℕ) → 1 ≤ n → (n ≡ 1 → ⊥) → 2 ≤ n
at-least n some other = omega arith

-- a strobe is kept, and the counts are those of the kept ones
pub record IsKept (strobes : List ℕ) (faults : List (List ℕ)) (counts : List ℕ) (s : ℕ) : Type 0 where
  pub ascending : IsAscending strobes
  pub ascend : AllHold IsAscending faults
  pub parts : AllHold (λ times. AllHold (λ time. has strobes time ≡ true) times) faults
  pub counted : AreCounts faults (kept_strobes faults strobes) counts
  pub stands : has (kept_strobes faults strobes) s ≡ true

module _ (strobes : List ℕ) (faults : List (List ℕ)) (counts : List ℕ) (s : ℕ) (setting : IsKept strobes faults counts s) where
  all-kept : covers faults (kept_strobes faults strobes) ≡ true
  all-kept = kept-covers faults [] strobes (parts-cover strobes faults setting.parts)

  two : All (λ fault. has_one counts fault ≡ false) (faults_with faults s) → All (λ fault. 2 ≤ get_or counts fault 0) (faults_with faults s)
  two none = all-with (λ fault. 2 ≤ get_or counts fault 0) faults s each
    where
      each : (place : ℕ) → place < length faults → has (get_or faults place []) s ≡ true → 2 ≤ get_or counts place 0
      each place low h =
          let unlike : has_one counts place ≡ false = all-at (λ fault. has_one counts fault ≡ false) faults s none place low h in
          let other : get_or counts place 0 ≡ 1 → ⊥ = eqb-false (get_or counts place 0) 1 unlike in
          let some = covered-count (kept_strobes faults strobes) (get_or faults place []) s (covers-each faults (kept_strobes faults strobes) all-kept place low) h in
          let right = setting.counted.right place low in
          at-least (get_or counts place 0) (omega (arith, some, right)) other

  pub some-found : find (has_one counts) (faults_with faults s) ≡ None → ⊥
  some-found e =
      let r = has-split (kept_strobes faults strobes) s setting.stands in
      let is : kept_strobes faults strobes ≡ r.0 ++ s ∷ r.1 = r.2 in
      let out : has (r.0 ++ r.1) s ≡ true → ⊥ = not-in-rest r.0 s r.1 (subst IsAscending is (kept-ascends faults [] strobes setting.ascending)) in
      let go : covers faults (r.0 ++ r.1) ≡ true =
      may-go faults r.0 s r.1 counts out setting.ascend (subst (λ xs. covers faults xs ≡ true) is all-kept) (subst (λ xs. AreCounts faults xs counts) is setting.counted)
      (two (find-none (has_one counts) (faults_with faults s) e)) in
      true-false (covers faults (r.0 ++ r.1)) go (kept-needed faults [] strobes r.0 s r.1 is)

  pub is-found : (found : Option ℕ) → found ≡ find (has_one counts) (faults_with faults s) → IsSome found
  is-found None e = absurd (some-found (sym e))
  is-found (Some fault) e = refl

pub lists-at : (hard : List Hard) (place : ℕ) (d : Hard) → place < length hard → get_or (lists_of hard) place [] ≡ (get_or hard place d).times
lists-at hard place d low = get_or-map (λ (one : Hard). one.times) hard place d [] low

-- and it is the first fault whose only kept hard strobe the strobe is
pub first-needing : (strobes : List ℕ) (hard : List Hard) (counts : List ℕ) (s fault : ℕ) → AreCounts (lists_of hard) (kept_strobes (lists_of hard) strobes) counts →
    has (kept_strobes (lists_of hard) strobes) s ≡ true →
    find (has_one counts) (faults_with (lists_of hard) s) ≡ Some fault → IsFound hard (λ other. needs (kept_strobes (lists_of hard) strobes) s other.times) 0 fault
first-needing strobes hard counts s fault counted stands e = find-from 0 hard s (has_one counts) (λ other. needs (kept_strobes (lists_of hard) strobes) s other.times) agree fault e
  where
    agree : (place : ℕ) (d : Hard) → place < length hard →
        needs (kept_strobes (lists_of hard) strobes) s (get_or hard place d).times ≡ (has (get_or hard place d).times s && has_one counts (0 + place))
    agree place d low =
        let whole = length-map hard (λ (one : Hard). one.times) in
        let same : 0 + place ≡ place = omega arith in
        let right : get_or counts place 0 ≡ standing_count (kept_strobes (lists_of hard) strobes) (get_or hard place d).times =
        counted.right place (omega (arith, whole, low)) ∙ ap (standing_count (kept_strobes (lists_of hard) strobes)) (lists-at hard place d low) in
        needs-is (kept_strobes (lists_of hard) strobes) s (get_or hard place d).times stands
        ∙ ap (λ n. has (get_or hard place d).times s && nat_eq n 1) (sym right ∙ ap (λ k. get_or counts k 0) (sym same))
