-- How many of a fault's hard strobes stand: with a strobe, and without it.
use Rattle.std.proofs.Common.{◌≡◌, ℕ, zero, suc, ◌+◌, ◌<◌, ◌≤◌, Bool, true, false, ◌||◌, cond, List, [], ◌∷◌, ◌++◌, length, get_or, filter, nat_eq, refl, sym, ap, ◌∙◌, inl, inr, arith}
use Rattle.std.proofs.lemmas.Bool.{eqb-true, eq-eqb, ne_eqb, cases_eq, cases_Bool, and_from, and_parts}
use Rattle.vf_base.specs.Lists.{has, AllHold}
use Rattle.v_design.specs.WellFormed.{IsAscending}
use Rattle.pick_laws.specs.Kept.{has_some, is_covered, covers}
use Rattle.pick_laws.proofs.Covers.{either-true, or-left, or-right}
use Rattle.vf_pick.specs.Faults.{standing_count}

-- Words on lists

pub hold-at : {A : Type 0} (P : A → Type 0) (xs : List A) (place : ℕ) (d : A) → place < length xs → AllHold P xs → P (get_or xs place d)
hold-at P [] place d low h = absurd (omega arith)
hold-at P (x ∷ xs) zero d low h = h.0
hold-at P (x ∷ xs) (suc place) d low h = hold-at P xs place d (omega arith) h.1

-- a bound below all of some numbers
pub above : (low : ℕ) (xs : List ℕ) (x : ℕ) → AllHold (λ later. low < later) xs → has xs x ≡ true → low < x
above low [] x l h = absurd (cc)
above low (y ∷ xs) x l h = elim (either-true (nat_eq y x) (has xs x) h) [
  | inl same ↦ (let e : y ≡ x = eqb-true y x same in let less : low < y = l.0 in omega arith)
  | inr there ↦ above low xs x l.1 there
]

-- 1 for a test that holds
abbrev pub tally : Bool → ℕ
tally b = cond b 1 0

pub same-swap : (a b : ℕ) → nat_eq a b ≡ nat_eq b a
same-swap a b = elim (cases_eq a b) [ inl e ↦ eq-eqb a b e ∙ sym (eq-eqb b a (sym e)) | inr n ↦ ne_eqb a b n ∙ sym (ne_eqb b a (λ e. n (sym e))) ]

or-swap : (a b c : Bool) → (a || (b || c)) ≡ (b || (a || c))
or-swap true true c = refl
or-swap true false c = refl
or-swap false b c = refl

has-middle : (before : List ℕ) (s : ℕ) (after : List ℕ) (t : ℕ) → has (before ++ s ∷ after) t ≡ (nat_eq s t || has (before ++ after) t)
has-middle [] s after t = refl
has-middle (b ∷ before) s after t = ap (λ x. nat_eq b t || x) (has-middle before s after t) ∙ or-swap (nat_eq b t) (nat_eq s t) (has (before ++ after) t)

-- Counts

count-cond : (b : Bool) (t : ℕ) (xs : List ℕ) → length (cond b (t ∷ xs) xs) ≡ tally b + length xs
count-cond true t xs = omega arith
count-cond false t xs = omega arith

apart : (b c : Bool) → (b ≡ true → c ≡ true → ⊥) → tally (b || c) ≡ tally c + tally b
apart true true h = absurd (h refl refl)
apart true false h = refl
apart false true h = refl
apart false false h = refl

-- the strobes that stand, and the one that goes
pub without : (before : List ℕ) (s : ℕ) (after : List ℕ) → (has (before ++ after) s ≡ true → ⊥) → (times : List ℕ) →
    standing_count (before ++ after) times + length (filter (nat_eq s) times) ≡ standing_count (before ++ s ∷ after) times
without before s after out [] = refl
without before s after out (t ∷ times) =
    let a = count-cond (has (before ++ after) t) t (filter (has (before ++ after)) times) in
    let b = count-cond (nat_eq s t) t (filter (nat_eq s) times) in
    let c = count-cond (has (before ++ s ∷ after) t) t (filter (has (before ++ s ∷ after)) times) in
    let d : tally (has (before ++ s ∷ after) t) ≡ tally (has (before ++ after) t) + tally (nat_eq s t) =
    ap tally (has-middle before s after t) ∙ apart (nat_eq s t) (has (before ++ after) t) (λ same there. out (ap (has (before ++ after)) (eqb-true s t same) ∙ there)) in
    let r = without before s after out times in
    omega (arith, a, b, c, d, r)

-- an ascending list has a number once at most
pub once : (s : ℕ) (times : List ℕ) → IsAscending times → length (filter (nat_eq s) times) ≡ tally (has times s)
once s [] a = refl
once s (t ∷ times) a =
    let c = count-cond (nat_eq s t) t (filter (nat_eq s) times) in
    let r = once s times a.1 in
    let e : tally (nat_eq s t) ≡ tally (nat_eq t s) = ap tally (same-swap s t) in
    let d : tally (nat_eq t s || has times s) ≡ tally (has times s) + tally (nat_eq t s) =
    apart (nat_eq t s) (has times s) (λ same there. let one : t ≡ s = eqb-true t s same in let less : t < s = above t times s a.0 there in omega arith) in
    omega (arith, c, r, e, d)

-- Covering by counts

some-count : (standing times : List ℕ) → has_some standing times ≡ true → 1 ≤ standing_count standing times
some-count standing [] e = absurd (cc)
some-count standing (t ∷ times) e =
    let c = count-cond (has standing t) t (filter (has standing) times) in
    elim (either-true (has standing t) (has_some standing times) e) [
      | inl h ↦ (let one : tally (has standing t) ≡ 1 = ap tally h in omega (arith, c, one))
      | inr h ↦ (let r = some-count standing times h in omega (arith, c, r))
    ]

count-some : (standing times : List ℕ) → 1 ≤ standing_count standing times → has_some standing times ≡ true
count-some standing [] l = absurd (omega arith)
count-some standing (t ∷ times) l = elim (cases_Bool (has standing t)) [
  | inl h ↦ or-left (has standing t) (has_some standing times) h
  | inr h ↦
      (let none : tally (has standing t) ≡ 0 = ap tally h in
      let c = count-cond (has standing t) t (filter (has standing) times) in
      or-right (has standing t) (has_some standing times) (count-some standing times (omega (arith, c, none, l))))
]

pub covered-count : (standing times : List ℕ) (t : ℕ) → is_covered standing times ≡ true → has times t ≡ true → 1 ≤ standing_count standing times
covered-count standing [] t c h = absurd (cc)
covered-count standing (x ∷ times) t c h = some-count standing (x ∷ times) c

pub count-covered : (standing times : List ℕ) → 1 ≤ standing_count standing times → is_covered standing times ≡ true
count-covered standing [] l = refl
count-covered standing (x ∷ times) l = count-some standing (x ∷ times) l

-- a fault stays covered where as many of its strobes stand
pub covered-same : (standing others times : List ℕ) → standing_count standing times ≡ standing_count others times → is_covered standing times ≡ true → is_covered others times ≡ true
covered-same standing others [] e c = refl
covered-same standing others (x ∷ times) e c = let l = some-count standing (x ∷ times) c in count-some others (x ∷ times) (omega (arith, e, l))

-- All faults

pub covers-each : (faults : List (List ℕ)) (strobes : List ℕ) → covers faults strobes ≡ true → (place : ℕ) → place < length faults → is_covered strobes (get_or faults place []) ≡ true
covers-each [] strobes e place low = absurd (omega arith)
covers-each (times ∷ faults) strobes e zero low = (and_parts (is_covered strobes times) (covers faults strobes) e).0
covers-each (times ∷ faults) strobes e (suc place) low = covers-each faults strobes (and_parts (is_covered strobes times) (covers faults strobes) e).1 place (omega arith)

pub covers-from : (faults : List (List ℕ)) (strobes : List ℕ) → ((place : ℕ) → place < length faults → is_covered strobes (get_or faults place []) ≡ true) → covers faults strobes ≡ true
covers-from [] strobes h = refl
covers-from (times ∷ faults) strobes h = and_from (is_covered strobes times) (covers faults strobes) (h zero (omega arith)) (covers-from faults strobes (λ place low. h (suc place) (omega arith)))

-- all strobes cover
pub parts-cover : (strobes : List ℕ) (faults : List (List ℕ)) → AllHold (λ times. AllHold (λ time. has strobes time ≡ true) times) faults → covers faults strobes ≡ true
parts-cover strobes [] h = refl
parts-cover strobes (times ∷ faults) h = and_from (is_covered strobes times) (covers faults strobes) (own times h.0) (parts-cover strobes faults h.1)
  where
    own : (times : List ℕ) → AllHold (λ time. has strobes time ≡ true) times → is_covered strobes times ≡ true
    own [] p = refl
    own (t ∷ times) p = or-left (has strobes t) (has_some strobes times) p.0

-- all of a fault's hard strobes stand at first
pub all-standing : (strobes times : List ℕ) → AllHold (λ time. has strobes time ≡ true) times → standing_count strobes times ≡ length times
all-standing strobes [] h = refl
all-standing strobes (t ∷ times) h =
    let c = count-cond (has strobes t) t (filter (has strobes) times) in
    let one : tally (has strobes t) ≡ 1 = ap tally h.0 in
    let r = all-standing strobes times h.1 in
    omega (arith, c, one, r)
