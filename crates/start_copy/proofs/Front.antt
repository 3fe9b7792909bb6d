-- How many nodes stand before the first marked one.
use Rattle.std.proofs.Common.{◌≡◌, ℕ, zero, suc, ◌-◌, ◌<◌, ◌≤◌, Bool, true, false, not, ◌&&◌, List, [], ◌∷◌, length, refl, sym, ap, ◌∙◌, arith, inl, inr}
use Rattle.std.specs.Prelude.{nat_eq}
use Rattle.std.proofs.lemmas.Bool.{cases_eq, cases_lt, eq-eqb, false≢true}
use Rattle.std.proofs.lemmas.List.{get_or_past}
use Rattle.net_settle.specs.Marked.{marked_at, TakesLeast}

and-false : (b : Bool) → (b && false) ≡ false
and-false true = refl
and-false false = refl

-- a marked node is there
pub marked-there : (marks : List Bool) (number : ℕ) → marked_at marks number ≡ true → number < length marks
marked-there marks number is = elim (cases_lt number (length marks)) [
  | inl low ↦ low
  | inr past ↦ absurd (false≢true (sym (get_or_past marks number false past) ∙ is))
]

abbrev pub unmarked_front : List Bool → ℕ
unmarked_front [] = 0
unmarked_front (true ∷ marks) = 0
unmarked_front (false ∷ marks) = suc (unmarked_front marks)

pub front-short : (marks : List Bool) → unmarked_front marks ≤ length marks
front-short [] = omega arith
front-short (true ∷ marks) = omega arith
front-short (false ∷ marks) = omega (arith, front-short marks)

-- it is the number of the least marked one
pub front-least : (marks : List Bool) (number : ℕ) → marked_at marks number ≡ true → ((lower : ℕ) → lower < number → marked_at marks lower ≡ false) → unmarked_front marks ≡ number
front-least [] number is below = cc
front-least (true ∷ marks) zero is below = omega arith
front-least (true ∷ marks) (suc number) is below = let no : true ≡ false = below 0 (omega arith) in cc
front-least (false ∷ marks) zero is below = cc
front-least (false ∷ marks) (suc number) is below = ap suc (front-least marks number is (λ lower low. below (suc lower) (omega (arith, low))))

-- and more than that of a node up to which none is marked
pub front-past : (marks : List Bool) (number : ℕ) → number < length marks → ((lower : ℕ) → lower ≤ number → marked_at marks lower ≡ false) → number < unmarked_front marks
front-past [] number there none = absurd (omega (arith, there))
front-past (true ∷ marks) number there none = let no : true ≡ false = none 0 (omega arith) in cc
front-past (false ∷ marks) zero there none = omega arith
front-past (false ∷ marks) (suc number) there none =
    let more : number < unmarked_front marks = front-past marks number (omega (arith, there)) (λ lower low. none (suc lower) (omega (arith, low))) in
    omega (arith, more)

-- behind the work on the least marked node, which marks none up to it, more nodes stand before the first marked one
pub front-smaller : (before taken later : List Bool) (number : ℕ) → length later ≡ length before → TakesLeast number before taken →
    ((k : ℕ) → k ≤ number → marked_at later k ≡ marked_at taken k) → length later - unmarked_front later < length before - unmarked_front before
front-smaller before taken later number same takes stays =
    let there : number < length before = marked-there before number takes.was_marked in
    let first : unmarked_front before ≡ number = front-least before number takes.was_marked takes.least in
    let more : number < unmarked_front later = front-past later number (omega arith) (λ k low. stays k low ∙ takes.taken k ∙ none k low) in
    let short : unmarked_front later ≤ length later = front-short later in
    omega arith
  where
    none : (k : ℕ) → k ≤ number → (marked_at before k && not (nat_eq k number)) ≡ false
    none k low = elim (cases_eq k number) [
      | inl same ↦ ap (λ b. marked_at before k && not b) (eq-eqb k number same) ∙ and-false (marked_at before k)
      | inr other ↦ ap (λ b. b && not (nat_eq k number)) (takes.least k (omega (arith, low, other)))
    ]
