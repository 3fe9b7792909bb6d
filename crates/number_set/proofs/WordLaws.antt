-- Laws on the bits of words.
use Rattle.std.proofs.Common.{◌≡◌, ℕ, ◌+◌, ◌-◌, ◌*◌, ◌<◌, ◌≤◌, ◌/◌, ◌%◌, ◌^◌, Bool, true, false, List, length, get_or, set, min, max, refl, ap, sym, ◌∙◌, subst, arith, inl, inr}
use Rattle.std.specs.Prelude.{nat_eq, bit_or, Option, Some, None, ◌⊎◌, ◌||◌}
use Rattle.std.specs.Int.{bit_at, trailing_zeros, w64}
use Rattle.std.proofs.lemmas.Nat.{pow-add}
use Rattle.std.proofs.lemmas.Nat.Bits.{bit_at-zero, bit_at-trailing_zeros, bit_at_above, bit_at_set_same, bit_at_set_other}
use Rattle.std.proofs.lemmas.Bool.{cases_lt, cases_eq, eq-eqb, ne_eqb, eqb-true, eqb-false}
use Rattle.std.proofs.lemmas.List.{get_or-set_same, get_or-set_other, length-set}
use Rattle.std.proofs.Math.Nat.{div-div-eq-div-mul, div-le_self}
use Rattle.number_set.specs.Members.{IsFirstFrom, bit_is_set, is_set, AreWords, NumberBits, Inserts}

-- One word

-- a bit of a word that was shifted down
bit_at-shifted : (word k i : ℕ) → bit_at (word / 2 ^ k) i ≡ bit_at word (k + i)
bit_at-shifted word k i = ap (λ n. n % 2) (div-div-eq-div-mul word (2 ^ k) (2 ^ i) ∙ ap (λ n. word / n) (sym (pow-add 2 k i)))

-- a bit that is set is one of the word's
inside_by : (word place : ℕ) → word < 2 ^ 64 → (place < 64) ⊎ (64 ≤ place) → bit_is_set word place ≡ true → place < 64
inside_by word place fits (inl low) set = low
inside_by word place fits (inr high) set = let none : bit_at word place ≡ 0 = bit_at_above word 64 place fits high in
    absurd (let clear : bit_is_set word place ≡ false = ap (λ n. nat_eq n 1) none in cc)

inside : (word place : ℕ) → word < 2 ^ 64 → bit_is_set word place ≡ true → place < 64
inside word place fits set = inside_by word place fits (cases_lt place 64) set

-- no bit from a place on
pub word-empty : (word from : ℕ) → word / 2 ^ from ≡ 0 → (number : ℕ) → from ≤ number → bit_is_set word number ≡ false
word-empty word from none number low =
    let at : from + (number - from) ≡ number = omega arith in
    ap (λ n. nat_eq (bit_at word n) 1) (sym at) ∙ ap (λ n. nat_eq n 1) (sym (bit_at-shifted word from (number - from)))
    ∙ ap (λ n. nat_eq (bit_at n (number - from)) 1) none ∙ ap (λ n. nat_eq n 1) (bit_at-zero (number - from))

-- the first bit of a word from a place on
pub word-first : (word from : ℕ) → from < 64 → word < 2 ^ 64 → (word / 2 ^ from ≡ 0 → ⊥) → IsFirstFrom (bit_is_set word) 64 from (Some (from + trailing_zeros w64 (word / 2 ^ from)))
word-first word from low fits some =
    let rest = word / 2 ^ from in
    let less : rest ≤ word = div-le_self word (2 ^ from) in
    let few : rest < 2 ^ 64 = omega arith in
    let first = bit_at-trailing_zeros w64 rest (omega arith) few in
    let place = trailing_zeros w64 rest in
    let set : bit_is_set word (from + place) ≡ true = ap (λ n. nat_eq n 1) (sym (bit_at-shifted word from place) ∙ first.1) in (
      omega arith,
      inside word (from + place) fits set,
      set,
      λ number after before.
          let at : from + (number - from) ≡ number = omega arith in
          ap (λ n. nat_eq (bit_at word n) 1) (sym at) ∙ ap (λ n. nat_eq n 1) (sym (bit_at-shifted word from (number - from)) ∙ first.2 (number - from) (omega arith)),
    )

bit-more_by : (word x m : ℕ) (same : Bool) → x < 64 → nat_eq x m ≡ same → bit_is_set (bit_or word (1 * 2 ^ x % 2 ^ 64)) m ≡ (same || bit_is_set word m)
bit-more_by word x m true low is =
    let at : x ≡ m = eqb-true x m is in ap (λ k. bit_is_set (bit_or word (1 * 2 ^ x % 2 ^ 64)) k) (sym at) ∙ ap (λ n. nat_eq n 1) (bit_at_set_same w64 word x low)
bit-more_by word x m false low is =
    let other : x ≡ m → ⊥ = eqb-false x m is in ap (λ n. nat_eq n 1) (bit_at_set_other w64 word x low m (λ same. other (sym same)))

-- one bit more
bit-more : (word x m : ℕ) → x < 64 → bit_is_set (bit_or word (1 * 2 ^ x % 2 ^ 64)) m ≡ (nat_eq x m || bit_is_set word m)
bit-more word x m low = bit-more_by word x m (nat_eq x m) low refl

-- Some words

-- two places in one word, and in two
eq-within : (x m : ℕ) → m / 64 ≡ x / 64 → nat_eq (x % 64) (m % 64) ≡ nat_eq x m
eq-within x m same = elim (cases_eq x m) [
  | inl equal ↦ eq-eqb (x % 64) (m % 64) (ap (λ n. n % 64) equal) ∙ sym (eq-eqb x m equal)
  | inr differ ↦ ne_eqb (x % 64) (m % 64) (λ e. differ (omega arith)) ∙ sym (ne_eqb x m differ)
]

set-more_by : (words : List ℕ) (x m word : ℕ) → x / 64 < length words → word ≡ get_or words (x / 64) 0 → (m / 64 ≡ x / 64) ⊎ (m / 64 ≡ x / 64 → ⊥) →
    is_set (set words (x / 64) (bit_or word (1 * 2 ^ (x % 64) % 2 ^ 64))) m ≡ (nat_eq x m || is_set words m)
set-more_by words x m word within is (inl same) =
    let new = bit_or word (1 * 2 ^ (x % 64) % 2 ^ 64) in
    ap (λ k. bit_is_set (get_or (set words (x / 64) new) k 0) (m % 64)) same
    ∙ ap (λ w. bit_is_set w (m % 64)) (get_or-set_same words (x / 64) new 0 within)
    ∙ bit-more word (x % 64) (m % 64) (omega arith)
    ∙ ap (λ b. b || bit_is_set word (m % 64)) (eq-within x m same)
    ∙ ap (λ w. nat_eq x m || bit_is_set w (m % 64)) (is ∙ ap (λ k. get_or words k 0) (sym same))
set-more_by words x m word within is (inr differ) =
    let new = bit_or word (1 * 2 ^ (x % 64) % 2 ^ 64) in
    ap (λ w. bit_is_set w (m % 64)) (get_or-set_other words (x / 64) (m / 64) new 0 differ)
    ∙ ap (λ b. b || is_set words m) (sym (ne_eqb x m (λ e. differ (ap (λ n. n / 64) (sym e)))))

-- one bit more in some words
pub set-more : (words : List ℕ) (x m word : ℕ) → x / 64 < length words → word ≡ get_or words (x / 64) 0 →
    is_set (set words (x / 64) (bit_or word (1 * 2 ^ (x % 64) % 2 ^ 64))) m ≡ (nat_eq x m || is_set words m)
set-more words x m word within is = set-more_by words x m word within is (cases_eq (m / 64) (x / 64))

bounded : (x m bound : ℕ) (rest : Bool) → x < bound → (rest ≡ true → m < bound) → (nat_eq x m || rest) ≡ true → m < bound
bounded x m bound rest low within is = elim (cases_eq x m) [
  | inl equal ↦ omega arith
  | inr differ ↦ within (ap (λ b. b || rest) (sym (ne_eqb x m differ)) ∙ is)
]

-- the words with one number more
pub words-more : (bound first past lowest highest x word : ℕ) (words : List ℕ) → AreWords bound first past words → x < bound → word ≡ get_or words (x / 64) 0 →
    lowest ≡ min first (x / 64) → highest ≡ max past (x / 64 + 1) → AreWords bound lowest highest (set words (x / 64) (bit_or word (1 * 2 ^ (x % 64) % 2 ^ 64)))
words-more bound first past lowest highest x word words are low is lowest_is highest_is =
    let new = bit_or word (1 * 2 ^ (x % 64) % 2 ^ 64) in
    let long : length words ≡ bound / 64 + 1 = are.long in
    let there : x / 64 < length words = omega arith in
    let same : length (set words (x / 64) new) ≡ length words = length-set words (x / 64) new in
    let starts : first ≤ length words = are.first_within in
    let ends : past ≤ length words = are.past_within in
    record {
      small = are.small;
      long = same ∙ long;
      within = λ m set_there. bounded x m bound (is_set words m) low (are.within m) (sym (set-more words x m word there is) ∙ set_there);
      first_within = omega arith;
      past_within = omega arith;
      below = λ place less. get_or-set_other words (x / 64) place new 0 (λ e. omega arith) ∙ are.below place (omega arith);
      above = λ place past_it. get_or-set_other words (x / 64) place new 0 (λ e. omega arith) ∙ are.above place (omega arith);
    }

-- no bit of a clear word is set
pub clear-unset : (words : List ℕ) (m : ℕ) → get_or words (m / 64) 0 ≡ 0 → is_set words m ≡ false
clear-unset words m none = ap (λ w. bit_is_set w (m % 64)) none ∙ ap (λ n. nat_eq n 1) (bit_at-zero (m % 64))

-- a member looked for among the words that may have one is looked for among all
pub first-of_all : (words : List ℕ) (bound first past from start : ℕ) (found : Option ℕ) → AreWords bound first past words → start ≡ max from (first * 64) →
    IsFirstFrom (is_set words) (64 * past) start found → IsFirstFrom (is_set words) bound from found
first-of_all words bound first past from start None are start_is none =
    λ number low within. elim (cases_lt number start) [
      | inl below ↦ clear-unset words number (are.below (number / 64) (omega arith))
      | inr since ↦ elim (cases_lt number (64 * past)) [
        | inl near ↦ none number since near
        | inr far ↦ clear-unset words number (are.above (number / 64) (omega arith))
      ]
    ]
first-of_all words bound first past from start (Some found) are start_is some = (
  let since : start ≤ found = some.0 in omega arith,
  are.within found some.2,
  some.2,
  λ number low before. elim (cases_lt number start) [
    | inl below ↦ clear-unset words number (are.below (number / 64) (omega arith))
    | inr since ↦ some.3 number since before
  ],
)

-- a number more in words that have its bit
pub place-within : (bound first past x : ℕ) (words : List ℕ) → AreWords bound first past words → x < bound → x / 64 < length words
place-within bound first past x words are low = let long : length words ≡ bound / 64 + 1 = are.long in omega arith

-- the set that those words are has the number besides
pub inserts-more : (bound x word : ℕ) (words : List ℕ) (old : NumberBits) → record { bound = bound; words = words } ≡ old → x / 64 < length words → word ≡ get_or words (x / 64) 0 →
    Inserts x old (record { bound = bound; words = set words (x / 64) (bit_or word (1 * 2 ^ (x % 64) % 2 ^ 64)) })
inserts-more bound x word words old view there is =
    let new : NumberBits = record { bound = bound; words = set words (x / 64) (bit_or word (1 * 2 ^ (x % 64) % 2 ^ 64)) } in
    subst (λ (set : NumberBits). Inserts x set new) view (record { bound_is = refl; members = λ other. set-more words x other word there is })
