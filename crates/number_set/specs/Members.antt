-- Sets of numbers, a bit for each (nothing of the language).
use Rattle.std.specs.Prelude.{◌≡◌, ℕ, ◌+◌, ◌<◌, ◌≤◌, ◌/◌, ◌%◌, ◌^◌, Bool, true, false, ◌||◌, List, Option, Some, None, length, get_or, nat_eq}
use Rattle.std.specs.Int.{bit_at}

-- the first of so many numbers that isn't below another and passes a test; none where none does
abbrev pub IsFirstFrom : (ℕ → Bool) → ℕ → ℕ → Option ℕ → Type 0
IsFirstFrom test count from None = (number : ℕ) → from ≤ number → number < count → test number ≡ false
IsFirstFrom test count from (Some first) = (from ≤ first) × (first < count) × (test first ≡ true) × ((number : ℕ) → from ≤ number → number < first → test number ≡ false)

-- the bit of a place in a word, and in some words of 64 bits each
abbrev pub bit_is_set : ℕ → ℕ → Bool
bit_is_set word place = nat_eq (bit_at word place) 1

abbrev pub is_set : List ℕ → ℕ → Bool
is_set words place = bit_is_set (get_or words (place / 64) 0) (place % 64)

-- words with a bit for each number below a bound, and no other bit is set, nor any before a word or from another on
pub record AreWords (bound first past : ℕ) (words : List ℕ) : Type 0 where
  pub small : bound < 2 ^ 32
  pub long : length words ≡ bound / 64 + 1
  pub within : (number : ℕ) → is_set words number ≡ true → number < bound
  pub first_within : first ≤ length words
  pub past_within : past ≤ length words
  pub below : (place : ℕ) → place < first → get_or words place 0 ≡ 0
  pub above : (place : ℕ) → past ≤ place → get_or words place 0 ≡ 0

-- numbers below a bound, with a bit for each that tells whether it is a member
pub record NumberBits : Type 0 where
  pub bound : ℕ
  pub words : List ℕ

abbrev pub is_member : NumberBits → ℕ → Bool
is_member set number = is_set set.words number

-- a number is a member besides
pub record Inserts (number : ℕ) (old new : NumberBits) : Type 0 where
  pub bound_is : new.bound ≡ old.bound
  pub members : (other : ℕ) → is_member new other ≡ (nat_eq number other || is_member old other)

-- no number below the bound is a member
pub record IsEmpty (bound : ℕ) (set : NumberBits) : Type 0 where
  pub bound_is : set.bound ≡ bound
  pub members : (number : ℕ) → is_member set number ≡ false
