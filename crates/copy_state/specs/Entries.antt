-- Entries by number, in ascending order (nothing of the language).
use Rattle.std.specs.Prelude.{◌≡◌, ℕ, ◌<◌, ◌≤◌, Bool, not, ◌==◌, nat_lt, if◌then◌else◌, List, [], ◌∷◌, filter, map, length, get_or, Option, Some, None}

-- an entry under a number, before those of greater numbers and in place of an old one
abbrev pub with_entry : {A : Type 0} → ℕ → A → List (ℕ × A) → List (ℕ × A)
with_entry number x [] = (number, x) ∷ []
with_entry number x (first ∷ rest) = if nat_lt first.0 number then first ∷ with_entry number x rest else (if first.0 == number then (number, x) ∷ rest else (number, x) ∷ first ∷ rest)

-- an entry is another number's
abbrev pub is_other : {A : Type 0} → ℕ → ℕ × A → Bool
is_other number entry = not (entry.0 == number)

-- without the entry under a number
abbrev pub without_entry : {A : Type 0} → ℕ → List (ℕ × A) → List (ℕ × A)
without_entry number entries = filter (is_other number) entries

-- the first number that isn't before one
abbrev pub first_from : {A : Type 0} → ℕ → List (ℕ × A) → Option ℕ
first_from from [] = None
first_from from (entry ∷ entries) = if nat_lt entry.0 from then first_from from entries else Some entry.0

-- something of each entry, under its number
abbrev pub each_by : {A B : Type 0} → (ℕ → A → B) → List (ℕ × A) → List (ℕ × B)
each_by {A} f entries = map (λ (entry : ℕ × A). (entry.0, f entry.0 entry.1)) entries

-- the numbers of entries
abbrev pub numbers : {A : Type 0} → List (ℕ × A) → List ℕ
numbers {A} entries = map (λ (entry : ℕ × A). entry.0) entries

-- some numbers ascend, each once
abbrev pub Rise : List ℕ → Type 0
Rise numbers = (i j : ℕ) → i < j → j < length numbers → get_or numbers i 0 < get_or numbers j 0

-- a number stands at a place, between lesser and greater ones
pub record IsAt (numbers : List ℕ) (place number : ℕ) : Type 0 where
  pub within : place < length numbers
  pub at : get_or numbers place 0 ≡ number
  pub before : (k : ℕ) → k < place → get_or numbers k 0 < number
  pub behind : (k : ℕ) → place < k → k < length numbers → number < get_or numbers k 0

-- a number isn't there, and would stand at a place, between lesser and greater ones
pub record GoesTo (numbers : List ℕ) (place number : ℕ) : Type 0 where
  pub within : place ≤ length numbers
  pub before : (k : ℕ) → k < place → get_or numbers k 0 < number
  pub behind : (k : ℕ) → place ≤ k → k < length numbers → number < get_or numbers k 0
