-- Entries as a table by number (nothing of the language).
use Rattle.std.specs.Prelude.{◌≡◌, ℕ, suc, ◌^◌, ◌≤◌, List, [], ◌∷◌, length, Option, Some, None}

-- what stands in a table, each with its number, where the first place has a number
abbrev pub entries_from : {A : Type 0} → ℕ → List (Option A) → List (ℕ × A)
entries_from number [] = []
entries_from number (None ∷ rest) = entries_from (suc number) rest
entries_from number (Some x ∷ rest) = (number, x) ∷ entries_from (suc number) rest

-- a table's entries are counted, and its places are numbers of objects
pub record IsTable {A : Type 0} (values : List (Option A)) (count : ℕ) : Type 0 where
  pub count_is : count ≡ length (entries_from 0 values)
  pub few : length values ≤ 2 ^ 32
