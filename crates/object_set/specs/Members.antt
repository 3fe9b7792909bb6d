-- A table of which objects are members, and the members in order (nothing of the language).
use Rattle.std.specs.Prelude.{◌≡◌, ℕ, ◌+◌, Bool, true, false, List, [], ◌∷◌, map, take, length, get_or}
use Rattle.vf_base.specs.declared.ids.ObjectId.{ObjectId}
use Rattle.vf_base.specs.Base.{object_number}
use Rattle.vf_base.specs.Lists.{has}

-- how many are members
abbrev pub member_count : List Bool → ℕ
member_count [] = 0
member_count (true ∷ members) = 1 + member_count members
member_count (false ∷ members) = member_count members

-- a table of members, and in the first so many places of a list each member
pub record IsOrdered (members : List Bool) (order : List ObjectId) (count : ℕ) : Type 0 where
  pub long : length order ≡ length members
  pub counted : member_count members ≡ count
  pub listed : (object : ℕ) → has (map object_number (take count order)) object ≡ get_or members object false

-- some objects are no members, and of the others those that were
pub record TakesOut (objects : List ℕ) (before later : List Bool) : Type 0 where
  pub same_length : length later ≡ length before
  pub gone : (object : ℕ) → has objects object ≡ true → get_or later object false ≡ false
  pub kept : (object : ℕ) → has objects object ≡ false → get_or later object false ≡ get_or before object false
