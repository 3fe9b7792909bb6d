-- Numbers that are all below a number (nothing of the language).
use Rattle.std.specs.Prelude.{◌≡◌, ℕ, ◌<◌, true, List, [], get_or, Option, Some}
use Rattle.vf_base.specs.Lists.{has}
use Rattle.v_tree.specs.Trees.{Identifier}

-- each place that a name has
pub record PlacesBelow (count : ℕ) (place : Identifier → Option ℕ) : Type 0 where
  pub below : (name : Identifier) (p : ℕ) → place name ≡ Some p → p < count

pub record AreBelow (count : ℕ) (numbers : List ℕ) : Type 0 where
  pub below : (n : ℕ) → has numbers n ≡ true → n < count

-- each number of each list
pub record NeedsBelow (count : ℕ) (needs : List (List ℕ)) : Type 0 where
  pub below : (v n : ℕ) → has (get_or needs v []) n ≡ true → n < count
