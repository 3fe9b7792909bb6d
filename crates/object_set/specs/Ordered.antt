-- Objects in an order, each once (nothing of the language).
use Rattle.std.specs.Prelude.{ℕ, cond, List, [], ◌∷◌, ◌++◌}
use Rattle.vf_base.specs.Lists.{has}

-- objects below a bound, by their numbers
pub record OrderedObjects : Type 0 where
  pub bound : ℕ
  pub objects : List ℕ

-- an object put behind others, unless it is among them
abbrev pub with_object : List ℕ → ℕ → List ℕ
with_object objects object = cond (has objects object) objects (objects ++ object ∷ [])

-- objects put behind others one by one
abbrev pub with_objects : List ℕ → List ℕ → List ℕ
with_objects objects [] = objects
with_objects objects (object ∷ rest) = with_objects (with_object objects object) rest
