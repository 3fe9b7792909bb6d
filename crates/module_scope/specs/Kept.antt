-- What is kept of names.
use Rattle.std.specs.Prelude.{ℕ, cond, List, [], ◌∷◌, map, Option, Some, None}
use Rattle.std.specs.Borrow.{Bor}
use Rattle.v_tree.specs.Trees.{Identifier, same_name}

-- the names that keys refer to, with what is kept of each
abbrev pub kept_pairs : {V : Type 0} → List (Bor (List ℕ) × V) → List (List ℕ × V)
kept_pairs {V} pairs = map (λ (p : Bor (List ℕ) × V). (p.0.now, p.1)) pairs

-- what is kept of a name
abbrev pub kept : {V : Type 0} → List (List ℕ × V) → Identifier → Option V
kept [] name = None
kept (p ∷ pairs) name = cond (same_name p.0 name) (Some p.1) (kept pairs name)
