-- Names in an order, each once (nothing of the language).
use Rattle.std.specs.Prelude.{ℕ, ◌+◌, cond, List, [], ◌∷◌, ◌++◌, map, Option, Some, None, option_map}
use Rattle.v_tree.specs.Trees.{Identifier, same_name, has_name}
use Rattle.v_comb.specs.declared.name_table.NameTable.TheInside.{Inside}

-- the names in order
abbrev pub names_of : Inside → List Identifier
names_of table = map (λ name. name.now) table.names.keys

-- a name put behind others, unless it is among them
abbrev pub with_name : List Identifier → Identifier → List Identifier
with_name names name = cond (has_name names name) names (names ++ name ∷ [])

-- the same, unless it is among some others
abbrev pub with_other : List Identifier → List Identifier → Identifier → List Identifier
with_other others names name = cond (has_name others name) names (with_name names name)

-- the place of a name among others, the first one
abbrev pub place_of_name : List Identifier → Identifier → Option ℕ
place_of_name [] name = None
place_of_name (other ∷ names) name = cond (same_name other name) (Some 0) (option_map (λ place. place + 1) (place_of_name names name))
