-- The part of a word that names an object or a gate (the forms of names are this program's own).
use Rattle.std.specs.Prelude.{ℕ, List, [], ◌∷◌, nat_eq, if◌then◌else◌}
use Rattle.vf_base.specs.Lists.{has}
use Rattle.v_design.specs.Designs.{FlatObject, FlatNode, NameJoined}

-- the bytes before the first `[` (91)
abbrev pub stem : List ℕ → List ℕ
stem [] = []
stem (b ∷ bs) = if nat_eq b 91 then [] else b ∷ stem bs

-- the bytes before the last `.` (46), none where there is none
abbrev pub front : List ℕ → List ℕ
front [] = []
front (b ∷ bs) = if has bs 46 then b ∷ front bs else []

-- the key under which an object is found, a gate, and a joined name
abbrev pub object_key : FlatObject → List ℕ
object_key object = stem object.name

abbrev pub gate_key : FlatNode → List ℕ
gate_key node = node.name

abbrev pub joined_key : NameJoined → List ℕ
joined_key name = stem name.name
