-- Items under keys (nothing of the language).
use Rattle.std.specs.Prelude.{ℕ, Bool, true, false, List, [], ◌∷◌, Option, Some, None}
use Rattle.std.specs.Str.{bytes_eq}
use Rattle.key_index.specs.declared.grouped.Keyed.{Keyed}

-- a key with its item
abbrev pub keyed_of : {T : Type 0} → Keyed T → List ℕ × T
keyed_of k = (k.key.now, k.item)

abbrev pub key_of : {T : Type 0} → List ℕ × T → List ℕ
key_of p = p.0

abbrev pub item_if : {T : Type 0} → Bool → T → List T → List T
item_if true item rest = item ∷ rest
item_if false item rest = rest

-- the items under a key, in their order
abbrev pub items_under : {T : Type 0} → List (List ℕ × T) → List ℕ → List T
items_under [] key = []
items_under (p ∷ ps) key = item_if (bytes_eq key p.0) p.1 (items_under ps key)

abbrev pub first_of : {T : Type 0} → List T → Option T
first_of [] = None
first_of (x ∷ xs) = Some x

-- the first item under a key
abbrev pub first_under : {T : Type 0} → List (List ℕ × T) → List ℕ → Option T
first_under ps key = first_of (items_under ps key)
