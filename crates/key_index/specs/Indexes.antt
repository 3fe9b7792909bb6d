-- What an index of keys keeps (nothing of the language).
use Rattle.std.specs.Prelude.{◌≡◌, ℕ, ◌+◌, ◌-◌, ◌<◌, List, [], length, Option, None, slice_index_or}
use Rattle.key_index.specs.Places.{keys_of, key_from, place_in}
use Rattle.key_index.specs.declared.index.KeyIndex.TheInside.{Inside}

-- the keys of an index
abbrev pub keys_in : Inside → List (List ℕ)
keys_in index = keys_of index.keys.items

-- the map has the first place of each key, and the list, from the last place on, the next place of the key at each place
pub record IsIndex (index : Inside) : Type 0 where
  pub firsts : (word : List ℕ) → place_in index.firsts word ≡ key_from (keys_in index) word 0
  pub count : length index.nexts.items ≡ length (keys_in index)
  pub nexts : (place : ℕ) → place < length (keys_in index) → slice_index_or index.nexts.items (length (keys_in index) - 1 - place) None ≡ key_from (keys_in index)
      (slice_index_or (keys_in index) place []) (place + 1)
