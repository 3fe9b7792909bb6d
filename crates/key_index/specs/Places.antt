-- Where a key stands in a list (nothing of the language).
use Rattle.std.specs.Prelude.{ℕ, ◌+◌, List, map, drop, Option, Some, None}
use Rattle.std.specs.Borrow.{Bor}
use Rattle.std.specs.HashMap.{HashMap, get_by}
use Rattle.std.specs.Str.{bytes_eq}
use Rattle.vf_base.specs.Lists.{first_place}

-- keys as bytes
abbrev pub keys_of : List (Bor (List ℕ)) → List (List ℕ)
keys_of keys = map (λ key. key.now) keys

-- so many places on
abbrev pub later : ℕ → Option ℕ → Option ℕ
later from None = None
later from (Some place) = Some (from + place)

-- the first place of a key, from a place on
abbrev pub key_from : List (List ℕ) → List ℕ → ℕ → Option ℕ
key_from keys key from = later from (first_place (bytes_eq key) (drop from keys))

-- the place that a map has for some bytes
abbrev pub place_in : {S : Type 0} → HashMap (Bor (List ℕ)) ℕ S → List ℕ → Option ℕ
place_in map word = get_by (λ key. bytes_eq word key.now) map
