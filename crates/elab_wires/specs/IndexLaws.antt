-- A name is in an index where it has a place.
use Rattle.std.proofs.Common.{◌≡◌, ℕ, Bool, true, false, ◌||◌, List, [], ◌∷◌, Option, Some, None, is_some, refl, ap, ◌∙◌}
use Rattle.std.specs.Str.{bytes_eq}
use Rattle.vf_base.specs.Lists.{first_place, earlier_place}
use Rattle.key_index.specs.Places.{later, key_from}
use Rattle.v_tree.specs.Trees.{Identifier, has_name}
use Rattle.elab_wires.specs.Keyed.{key-name}

there-by : (b : Bool) (o : Option ℕ) (has : Bool) → is_some o ≡ has → is_some (earlier_place b o) ≡ (b || has)
there-by true o has e = refl
there-by false None has e = e
there-by false (Some p) has e = e

place-there : (keys : List Identifier) (name : Identifier) → is_some (first_place (bytes_eq name) keys) ≡ has_name keys name
place-there [] name = refl
place-there (key ∷ keys) name =
    there-by (bytes_eq name key) (first_place (bytes_eq name) keys) (has_name keys name) (place-there keys name) ∙ ap (λ b. b || has_name keys name) (key-name name key)

later-there : (o : Option ℕ) → is_some (later 0 o) ≡ is_some o
later-there None = refl
later-there (Some p) = refl

pub key-there : (keys : List Identifier) (name : Identifier) → is_some (key_from keys name 0) ≡ has_name keys name
key-there keys name = later-there (first_place (bytes_eq name) keys) ∙ place-there keys name
