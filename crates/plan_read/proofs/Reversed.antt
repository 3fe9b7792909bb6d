-- Lists in reverse.
use Rattle.std.proofs.Common.{◌≡◌, List, [], ◌∷◌, map, refl}
use Rattle.std.specs.Prelude.{reverse}
use mathlib.Core.List.{reverse_aux}
use Rattle.vf_base.specs.Lists.{AllHold}

all-onto : {A : Type 0} (P : A → Type 0) (xs ys : List A) → AllHold P xs → AllHold P ys → AllHold P (reverse_aux xs ys)
all-onto P [] ys one other = other
all-onto P (x ∷ xs) ys one other = all-onto P xs (x ∷ ys) one.1 (one.0, other)

-- what holds of each element holds of each in reverse
pub all-reverse : {A : Type 0} (P : A → Type 0) (xs : List A) → AllHold P xs → AllHold P (reverse xs)
all-reverse P xs all = all-onto P xs [] all tt

map-onto : {A B : Type 0} (f : A → B) (xs ys : List A) → map f (reverse_aux xs ys) ≡ reverse_aux (map f xs) (map f ys)
map-onto f [] ys = refl
map-onto f (x ∷ xs) ys = map-onto f xs (x ∷ ys)

-- f of each element, in reverse
pub map-reverse : {A B : Type 0} (f : A → B) (xs : List A) → map f (reverse xs) ≡ reverse (map f xs)
map-reverse f xs = map-onto f xs []
