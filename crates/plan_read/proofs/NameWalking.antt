-- A search that goes through the places of a key.
use Rattle.std.proofs.Common.{◌≡◌, ℕ, ◌+◌, ◌<◌, Bool, true, false, List, [], ◌∷◌, length, map, get_or, drop, Option, Some, None, refl, ap, sym, ◌∙◌, subst, arith}
use Rattle.std.specs.Str.{bytes_eq}
use Rattle.std.proofs.lemmas.List.{length-map}
use Rattle.std.proofs.lemmas.Slice.Eq.{bytes_eq-Decides}
use Rattle.fault_list.specs.Spelled.{or_else, first_answer}
use Rattle.key_index.specs.Places.{key_from}
use Rattle.key_index.specs.Walks.{rest_from, rest-begins, rest-goes, rest-here, key-sound, places_left, left-smaller, IsPlaceOf}

-- the search has come to a place of the key, or to the end
pub record IsWalk {A B C : Type 0} (view : A → B) (f : ℕ → B → Option C) (key_of : B → List ℕ) (key : List ℕ) (xs : List A) (at : Option ℕ) : Type 0 where
  pub place : IsPlaceOf (map key_of (map view xs)) key at
  pub rest : first_answer f 0 (map view xs) ≡ rest_from view (first_answer f) None xs at

module _ {A B C : Type 0} (view : A → B) (f : ℕ → B → Option C) (key_of : B → List ℕ) (key : List ℕ) (apart : (m : ℕ) (y : B) → bytes_eq key (key_of y) ≡ false → f m y ≡ None) where
  skips : (m : ℕ) (y : B) (rest : List B) → bytes_eq key (key_of y) ≡ false → first_answer f m (y ∷ rest) ≡ first_answer f (m + 1) rest
  skips m y rest other = ap (λ o. or_else o (first_answer f (m + 1) rest)) (apart m y other)

  pub walk-begins : (xs : List A) (at : Option ℕ) → at ≡ key_from (map key_of (map view xs)) key 0 → IsWalk view f key_of key xs at
  walk-begins xs at e = record {
    place = record { from = 0; found = e };
    rest = rest-begins view key_of key (first_answer f) None (λ m. refl) skips xs at e;
  }

  pub walk-goes : (xs : List A) (place : ℕ) (x : A) (next : Option ℕ) → IsWalk view f key_of key xs (Some place) → x ≡ get_or xs place x → f place (view x) ≡ None →
      next ≡ key_from (map key_of (map view xs)) (get_or (map key_of (map view xs)) place []) (place + 1) → IsWalk view f key_of key xs next
  walk-goes xs place x next walk is none e =
      let keys : List (List ℕ) = map key_of (map view xs) in
      let sound = key-sound (map key_of (map view xs)) key walk.place.from place walk.place.found in
      let low : place < length xs = omega (arith, sound.1, length-map (map view xs) key_of, length-map xs view) in
      let goes : first_answer f (place + 1) (map view (drop (place + 1) xs)) ≡ rest_from view (first_answer f) None xs next =
      rest-goes view key_of key (first_answer f) None (λ m. refl) skips xs place next sound.2 e in
      record {
        place = record { from = place + 1; found = e ∙ ap (λ k. key_from (map key_of (map view xs)) k (place + 1)) (sym (one (get_or (map key_of (map view xs)) place []) sound.2)) };
        rest = walk.rest ∙ (rest-here view (first_answer f) None xs place x low is ∙ (ap (λ o. or_else o (first_answer f (place + 1) (map view (drop (place + 1) xs)))) none ∙ goes));
      }
    where
      one : (other : List ℕ) → bytes_eq key other ≡ true → key ≡ other
      one other e = (bytes_eq-Decides key other).0 e

-- the place is one of the list
pub walk-place : {A B C : Type 0} (view : A → B) (f : ℕ → B → Option C) (key_of : B → List ℕ) (key : List ℕ) (xs : List A) (place : ℕ) → IsWalk view f key_of key xs (Some place) → place < length xs
walk-place view f key_of key xs place walk =
    let sound = key-sound (map key_of (map view xs)) key walk.place.from place walk.place.found in
    omega (arith, sound.1, length-map (map view xs) key_of, length-map xs view)

-- the element at the place answers
pub walk-here : {A B C : Type 0} (view : A → B) (f : ℕ → B → Option C) (key_of : B → List ℕ) (key : List ℕ) (xs : List A) (place : ℕ) (x : A) (y : C) → IsWalk view f key_of key xs (Some place) →
    x ≡ get_or xs place x →
    f place (view x) ≡ Some y → Some y ≡ first_answer f 0 (map view xs)
walk-here view f key_of key xs place x y walk is some =
    let low : place < length xs = walk-place view f key_of key xs place walk in
    sym (walk.rest ∙ (rest-here view (first_answer f) None xs place x low is ∙ ap (λ o. or_else o (first_answer f (place + 1) (map view (drop (place + 1) xs)))) some))

-- fewer places are left
pub walk-smaller : {A B : Type 0} (view : A → B) (key_of : B → List ℕ) (key : List ℕ) (xs : List A) (place : ℕ) (next : Option ℕ) → place < length xs →
    next ≡ key_from (map key_of (map view xs)) key (place + 1) → places_left (length xs) next < places_left (length xs) (Some place)
walk-smaller view key_of key xs place next low e =
    let size : length (map key_of (map view xs)) ≡ length xs = length-map (map view xs) key_of ∙ length-map xs view in
    let inside : place < length (map key_of (map view xs)) = omega (arith, size) in
    subst (λ n. places_left n next < places_left n (Some place)) size (left-smaller (map key_of (map view xs)) key place next inside e)
