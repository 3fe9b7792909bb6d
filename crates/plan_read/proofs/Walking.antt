-- Bits that are added at the places of a key.
use Rattle.std.proofs.Common.{◌≡◌, ℕ, ◌+◌, ◌<◌, Bool, true, false, List, [], ◌∷◌, ◌++◌, length, map, get_or, drop, Option, Some, None, refl, ap, sym, ◌∙◌, subst, arith, append_assoc, append-nil}
use Rattle.std.specs.Str.{bytes_eq}
use Rattle.std.proofs.lemmas.List.{length-map}
use Rattle.std.proofs.lemmas.Slice.Eq.{bytes_eq-Decides}
use Rattle.vf_base.specs.Base.{WatchedBit}
use Rattle.v_design.specs.Designs.{FlatObject, NameJoined}
use Rattle.vf_base.specs.Lists.{joined, map_numbered}
use Rattle.v_design.specs.Trees.{Piece}
use Rattle.v_design.specs.declared.logic.ObjectKind.{ObjectKind}
use Rattle.v_design.specs.declared.logic.ObjectKind.TheVariants.{Var, Word, Net}
use Rattle.std.specs.Option.{option_and_then}
use Rattle.fault_list.specs.Spelled.{bit_spelled, piece_bit, place_spelled}
use Rattle.key_index.specs.Places.{key_from}
use Rattle.plan_read.specs.Stems.{stem}
use Rattle.plan_read.specs.StemLaws.{name-apart, bit-apart, place-apart}
use Rattle.key_index.specs.Walks.{rest_from, rest-begins, rest-goes, rest-here, key-sound, places_left, left-smaller, IsPlaceOf}
use Rattle.plan_read.specs.Watched.{object_bits, pieces_bits, bit_if, held_if, all_or_one, bits_by_kind, bits_in_object, bits_in_joined}

-- all bits that elements give, each by its number
abbrev pub bits_from : {B : Type 0} → (ℕ → B → List WatchedBit) → ℕ → List B → List WatchedBit
bits_from f n ys = joined (map_numbered f n ys)

-- what was added, and what is to be added from the place of the key on
pub record IsBitsWalk {A B : Type 0} (view : A → B) (f : ℕ → B → List WatchedBit) (key_of : B → List ℕ) (key : List ℕ) (xs : List A) (base bits : List WatchedBit) (at : Option ℕ) : Type 0 where
  pub place : IsPlaceOf (map key_of (map view xs)) key at
  pub rest : bits ++ rest_from view (bits_from f) [] xs at ≡ base ++ joined (map_numbered f 0 (map view xs))

module _ {A B : Type 0} (view : A → B) (f : ℕ → B → List WatchedBit) (key_of : B → List ℕ) (key : List ℕ) (apart : (m : ℕ) (y : B) → bytes_eq key (key_of y) ≡ false → f m y ≡ []) where
  skips : (m : ℕ) (y : B) (rest : List B) → bytes_eq key (key_of y) ≡ false → bits_from f m (y ∷ rest) ≡ bits_from f (m + 1) rest
  skips m y rest other = ap (λ l. l ++ bits_from f (m + 1) rest) (apart m y other)

  pub bits-begin : (xs : List A) (base : List WatchedBit) (at : Option ℕ) → at ≡ key_from (map key_of (map view xs)) key 0 → IsBitsWalk view f key_of key xs base base at
  bits-begin xs base at e = record {
    place = record { from = 0; found = e };
    rest = ap (λ l. base ++ l) (sym (rest-begins view key_of key (bits_from f) [] (λ m. refl) skips xs at e));
  }

  pub bits-go : (xs : List A) (base bits more : List WatchedBit) (place : ℕ) (x : A) (next : Option ℕ) → IsBitsWalk view f key_of key xs base bits (Some place) → x ≡ get_or xs place x →
      more ≡ bits ++ f place (view x) → next ≡ key_from (map key_of (map view xs)) (get_or (map key_of (map view xs)) place []) (place + 1) → IsBitsWalk view f key_of key xs base more next
  bits-go xs base bits more place x next walk is added e =
      let sound = key-sound (map key_of (map view xs)) key walk.place.from place walk.place.found in
      let low : place < length xs = omega (arith, sound.1, length-map (map view xs) key_of, length-map xs view) in
      let goes : bits_from f (place + 1) (map view (drop (place + 1) xs)) ≡ rest_from view (bits_from f) [] xs next =
      rest-goes view key_of key (bits_from f) [] (λ m. refl) skips xs place next sound.2 e in
      record {
        place = record { from = place + 1; found = e ∙ ap (λ k. key_from (map key_of (map view xs)) k (place + 1)) (sym (one (get_or (map key_of (map view xs)) place []) sound.2)) };
        rest =
            ap (λ l. l ++ rest_from view (bits_from f) [] xs next) added
            ∙ (append_assoc bits (f place (view x)) (rest_from view (bits_from f) [] xs next)
            ∙ (ap (λ l. bits ++ (f place (view x) ++ l)) (sym goes)
            ∙ (ap (λ l. bits ++ l) (sym (rest-here view (bits_from f) [] xs place x low is)) ∙ walk.rest)));
      }
    where
      one : (other : List ℕ) → bytes_eq key other ≡ true → key ≡ other
      one other e = (bytes_eq-Decides key other).0 e

pub bits-place : {A B : Type 0} (view : A → B) (f : ℕ → B → List WatchedBit) (key_of : B → List ℕ) (key : List ℕ) (xs : List A) (base bits : List WatchedBit) (place : ℕ) →
    IsBitsWalk view f key_of key xs base bits (Some place) → place < length xs
bits-place view f key_of key xs base bits place walk =
    let sound = key-sound (map key_of (map view xs)) key walk.place.from place walk.place.found in
    omega (arith, sound.1, length-map (map view xs) key_of, length-map xs view)

pub bits-end : {A B : Type 0} (view : A → B) (f : ℕ → B → List WatchedBit) (key_of : B → List ℕ) (key : List ℕ) (xs : List A) (base bits : List WatchedBit) →
    IsBitsWalk view f key_of key xs base bits None →
    bits ≡ base ++ joined (map_numbered f 0 (map view xs))
bits-end view f key_of key xs base bits walk = sym (append-nil bits) ∙ walk.rest

pub bits-smaller : {A B : Type 0} (view : A → B) (key_of : B → List ℕ) (key : List ℕ) (xs : List A) (place : ℕ) (next : Option ℕ) → place < length xs →
    next ≡ key_from (map key_of (map view xs)) key (place + 1) → places_left (length xs) next < places_left (length xs) (Some place)
bits-smaller view key_of key xs place next low e =
    let size : length (map key_of (map view xs)) ≡ length xs = length-map (map view xs) key_of ∙ length-map xs view in
    let inside : place < length (map key_of (map view xs)) = omega (arith, size) in
    subst (λ n. places_left n next < places_left n (Some place)) size (left-smaller (map key_of (map view xs)) key place next inside e)

-- the numbers play no part
pub numbered-plain : {B : Type 0} (g : B → List WatchedBit) (n : ℕ) (ys : List B) → joined (map_numbered (λ (m : ℕ). g) n ys) ≡ joined (map g ys)
numbered-plain g n [] = refl
numbered-plain g n (y ∷ ys) = ap (λ l. g y ++ l) (numbered-plain g (n + 1) ys)

-- a word spells no bits by a name with another stem
no-kind : (kind : ObjectKind) → bits_by_kind kind [] ≡ []
no-kind Var = refl
no-kind Word = refl
no-kind Net = refl

pub object-none : (word : List ℕ) (number : ℕ) (object : FlatObject) → bytes_eq (stem word) (stem object.name) ≡ false → bits_in_object word number object ≡ []
object-none word number object other =
    ap (λ b. bits_by_kind object.kind (all_or_one b (object_bits number object.width) (bit_if number (bit_spelled object word)))) (name-apart object.name word other)
    ∙ (ap (λ o. bits_by_kind object.kind (bit_if number o)) (bit-apart object word other) ∙ no-kind object.kind)

pub name-none : (word : List ℕ) (name : NameJoined) → bytes_eq (stem word) (stem name.name) ≡ false → bits_in_joined word name ≡ []
name-none word name other =
    ap (λ b. all_or_one b (pieces_bits name.vector.pieces) (held_if (option_and_then (piece_bit name.vector.pieces) (place_spelled name word)))) (name-apart name.name word other)
    ∙ ap (λ o. held_if (option_and_then (piece_bit name.vector.pieces) o)) (place-apart name word other)
