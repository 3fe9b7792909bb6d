-- Going through the items under a key.
use Rattle.std.proofs.Common.{◌≡◌, ℕ, ◌+◌, ◌<◌, Bool, true, false, List, [], ◌∷◌, ◌++◌, length, map, get_or, drop, Option, Some, None, refl, ap, sym, ◌∙◌, subst, arith, append_assoc, append-nil}
use Rattle.std.specs.Str.{bytes_eq}
use Rattle.std.proofs.lemmas.List.{length-map, get_or-map}
use Rattle.std.proofs.lemmas.Slice.Eq.{bytes_eq-Decides}
use Rattle.key_index.specs.Places.{key_from}
use Rattle.key_index.specs.Groups.{keyed_of, key_of, item_if, items_under, first_of, first_under}
use Rattle.key_index.specs.Walks.{rest_from, rest-begins, rest-goes, rest-here, key-sound, places_left, left-smaller, IsPlaceOf}
use Rattle.key_index.specs.declared.grouped.Keyed.{Keyed}

-- the items under a key, whatever the number of the first item
abbrev pub under : {T : Type 0} → List ℕ → ℕ → List (List ℕ × T) → List T
under key n ps = items_under ps key

skips : {T : Type 0} (key : List ℕ) (m : ℕ) (y : List ℕ × T) (rest : List (List ℕ × T)) → bytes_eq key (key_of y) ≡ false → under key m (y ∷ rest) ≡ under key (m + 1) rest
skips key m y rest other = ap (λ b. item_if b y.1 (items_under rest key)) other

-- the keys of some items
abbrev pub all_keys : {T : Type 0} → List (Keyed T) → List (List ℕ)
all_keys items = map key_of (map keyed_of items)

-- what was found, with what stands from a place on, are the items under the key
pub record AreFound {T : Type 0} (items : List (Keyed T)) (key : List ℕ) (found : List T) (at : Option ℕ) : Type 0 where
  pub place : IsPlaceOf (all_keys items) key at
  pub rest : found ++ rest_from keyed_of (under key) [] items at ≡ items_under (map keyed_of items) key

begins : {T : Type 0} (items : List (Keyed T)) (key : List ℕ) (at : Option ℕ) → at ≡ key_from (all_keys items) key 0 → items_under (map keyed_of items) key ≡ rest_from keyed_of (under key) [] items at
begins {T} items key at e = rest-begins keyed_of key_of key (under {T = T} key) [] (λ m. refl) (skips key) items at e

pub found-begins : {T : Type 0} (items : List (Keyed T)) (key : List ℕ) (found : List T) (at : Option ℕ) → found ≡ [] → at ≡ key_from (all_keys items) key 0 → AreFound items key found at
found-begins items key found at none e = record {
  place = record { from = 0; found = e };
  rest = ap (λ f. f ++ rest_from keyed_of (under key) [] items at) none ∙ sym (begins items key at e);
}

pub long-keys : {T : Type 0} (items : List (Keyed T)) → length (all_keys items) ≡ length items
long-keys items = length-map (map keyed_of items) key_of ∙ length-map items keyed_of

-- a place of a key is one of the list
pub place-low : {T : Type 0} (items : List (Keyed T)) (key : List ℕ) (from place : ℕ) → Some place ≡ key_from (all_keys items) key from → place < length items
place-low items key from place e =
    let sound = key-sound (all_keys items) key from place e in
    omega (arith, sound.1, long-keys items)

pub found-low : {T : Type 0} (items : List (Keyed T)) (key : List ℕ) (found : List T) (place : ℕ) → AreFound items key found (Some place) → place < length items
found-low items key found place walk = place-low items key walk.place.from place walk.place.found

-- the key at a place
key-at : {T : Type 0} (items : List (Keyed T)) (place : ℕ) (x : Keyed T) → place < length items → x ≡ get_or items place x → get_or (all_keys items) place [] ≡ x.key.now
key-at items place x low is =
    let size : length (map keyed_of items) ≡ length items = length-map items keyed_of in
    let inside : place < length (map keyed_of items) = omega (arith, size) in
    get_or-map key_of (map keyed_of items) place (keyed_of x) [] inside ∙ ap key_of (get_or-map keyed_of items place x (keyed_of x) low) ∙ ap (λ k. k.key.now) (sym is)

-- the item at a place of the key stands in front of those behind it
item-here : {T : Type 0} (items : List (Keyed T)) (key : List ℕ) (from place : ℕ) (x : Keyed T) → Some place ≡ key_from (all_keys items) key from → x ≡ get_or items place x
    → rest_from keyed_of (under key) [] items (Some place) ≡ x.item ∷ items_under (map keyed_of (drop (place + 1) items)) key
item-here {T} items key from place x e is =
    let low = place-low items key from place e in
    let sound = key-sound (all_keys items) key from place e in
    let same : bytes_eq key x.key.now ≡ true = sym (ap (bytes_eq key) (key-at items place x low is)) ∙ sound.2 in
    rest-here keyed_of (under {T = T} key) [] items place x low is ∙ ap (λ b. item_if b x.item (items_under (map keyed_of (drop (place + 1) items)) key)) same

pub found-goes : {T : Type 0} (items : List (Keyed T)) (key : List ℕ) (found more : List T) (place : ℕ) (x : Keyed T) (next : Option ℕ) → AreFound items key found (Some place) →
    x ≡ get_or items place x
    → more ≡ found ++ x.item ∷ [] → next ≡ key_from (all_keys items) (get_or (all_keys items) place []) (place + 1) → AreFound items key more next
found-goes {T} items key found more place x next walk is pushed e =
    let sound = key-sound (all_keys items) key walk.place.from place walk.place.found in
    let goes : under key (place + 1) (map keyed_of (drop (place + 1) items)) ≡ rest_from keyed_of (under key) [] items next =
    rest-goes keyed_of key_of key (under {T = T} key) [] (λ m. refl) (skips key) items place next sound.2 e in
    let one : key ≡ get_or (all_keys items) place [] = (bytes_eq-Decides key (get_or (all_keys items) place [])).0 sound.2 in
    record {
      place = record { from = place + 1; found = e ∙ ap (λ k. key_from (all_keys items) k (place + 1)) (sym one) };
      rest =
          ap (λ m. m ++ rest_from keyed_of (under key) [] items next) pushed
          ∙ append_assoc found (x.item ∷ []) (rest_from keyed_of (under key) [] items next)
          ∙ ap (λ r. found ++ x.item ∷ r) (sym goes)
          ∙ ap (λ r. found ++ r) (sym (item-here items key walk.place.from place x walk.place.found is))
          ∙ walk.rest;
    }

-- at the end all are found
pub found_all : {T : Type 0} (items : List (Keyed T)) (key : List ℕ) (found : List T) (at : Option ℕ) → AreFound items key found at → at ≡ None → found ≡ items_under (map keyed_of items) key
found_all items key found at walk none = sym (append-nil found) ∙ ap (λ o. found ++ rest_from keyed_of (under key) [] items o) (sym none) ∙ walk.rest

-- fewer places are left
pub found-smaller : {T : Type 0} (items : List (Keyed T)) (place : ℕ) (next : Option ℕ) → place < length items → next ≡ key_from (all_keys items) (get_or (all_keys items) place []) (place + 1)
    → places_left (length items) next < places_left (length items) (Some place)
found-smaller items place next low e =
    let size : length (all_keys items) ≡ length items = long-keys items in
    let inside : place < length (all_keys items) = omega (arith, size) in
    subst (λ n. places_left n next < places_left n (Some place)) size (left-smaller (all_keys items) (get_or (all_keys items) place []) place next inside e)

-- the first item
pub first-none : {T : Type 0} (items : List (Keyed T)) (key : List ℕ) → None ≡ key_from (all_keys items) key 0 → None ≡ first_under (map keyed_of items) key
first-none items key e = sym (ap first_of (begins items key None e))

pub first-some : {T : Type 0} (items : List (Keyed T)) (key : List ℕ) (place : ℕ) (x : Keyed T) → Some place ≡ key_from (all_keys items) key 0 → x ≡ get_or items place x →
    Some x.item ≡ first_under (map keyed_of items) key
first-some items key place x e is = sym (ap first_of (begins items key (Some place) e ∙ item-here items key 0 place x e is))
