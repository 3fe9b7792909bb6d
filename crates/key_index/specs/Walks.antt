-- Going through the places of a key (nothing of the language).
use Rattle.std.proofs.Common.{◌≡◌, ℕ, zero, suc, ◌+◌, ◌-◌, ◌<◌, ◌≤◌, Bool, true, false, cond, List, [], ◌∷◌, ◌++◌, length, map, get_or, drop, drop-cons, Option, Some, None, refl, ap, sym, ◌∙◌}
use Rattle.std.proofs.Common.{subst, arith}
use Rattle.std.specs.Str.{bytes_eq}
use Rattle.std.proofs.lemmas.List.{get_or-drop, drop-map, length-drop}
use Rattle.std.proofs.lemmas.Slice.Eq.{bytes_eq-Decides}
use Rattle.vf_base.specs.Lists.{first_place, earlier_place}
use Rattle.key_index.specs.Places.{later, key_from}

-- Places of keys

first-is : (o : Option ℕ) (p : ℕ) → earlier_place true o ≡ Some p → 0 ≡ p
first-is o p h = cc

-- the place of a later element
stands-later : (test : List ℕ → Bool) (y : List ℕ) (ys : List (List ℕ)) (p : ℕ) → ((q : ℕ) → first_place test ys ≡ Some q → (q < length ys) × (test (get_or ys q []) ≡ true)) →
    (o : Option ℕ) → first_place test ys ≡ o → earlier_place false o ≡ Some p → (p < length (y ∷ ys)) × (test (get_or (y ∷ ys) p []) ≡ true)
stands-later test y ys p rest None is h = absurd (cc)
stands-later test y ys p rest (Some q) is h =
    let r = rest q is in
    let one : q + 1 ≡ p = cc in
    let next : suc q ≡ p = omega (arith, one) in
    subst (λ n. (n < length (y ∷ ys)) × (test (get_or (y ∷ ys) n []) ≡ true)) next (omega (arith, r.0), r.1)

test-here : (test : List ℕ → Bool) (ys : List (List ℕ)) (p : ℕ) → first_place test ys ≡ Some p → (p < length ys) × (test (get_or ys p []) ≡ true)
test-here test [] p e = absurd (cc)
test-here test (y ∷ ys) p e =
    elim (test y) as (λ b. test y ≡ b → earlier_place b (first_place test ys) ≡ Some p → (p < length (y ∷ ys)) × (test (get_or (y ∷ ys) p []) ≡ true)) [
      | true ↦ λ is h. subst (λ n. (n < length (y ∷ ys)) × (test (get_or (y ∷ ys) n []) ≡ true)) (first-is (first_place test ys) p h) (omega arith, is)
      | false ↦ λ is h. stands-later test y ys p (λ q at. test-here test ys q at) (first_place test ys) refl h
    ] refl e

-- the place of a key is one of the list, from the given one on, and the key stands there
pub key-sound : (keys : List (List ℕ)) (key : List ℕ) (from place : ℕ) → Some place ≡ key_from keys key from → (from ≤ place) × (place < length keys) × (bytes_eq key (get_or keys place []) ≡ true)
key-sound keys key from place e = by (first_place (bytes_eq key) (drop from keys)) refl e
  where
    by : (o : Option ℕ) → first_place (bytes_eq key) (drop from keys) ≡ o → Some place ≡ later from o → (from ≤ place) × (place < length keys) × (bytes_eq key (get_or keys place []) ≡ true)
    by None is h = absurd (cc)
    by (Some p) is h =
        let at : place ≡ from + p = cc in
        let r = test-here (bytes_eq key) (drop from keys) p is in
        let low : p < length (drop from keys) = r.0 in
        let size : length (drop from keys) ≡ length keys - from = length-drop from keys in (
          omega arith,
          omega arith,
          subst (λ n. bytes_eq key (get_or keys n []) ≡ true) (sym at) (sym (ap (bytes_eq key) (get_or-drop from keys p [])) ∙ r.1),
        )

-- how many places are left
abbrev pub places_left : ℕ → Option ℕ → ℕ
places_left count None = 0
places_left count (Some place) = count - place

pub left-smaller : (keys : List (List ℕ)) (key : List ℕ) (place : ℕ) (next : Option ℕ) → place < length keys → next ≡ key_from keys key (place + 1) →
    places_left (length keys) next < places_left (length keys) (Some place)
left-smaller keys key place None low e = omega arith
left-smaller keys key place (Some more) low e = let r = key-sound keys key (place + 1) more e in omega (arith, r.0, r.1)

drop-more : {A : Type 0} (n k : ℕ) (xs : List A) → drop k (drop n xs) ≡ drop (n + k) xs
drop-more zero k xs = ap (λ m. drop m xs) (let e : k ≡ 0 + k = omega arith in e)
drop-more (suc n) zero [] = ap (λ m. drop m []) (let e : suc n ≡ suc n + 0 = omega arith in e)
drop-more {A} (suc n) (suc k) [] = sym (none (suc n + suc k))
  where
    none : (m : ℕ) → drop {A = A} m [] ≡ []
    none zero = refl
    none (suc m) = refl
drop-more (suc n) k (x ∷ xs) = drop-more n k xs ∙ ap (λ m. drop m (x ∷ xs)) (let e : suc (n + k) ≡ suc n + k = omega arith in e)

-- What a list gives from the next place of a key on, where elements with other keys give nothing

-- what is given from a place on, nothing where there is no place
abbrev pub rest_from : {A B R : Type 0} → (A → B) → (ℕ → List B → R) → R → List A → Option ℕ → R
rest_from view whole none xs None = none
rest_from view whole none xs (Some place) = whole place (map view (drop place xs))

-- the same, the place counted from where a list begins
abbrev placed : {B R : Type 0} → (ℕ → List B → R) → R → ℕ → List B → Option ℕ → R
placed whole none n ys None = none
placed whole none n ys (Some place) = whole (n + place) (drop place ys)

placed-next : {B R : Type 0} (whole : ℕ → List B → R) (none : R) (n : ℕ) (y : B) (ys : List B) (o : Option ℕ) → placed whole none (n + 1) ys o ≡ placed whole none n (y ∷ ys) (earlier_place false o)
placed-next whole none n y ys None = refl
placed-next whole none n y ys (Some p) =
    let on : n + 1 + p ≡ n + (p + 1) = omega arith in
    let next : suc p ≡ p + 1 = omega arith in
    ap (λ k. whole k (drop p ys)) on ∙ ap (λ k. whole (n + (p + 1)) (drop k (y ∷ ys))) next

module _ {A B R : Type 0} (view : A → B) (key_of : B → List ℕ) (key : List ℕ) (whole : ℕ → List B → R) (none : R)
    (empty : (m : ℕ) → whole m [] ≡ none) (skips : (m : ℕ) (y : B) (rest : List B) → bytes_eq key (key_of y) ≡ false → whole m (y ∷ rest) ≡ whole (m + 1) rest) where
  rest-placed : (n : ℕ) (ys : List B) → whole n ys ≡ placed whole none n ys (first_place (bytes_eq key) (map key_of ys))
  rest-placed n [] = empty n
  rest-placed n (y ∷ ys) =
      elim (bytes_eq key (key_of y)) as (λ b. bytes_eq key (key_of y) ≡ b → whole n (y ∷ ys) ≡ placed whole none n (y ∷ ys) (earlier_place b (first_place (bytes_eq key) (map key_of ys)))) [
        | true ↦ λ is. ap (λ k. whole k (y ∷ ys)) (let e : n ≡ n + 0 = omega arith in e)
        | false ↦ λ is. skips n y ys is ∙ (rest-placed (n + 1) ys ∙ placed-next whole none n y ys (first_place (bytes_eq key) (map key_of ys)))
      ] refl

  placed-rest : (xs : List A) (from : ℕ) (o : Option ℕ) → placed whole none from (map view (drop from xs)) o ≡ rest_from view whole none xs (later from o)
  placed-rest xs from None = refl
  placed-rest xs from (Some p) = ap (whole (from + p)) (drop-map view p (drop from xs) ∙ ap (map view) (drop-more from p xs))

  -- elements before the key's next place give nothing
  pub rest-jumps : (xs : List A) (from : ℕ) → whole from (map view (drop from xs)) ≡ rest_from view whole none xs (key_from (map key_of (map view xs)) key from)
  rest-jumps xs from =
      let keys : map key_of (map view (drop from xs)) ≡ drop from (map key_of (map view xs)) = sym (drop-map key_of from (map view xs) ∙ ap (map key_of) (drop-map view from xs)) in
      rest-placed from (map view (drop from xs)) ∙ (ap (λ l. placed whole none from (map view (drop from xs)) (first_place (bytes_eq key) l)) keys
      ∙ placed-rest xs from (first_place (bytes_eq key) (drop from (map key_of (map view xs)))))

  -- at the beginning
  pub rest-begins : (xs : List A) (at : Option ℕ) → at ≡ key_from (map key_of (map view xs)) key 0 → whole 0 (map view xs) ≡ rest_from view whole none xs at
  rest-begins xs at e = rest-jumps xs 0 ∙ ap (rest_from view whole none xs) (sym e)

  -- after an element of the key
  pub rest-goes : (xs : List A) (place : ℕ) (next : Option ℕ) → bytes_eq key (get_or (map key_of (map view xs)) place []) ≡ true →
      next ≡ key_from (map key_of (map view xs)) (get_or (map key_of (map view xs)) place []) (place + 1) → whole (place + 1) (map view (drop (place + 1) xs)) ≡ rest_from view whole none xs next
  rest-goes xs place next same e =
      let one : key ≡ get_or (map key_of (map view xs)) place [] = (bytes_eq-Decides key (get_or (map key_of (map view xs)) place [])).0 same in
      rest-jumps xs (place + 1) ∙ ap (rest_from view whole none xs) (ap (λ k. key_from (map key_of (map view xs)) k (place + 1)) one ∙ sym e)

-- the element at a place, and the rest
pub rest-here : {A B R : Type 0} (view : A → B) (whole : ℕ → List B → R) (none : R) (xs : List A) (place : ℕ) (x : A) → place < length xs → x ≡ get_or xs place x →
    rest_from view whole none xs (Some place) ≡ whole place (view x ∷ map view (drop (place + 1) xs))
rest-here view whole none xs place x low is =
    ap (λ l. whole place (map view l)) (drop-cons xs place x low) ∙ (ap (λ y. whole place (view y ∷ map view (drop (suc place) xs))) (sym is)
    ∙ ap (λ k. whole place (view x ∷ map view (drop k xs))) (let e : suc place ≡ place + 1 = omega arith in e))

-- a place is one of a key's
pub record IsPlaceOf (keys : List (List ℕ)) (key : List ℕ) (at : Option ℕ) : Type 0 where
  pub from : ℕ
  pub found : at ≡ key_from keys key from
