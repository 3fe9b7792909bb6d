-- Items under keys: of two lists, and of an item more (nothing of the language).
use Rattle.std.proofs.Common.{◌≡◌, ℕ, Bool, true, false, ◌&&◌, ◌||◌, List, [], ◌∷◌, ◌++◌, map, refl, sym, ap, ◌∙◌}
use Rattle.std.specs.Prelude.{nat_eq, filter, cond}
use Rattle.std.specs.List.{list_any}
use Rattle.std.specs.Str.{bytes_eq}
use Rattle.std.proofs.lemmas.Slice.Eq.{bytes_eq-Decides}
use Rattle.v_tree.specs.Trees.{Identifier, same_name}
use Rattle.key_index.specs.Groups.{item_if, items_under}

-- Names as keys

same-bytes : (a b : Identifier) → same_name a b ≡ bytes_eq a b
same-bytes [] [] = refl
same-bytes [] (y ∷ b) = refl
same-bytes (x ∷ a) [] = refl
same-bytes (x ∷ a) (y ∷ b) = ap (λ rest. nat_eq x y && rest) (same-bytes a b)

-- two tests that pass together are one
same-tests : (x y : Bool) → (x ≡ true → y ≡ true) → (y ≡ true → x ≡ true) → x ≡ y
same-tests true true f g = refl
same-tests true false f g = sym (f refl)
same-tests false true f g = g refl
same-tests false false f g = refl

-- a key is a name
pub key-name : (key name : List ℕ) → bytes_eq key name ≡ same_name name key
key-name key name =
    same-tests (bytes_eq key name) (bytes_eq name key) (λ h. (bytes_eq-Decides name key).1 (sym ((bytes_eq-Decides key name).0 h)))
    (λ h. (bytes_eq-Decides key name).1 (sym ((bytes_eq-Decides name key).0 h)))
    ∙ sym (same-bytes name key)

-- Lists of items

pub under-append : {T : Type 0} (ps qs : List (List ℕ × T)) (key : List ℕ) → items_under (ps ++ qs) key ≡ items_under ps key ++ items_under qs key
under-append [] qs key = refl
under-append {T} (p ∷ ps) qs key = by_test (bytes_eq key p.0) (under-append ps qs key)
  where
    by_test : (test : Bool) → items_under (ps ++ qs) key ≡ items_under ps key ++ items_under qs key →
        item_if test p.1 (items_under (ps ++ qs) key) ≡ item_if test p.1 (items_under ps key) ++ items_under qs key
    by_test true e = ap (λ l. p.1 ∷ l) e
    by_test false e = e

-- elements with names are found under them
pub under-map : {A T : Type 0} (name : A → Identifier) (item : A → T) (xs : List A) (key : List ℕ) →
    items_under (map (λ x. (name x, item x)) xs) key ≡ map item (filter (λ x. same_name (name x) key) xs)
under-map name item [] key = refl
under-map {A} {T} name item (x ∷ xs) key = ap (λ t. item_if t (item x) (items_under (map (λ y. (name y, item y)) xs) key)) (key-name key (name x))
    ∙ by_test (same_name (name x) key) (under-map name item xs key)
  where
    by_test : (test : Bool) → items_under (map (λ y. (name y, item y)) xs) key ≡ map item (filter (λ y. same_name (name y) key) xs) →
        item_if test (item x) (items_under (map (λ y. (name y, item y)) xs) key) ≡ map item (cond test (x ∷ filter (λ y. same_name (name y) key) xs) (filter (λ y. same_name (name y) key) xs))
    by_test true e = ap (λ l. item x ∷ l) e
    by_test false e = e

-- Tests of lists

pub any-append : {A : Type 0} (test : A → Bool) (xs ys : List A) → list_any test (xs ++ ys) ≡ (list_any test xs || list_any test ys)
any-append test [] ys = refl
any-append {A} test (x ∷ xs) ys = by_test (test x) (any-append test xs ys)
  where
    by_test : (t : Bool) → list_any test (xs ++ ys) ≡ (list_any test xs || list_any test ys) → (t || list_any test (xs ++ ys)) ≡ ((t || list_any test xs) || list_any test ys)
    by_test true e = refl
    by_test false e = e
