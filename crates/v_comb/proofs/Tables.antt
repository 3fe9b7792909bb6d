-- Names in a table are those that its keys refer to.
use Rattle.std.proofs.Common.{◌≡◌, ℕ, ◌+◌, suc, Bool, true, false, cond, ◌&&◌, ◌||◌, not, List, [], ◌∷◌, ◌++◌, map, length, Option, Some, None, option_map, refl, sym, ap, ap₂, ◌∙◌, arith, nat_eq}
use Rattle.std.proofs.Common.{nat_lt}
use Rattle.std.specs.Borrow.{Bor}
use Rattle.std.specs.Str.{bytes_eq}
use Rattle.std.specs.List.{list_any, list_all, position, position_or_len}
use Rattle.std.proofs.lemmas.Bool.{ltb-true, ltb-false, lt-ltb, le-ltb}
use Rattle.std.proofs.lemmas.List.{map-append}
use Rattle.std.proofs.lemmas.Slice.Eq.{bytes_eq-Decides}
use Rattle.v_tree.specs.Trees.{Identifier, same_name, has_name}
use Rattle.v_comb.specs.NameTables.{with_name, place_of_name}

-- two tests that hold together are one
pub same-tests : (x y : Bool) → (x ≡ true → y ≡ true) → (y ≡ true → x ≡ true) → x ≡ y
same-tests true true f g = refl
same-tests true false f g = sym (f refl)
same-tests false true f g = g refl
same-tests false false f g = refl

same-pointwise : (a b : Identifier) → same_name a b ≡ bytes_eq a b
same-pointwise [] [] = refl
same-pointwise [] (y ∷ b) = refl
same-pointwise (x ∷ a) [] = refl
same-pointwise (x ∷ a) (y ∷ b) = ap (λ rest. nat_eq x y && rest) (same-pointwise a b)

-- names are the same where they are equal
pub same-equal : (a b : Identifier) → same_name a b ≡ true → a ≡ b
same-equal a b h = (bytes_eq-Decides a b).0 (sym (same-pointwise a b) ∙ h)

pub equal-same : (a b : Identifier) → a ≡ b → same_name a b ≡ true
equal-same a b e = same-pointwise a b ∙ (bytes_eq-Decides a b).1 e

pub same-turned : (a b : Identifier) → same_name a b ≡ same_name b a
same-turned a b = same-tests (same_name a b) (same_name b a) (λ h. equal-same b a (sym (same-equal a b h))) (λ h. equal-same a b (sym (same-equal b a h)))

pub bytes-same : (name key : Identifier) → bytes_eq name key ≡ same_name key name
bytes-same name key = sym (same-pointwise name key) ∙ same-turned name key

-- a name is among those that keys refer to where the test finds it
pub has-keys : (name : Identifier) (keys : List (Bor (List ℕ))) → list_any (λ key. bytes_eq name key.now) keys ≡ has_name (map (λ key. key.now) keys) name
has-keys name [] = refl
has-keys name (key ∷ keys) = ap₂ (λ x y. x || y) (bytes-same name key.now) (has-keys name keys)

put-by : (b : Bool) (keys : List (Bor (List ℕ))) (key : Bor (List ℕ)) → map (λ k. k.now) (cond b keys (keys ++ key ∷ [])) ≡ cond b (map (λ k. k.now) keys) (map (λ k. k.now) keys ++ key.now ∷ [])
put-by true keys key = refl
put-by false keys key = map-append (λ k. k.now) keys (key ∷ [])

-- the names after a key is put in
pub put-names : (keys : List (Bor (List ℕ))) (key : Bor (List ℕ)) → map (λ k. k.now) (cond (list_any (λ k. bytes_eq key.now k.now) keys) keys (keys ++ key ∷ [])) ≡ with_name
    (map (λ k. k.now) keys) key.now
put-names keys key = ap (λ b. map (λ k. k.now) (cond b keys (keys ++ key ∷ []))) (has-keys key.now keys) ∙ put-by (has_name (map (λ k. k.now) keys) key.now) keys key

later-place : (b : Bool) (n m k : ℕ) → nat_lt n m ≡ b → k ≡ m + 1 → cond (nat_lt (1 + n) k) (Some (1 + n)) None ≡ option_map (λ place. place + 1) (cond b (Some n) None)
later-place true n m k e s = rw (lt-ltb (1 + n) k (omega (arith, ltb-true n m e))) (ap (λ (i : ℕ). Some i) (omega arith))
later-place false n m k e s = rw (le-ltb (1 + n) k (omega (arith, ltb-false n m e))) refl

first-place : (b : Bool) (n m k : ℕ) → k ≡ m + 1 → cond (nat_lt (cond (not b) (1 + n) 0) k) (Some (cond (not b) (1 + n) 0)) None ≡ cond b (Some 0)
    (option_map (λ place. place + 1) (cond (nat_lt n m) (Some n) None))
first-place true n m k s = rw (lt-ltb 0 k (omega arith)) refl
first-place false n m k s = later-place (nat_lt n m) n m k refl s

-- the first place is the front one or stands among the rest
pub position-cons : {X : Type 0} (p : X → Bool) (x : X) (xs : List X) → position p (x ∷ xs) ≡ cond (p x) (Some 0) (option_map (λ place. place + 1) (position p xs))
position-cons p x xs = first-place (p x) (position_or_len p xs) (length xs) (length (x ∷ xs)) (omega arith)

-- the place of a name is that of the key that the test finds
pub place-keys : (name : Identifier) (keys : List (Bor (List ℕ))) → position (λ key. bytes_eq name key.now) keys ≡ place_of_name (map (λ key. key.now) keys) name
place-keys name [] = refl
place-keys name (key ∷ keys) =
    position-cons (λ (k : Bor (List ℕ)). bytes_eq name k.now) key keys
    ∙ ap₂ (λ b later. cond b (Some 0) (option_map (λ place. place + 1) later)) (bytes-same name key.now) (place-keys name keys)
