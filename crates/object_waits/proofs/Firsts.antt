-- A list into which objects are put has each once, in the order of first occurrence.
use Rattle.std.proofs.Common.{◌≡◌, ◌≤◌, ℕ, map, drop, length, Bool, true, false, cond, ◌||◌, List, [], ◌∷◌, ◌++◌, refl, sym, ap, ap₂, ◌∙◌, nat_eq}
use Rattle.std.specs.List.{list_any}
use Rattle.std.proofs.lemmas.Bool.{eq-eqb, eqb-true}
use Rattle.std.proofs.lemmas.List.{append_assoc, drop_all}
use Rattle.vf_base.specs.declared.ids.ObjectId.{ObjectId}
use Rattle.vf_base.specs.Base.{object_number}
use Rattle.vf_base.specs.Lists.{has, fresh_only, without_repeats}
use Rattle.object_waits.specs.ObjectLists.{with_object, with_objects}

-- two tests that hold together are one
same-tests : (x y : Bool) → (x ≡ true → y ≡ true) → (y ≡ true → x ≡ true) → x ≡ y
same-tests true true f g = refl
same-tests true false f g = sym (f refl)
same-tests false true f g = g refl
same-tests false false f g = refl

turned : (a b : ℕ) → nat_eq a b ≡ nat_eq b a
turned a b = same-tests (nat_eq a b) (nat_eq b a) (λ h. eq-eqb b a (sym (eqb-true a b h))) (λ h. eq-eqb a b (sym (eqb-true b a h)))

-- an object is among keys where the test finds it
pub has-keys : (object : ℕ) (keys : List ℕ) → list_any (λ key. nat_eq object key) keys ≡ has keys object
has-keys object [] = refl
has-keys object (key ∷ keys) = ap₂ (λ b c. b || c) (turned object key) (has-keys object keys)

-- the keys after an object is put in
pub put-keys : (object : ℕ) (keys : List ℕ) → cond (list_any (λ key. nat_eq object key) keys) keys (keys ++ object ∷ []) ≡ with_object keys object
put-keys object keys = ap (λ b. cond b keys (keys ++ object ∷ [])) (has-keys object keys)

-- what a list has with one more behind it
or-false : (a b : Bool) → a || (b || false) ≡ b || a
or-false true true = refl
or-false true false = refl
or-false false true = refl
or-false false false = refl

or-turned : (a b c d : Bool) → d ≡ b || c → a || d ≡ b || (a || c)
or-turned true true c d e = refl
or-turned true false c d e = refl
or-turned false true c d e = e
or-turned false false c d e = e

has-behind : (list : List ℕ) (x y : ℕ) → has (list ++ x ∷ []) y ≡ (nat_eq x y || has list y)
has-behind [] x y = refl
has-behind (z ∷ list) x y = or-turned (nat_eq z y) (nat_eq x y) (has list y) (has (list ++ x ∷ []) y) (has-behind list x y)

-- an object that is there is as good as seen once more
seen-again : (seen : List ℕ) (x y : ℕ) → has seen x ≡ true → has seen y ≡ has (x ∷ seen) y
seen-again seen x y h = by-equal (nat_eq x y) refl
  where
    by-equal : (b : Bool) → nat_eq x y ≡ b → has seen y ≡ (b || has seen y)
    by-equal true e = sym (ap (has seen) (eqb-true x y e)) ∙ h
    by-equal false e = refl

-- what is put in stands behind, without repeats
pub behind-seen : (list seen xs : List ℕ) → ((y : ℕ) → has list y ≡ has seen y) → with_objects list xs ≡ list ++ without_repeats seen xs
behind-seen list seen [] same = sym (append-nil list)
  where
    append-nil : (l : List ℕ) → l ++ [] ≡ l
    append-nil [] = refl
    append-nil (z ∷ l) = ap (λ t. z ∷ t) (append-nil l)
behind-seen list seen (x ∷ xs) same = by-test (λ l s e. behind-seen l s xs e) (has list x) refl
  where
    there : has list x ≡ true → has seen x ≡ true
    there h = sym (same x) ∙ h

    by-test : ((l s : List ℕ) → ((y : ℕ) → has l y ≡ has s y) → with_objects l xs ≡ l ++ without_repeats s xs) → (b : Bool) → has list x ≡ b →
        with_objects (cond b list (list ++ x ∷ [])) xs ≡ list ++ fresh_only (has seen x) x (without_repeats (x ∷ seen) xs)
    by-test rest true h =
        rest list (x ∷ seen) (λ y. same y ∙ seen-again seen x y (there h))
        ∙ ap (λ b. list ++ fresh_only b x (without_repeats (x ∷ seen) xs)) (sym (there h))
    by-test rest false h =
        rest (list ++ x ∷ []) (x ∷ seen) (λ y. has-behind list x y ∙ ap (λ b. nat_eq x y || b) (same y))
        ∙ append_assoc list (x ∷ []) (without_repeats (x ∷ seen) xs)
        ∙ ap (λ b. list ++ fresh_only b x (without_repeats (x ∷ seen) xs)) (sym (sym (same x) ∙ h))

-- once the last object is put in
pub put_done : (objects : List ObjectId) (i : ℕ) (list once : List ℕ) → length objects ≤ i → with_objects list (map object_number (drop i objects)) ≡ with_objects [] (map object_number objects) →
    once ≡ list → once ≡ without_repeats [] (map object_number objects)
put_done objects i list once past had is =
    is ∙ ap (λ l. with_objects list (map object_number l)) (sym (drop_all i objects past)) ∙ had ∙ behind-seen [] [] (map object_number objects) (λ y. refl)
