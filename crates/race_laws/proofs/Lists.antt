-- What holds of each element of a list that is made of others.
use Rattle.std.proofs.Common.{◌≡◌, ℕ, zero, suc, ◌+◌, ◌<◌, Bool, true, false, List, [], ◌∷◌, ◌++◌, map, filter, length, refl, ap, subst, arith}
use Rattle.std.specs.Prelude.{Some, slice_get, cond}
use Rattle.vf_base.specs.Lists.{joined, map_numbered, change_at, AllHold}
use Rattle.v_design.specs.States.{found_or}

pub both : {A : Type 0} (P : A → Type 0) (xs ys : List A) → AllHold P xs → AllHold P ys → AllHold P (xs ++ ys)
both P [] ys h i = i
both P (x ∷ xs) ys h i = (h.0, both P xs ys h.1 i)

pub left : {A : Type 0} (P : A → Type 0) (xs ys : List A) → AllHold P (xs ++ ys) → AllHold P xs
left P [] ys h = tt
left P (x ∷ xs) ys h = (h.0, left P xs ys h.1)

pub right : {A : Type 0} (P : A → Type 0) (xs ys : List A) → AllHold P (xs ++ ys) → AllHold P ys
right P [] ys h = h
right P (x ∷ xs) ys h = right P xs ys h.1

pub mapped : {A B : Type 0} (P : B → Type 0) (f : A → B) (xs : List A) → ((x : A) → P (f x)) → AllHold P (map f xs)
mapped P f [] h = tt
mapped P f (x ∷ xs) h = (h x, mapped P f xs h)

pub mapped-each : {A B : Type 0} (Q : A → Type 0) (P : B → Type 0) (f : A → B) (xs : List A) → AllHold Q xs → ((x : A) → Q x → P (f x)) → AllHold P (map f xs)
mapped-each Q P f [] h k = tt
mapped-each Q P f (x ∷ xs) h k = (k x h.0, mapped-each Q P f xs h.1 k)

pub filtered : {A : Type 0} (P : A → Type 0) (test : A → Bool) (xs : List A) → AllHold P xs → AllHold P (filter test xs)
filtered P test [] h = tt
filtered P test (x ∷ xs) h = go (test x) (filtered P test xs h.1)
  where
    go : (b : Bool) → AllHold P (filter test xs) → AllHold P (cond b (x ∷ filter test xs) (filter test xs))
    go true i = (h.0, i)
    go false i = i

pub joined-each : {A B : Type 0} (Q : A → Type 0) (P : B → Type 0) (f : A → List B) (xs : List A) → AllHold Q xs → ((x : A) → Q x → AllHold P (f x)) → AllHold P (joined (map f xs))
joined-each Q P f [] h k = tt
joined-each Q P f (x ∷ xs) h k = both P (f x) (joined (map f xs)) (k x h.0) (joined-each Q P f xs h.1 k)

-- each number is below the end
pub joined-numbered : {A B : Type 0} (P : B → Type 0) (f : ℕ → A → List B) (start end : ℕ) (xs : List A) → start + length xs ≡ end → ((n : ℕ) (x : A) → n < end → AllHold P (f n x)) →
    AllHold P (joined (map_numbered f start xs))
joined-numbered P f start end [] e k = tt
joined-numbered P f start end (x ∷ xs) e k =
    both P (f start x) (joined (map_numbered f (start + 1) xs)) (k start x (omega (arith, e))) (joined-numbered P f (start + 1) end xs (omega (arith, e)) k)

pub joined-numbered-each : {A B : Type 0} (Q : A → Type 0) (P : B → Type 0) (f : ℕ → A → List B) (start : ℕ) (xs : List A) → AllHold Q xs →
    ((n : ℕ) (x : A) → Q x → AllHold P (f n x)) → AllHold P (joined (map_numbered f start xs))
joined-numbered-each Q P f start [] h k = tt
joined-numbered-each Q P f start (x ∷ xs) h k = both P (f start x) (joined (map_numbered f (start + 1) xs)) (k start x h.0) (joined-numbered-each Q P f (start + 1) xs h.1 k)

pub at_place : {A : Type 0} (P : A → Type 0) (xs : List A) → AllHold P xs → (n : ℕ) (x : A) → slice_get xs n ≡ Some x → P x
at_place P [] h n x e = cc
at_place P (y ∷ xs) h zero x e = subst P (ap (found_or y) e) h.0
at_place P (y ∷ xs) h (suc n) x e = at_place P xs h.1 n x e

pub length-changed : {A : Type 0} (xs : List A) (place : ℕ) (f : A → A) → length (change_at xs place f) ≡ length xs
length-changed [] place f = refl
length-changed (x ∷ xs) zero f = refl
length-changed (x ∷ xs) (suc place) f = ap suc (length-changed xs place f)
