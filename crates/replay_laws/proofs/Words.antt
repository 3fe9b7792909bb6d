-- Words on lists and on answers.
use Rattle.std.proofs.Common.{◌≡◌, ℕ, zero, suc, ◌+◌, List, [], ◌∷◌, ◌++◌, map, filter, length, Bool, true, false, ◌&&◌, refl, ap, arith}
use Rattle.std.specs.Prelude.{Option, Some, None, slice_get, cond}
use Rattle.vf_base.specs.Lists.{AllHold, change_at}
use Rattle.v_design.specs.States.{found_or}
use Rattle.v_design.specs.Runs.{then_state, only_if}
use Rattle.cert_laws.specs.Replays.{if_allowed}

pub some-eq : {A : Type 0} (x y : A) → Some x ≡ Some y → x ≡ y
some-eq x y e = ap (found_or x) e

pub both-true : (b c : Bool) → (b && c) ≡ true → (b ≡ true) × (c ≡ true)
both-true true c e = (refl, e)
both-true false c e = cc

pub only-some : {A : Type 0} (b : Bool) (x y : A) → only_if b x ≡ Some y → (b ≡ true) × (x ≡ y)
only-some true x y e = (refl, some-eq x y e)
only-some false x y e = cc

pub then-some : {A B : Type 0} (found : Option A) (next : A → Option B) (b : B) → then_state found next ≡ Some b → (a : A) × (found ≡ Some a) × (next a ≡ Some b)
then-some None next b e = cc
then-some (Some a) next b e = (a, refl, e)

pub allowed-some : {A : Type 0} (b : Bool) (x : Option A) (y : A) → if_allowed b x ≡ Some y → (b ≡ true) × (x ≡ Some y)
allowed-some true x y e = (refl, e)
allowed-some false x y e = cc

-- Lists

pub append-assoc : {A : Type 0} (xs ys zs : List A) → (xs ++ ys) ++ zs ≡ xs ++ (ys ++ zs)
append-assoc [] ys zs = refl
append-assoc (x ∷ xs) ys zs = ap (λ v. x ∷ v) (append-assoc xs ys zs)

pub append-nothing : {A : Type 0} (xs : List A) → xs ++ [] ≡ xs
append-nothing [] = refl
append-nothing (x ∷ xs) = ap (λ v. x ∷ v) (append-nothing xs)

pub length-push : {A : Type 0} (xs : List A) (x : A) → length (xs ++ x ∷ []) ≡ length xs + 1
length-push [] x = refl
length-push (y ∷ xs) x = let more = length-push xs x in omega (arith, more)

pub filter-append : {A : Type 0} (test : A → Bool) (xs ys : List A) → filter test (xs ++ ys) ≡ filter test xs ++ filter test ys
filter-append test [] ys = refl
filter-append test (x ∷ xs) ys = go (test x) (filter-append test xs ys)
  where
    go : (b : Bool) → filter test (xs ++ ys) ≡ filter test xs ++ filter test ys →
        cond b (x ∷ filter test (xs ++ ys)) (filter test (xs ++ ys)) ≡ cond b (x ∷ filter test xs) (filter test xs) ++ filter test ys
    go true e = ap (λ v. x ∷ v) e
    go false e = e

-- the last of a list
pub get-last : {A : Type 0} (xs : List A) (x : A) → slice_get (xs ++ x ∷ []) (length xs) ≡ Some x
get-last [] x = refl
get-last (y ∷ xs) x = get-last xs x

-- and the others
pub get-other : {A : Type 0} (xs : List A) (x : A) (place : ℕ) → (place ≡ length xs → ⊥) → slice_get (xs ++ x ∷ []) place ≡ slice_get xs place
get-other [] x zero h = absurd (h refl)
get-other [] x (suc place) h = refl
get-other (y ∷ xs) x zero h = refl
get-other (y ∷ xs) x (suc place) h = get-other xs x place (λ e. h (omega (arith, e)))

-- What holds of each element

pub hold-append : {A : Type 0} (P : A → Type 0) (xs ys : List A) → AllHold P xs → AllHold P ys → AllHold P (xs ++ ys)
hold-append P [] ys h k = k
hold-append P (x ∷ xs) ys h k = (h.0, hold-append P xs ys h.1 k)

pub hold-map : {A B : Type 0} (P : A → Type 0) (Q : B → Type 0) (f : A → B) (xs : List A) → ((x : A) → P x → Q (f x)) → AllHold P xs → AllHold Q (map f xs)
hold-map P Q f [] k h = tt
hold-map P Q f (x ∷ xs) k h = (k x h.0, hold-map P Q f xs k h.1)

pub hold-each : {A : Type 0} (P Q : A → Type 0) (xs : List A) → ((x : A) → P x → Q x) → AllHold P xs → AllHold Q xs
hold-each P Q [] k h = tt
hold-each P Q (x ∷ xs) k h = (k x h.0, hold-each P Q xs k h.1)

pub hold-all : {A : Type 0} (P : A → Type 0) (xs : List A) → ((x : A) → P x) → AllHold P xs
hold-all P [] k = tt
hold-all P (x ∷ xs) k = (k x, hold-all P xs k)

pub hold-filter : {A : Type 0} (P : A → Type 0) (test : A → Bool) (xs : List A) → AllHold P xs → AllHold P (filter test xs)
hold-filter P test [] h = tt
hold-filter P test (x ∷ xs) h = go (test x) (hold-filter P test xs h.1)
  where
    go : (b : Bool) → AllHold P (filter test xs) → AllHold P (cond b (x ∷ filter test xs) (filter test xs))
    go true i = (h.0, i)
    go false i = i

pub hold-change : {A : Type 0} (P : A → Type 0) (xs : List A) (place : ℕ) (change : A → A) → ((x : A) → P x → P (change x)) → AllHold P xs → AllHold P (change_at xs place change)
hold-change P [] place change k h = h
hold-change P (x ∷ xs) zero change k h = (k x h.0, h.1)
hold-change P (x ∷ xs) (suc place) change k h = (h.0, hold-change P xs place change k h.1)

pub hold-found : {A : Type 0} (P : A → Type 0) (default : A) (xs : List A) (place : ℕ) → P default → AllHold P xs → P (found_or default (slice_get xs place))
hold-found P default [] place d h = d
hold-found P default (x ∷ xs) zero d h = h.0
hold-found P default (x ∷ xs) (suc place) d h = hold-found P default xs place d h.1
