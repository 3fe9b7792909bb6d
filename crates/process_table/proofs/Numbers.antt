-- Numbers of processes (nothing of the language).
use Rattle.std.proofs.Common.{◌≡◌, ℕ, zero, suc, ◌+◌, ◌<◌, ◌≤◌, Bool, true, false, List, [], ◌∷◌, length, map, get_or, refl, arith}
use Rattle.std.specs.List.{All}
use Rattle.std.proofs.lemmas.List.Elements.{All-nil, All-cons, All-head, All-tail}
use Rattle.vf_base.specs.Lists.{AllHold}
use Rattle.event_queue.specs.Queues.{numbers_where, number_if}

-- the numbers of the elements that pass a test are below a limit that all are below
pub numbers-below : {B : Type 0} (test : B → Bool) (n limit : ℕ) (ys : List B) → n + length ys ≤ limit → AllHold (λ number. number < limit) (numbers_where test n ys)
numbers-below test n limit [] e = tt
numbers-below test n limit (y ∷ ys) e = go (test y) (numbers-below test (n + 1) limit ys (omega (arith, e)))
  where
    go : (b : Bool) → AllHold (λ number. number < limit) (numbers_where test (n + 1) ys) → AllHold (λ number. number < limit) (number_if b n (numbers_where test (n + 1) ys))
    go true h = (omega (arith, e), h)
    go false h = h

-- a fact of each image
pub images-hold : {A B : Type 0} (f : A → B) (Q : B → Type 0) (xs : List A) → All (λ x. Q (f x)) xs → AllHold Q (map f xs)
images-hold f Q [] h = tt
images-hold f Q (x ∷ xs) h = (All-head (λ y. Q (f y)) x xs h, images-hold f Q xs (All-tail (λ y. Q (f y)) x xs h))

pub hold-images : {A B : Type 0} (f : A → B) (Q : B → Type 0) (xs : List A) → AllHold Q (map f xs) → All (λ x. Q (f x)) xs
hold-images f Q [] h = All-nil (λ y. Q (f y))
hold-images f Q (x ∷ xs) h = All-cons (λ y. Q (f y)) x xs h.0 (hold-images f Q xs h.1)

-- an element that is read whatever stands for one that isn't there
pub got-any : {A : Type 0} (xs : List A) (i : ℕ) (c d : A) → i < length xs → get_or xs i c ≡ get_or xs i d
got-any [] i c d low = absurd (omega (arith, low))
got-any (x ∷ xs) zero c d low = refl
got-any (x ∷ xs) (suc i) c d low = got-any xs i c d (omega (arith, low))
