-- Lists with one element changed (nothing of the language).
use Rattle.std.proofs.Common.{◌≡◌, ℕ, zero, suc, ◌<◌, Bool, List, [], ◌∷◌, length, map, get_or, set, refl, sym, ap, ◌∙◌, subst, arith}
use Rattle.std.specs.Prelude.{slice_get}
use Rattle.vf_base.specs.Lists.{AllHold, change_at, first_place, earlier_place}
use Rattle.v_design.specs.States.{found_or}

-- the images of a changed list
pub map-change : {A B : Type 0} (d : A) (f : A → B) (xs : List A) (p : ℕ) (g : A → A) → map f (change_at xs p g) ≡ change_at (map f xs) p (λ y. f (g (found_or d (slice_get xs p))))
map-change d f [] p g = refl
map-change d f (x ∷ xs) zero g = refl
map-change d f (x ∷ xs) (suc p) g = ap (λ ys. f x ∷ ys) (map-change d f xs p g)

-- a change that the images don't see
pub change-unseen : {A B : Type 0} (d : A) (f : A → B) (xs : List A) (p : ℕ) (b : B) → b ≡ f (found_or d (slice_get xs p)) → map f xs ≡ change_at (map f xs) p (λ y. b)
change-unseen d f [] p b e = refl
change-unseen d f (x ∷ xs) zero b e = ap (λ y. y ∷ map f xs) (sym e)
change-unseen d f (x ∷ xs) (suc p) b e = ap (λ ys. f x ∷ ys) (change-unseen d f xs p b e)

-- a fact of each place holds after a change that keeps it
pub each-changed : {A : Type 0} (d : A) (Q : ℕ → A → Type 0) (xs : List A) (p : ℕ) (g : A → A) → Q p (g (found_or d (slice_get xs p))) → ((n : ℕ) → Q n (found_or d (slice_get xs n))) →
    (n : ℕ) → Q n (found_or d (slice_get (change_at xs p g) n))
each-changed d Q [] p g keep h n = h n
each-changed d Q (x ∷ xs) zero g keep h zero = keep
each-changed d Q (x ∷ xs) zero g keep h (suc n) = h (suc n)
each-changed d Q (x ∷ xs) (suc p) g keep h zero = h 0
each-changed d Q (x ∷ xs) (suc p) g keep h (suc n) = each-changed d (λ m. Q (suc m)) xs p g keep (λ m. h (suc m)) n

-- a fact of each element holds after a change that keeps it
pub AllHold-change : {A : Type 0} (d : A) (P : A → Type 0) (xs : List A) (p : ℕ) (g : A → A) → P (g (found_or d (slice_get xs p))) → AllHold P xs → AllHold P (change_at xs p g)
AllHold-change d P [] p g keep h = tt
AllHold-change d P (x ∷ xs) zero g keep h = (keep, h.1)
AllHold-change d P (x ∷ xs) (suc p) g keep h = (h.0, AllHold-change d P xs p g keep h.1)

-- a fact of each element holds of one of them
pub AllHold-at : {A : Type 0} (P : A → Type 0) (xs : List A) (p : ℕ) (x : A) → AllHold P xs → p < length xs → x ≡ get_or xs p x → P x
AllHold-at P [] p x h low is = absurd (omega (arith, low))
AllHold-at P (y ∷ ys) zero x h low is = subst P (sym is) h.0
AllHold-at P (y ∷ ys) (suc p) x h low is = AllHold-at P ys p x h.1 (omega (arith, low)) is

-- and of what is found at a place
pub AllHold-found : {A : Type 0} (d : A) (P : A → Type 0) (xs : List A) (p : ℕ) → AllHold P xs → p < length xs → P (found_or d (slice_get xs p))
AllHold-found d P [] p h low = absurd (omega (arith, low))
AllHold-found d P (y ∷ ys) zero h low = h.0
AllHold-found d P (y ∷ ys) (suc p) h low = AllHold-found d P ys p h.1 (omega (arith, low))

-- an element in the place of another
pub AllHold-set : {A : Type 0} (P : A → Type 0) (xs : List A) (p : ℕ) (new : A) → P new → AllHold P xs → AllHold P (set xs p new)
AllHold-set P [] p new keep h = tt
AllHold-set P (x ∷ xs) zero new keep h = (keep, h.1)
AllHold-set P (x ∷ xs) (suc p) new keep h = (h.0, AllHold-set P xs p new keep h.1)

-- the images where an element stands in the place of another
pub map-set : {A B : Type 0} (f : A → B) (g : B → B) (xs : List A) (p : ℕ) (old new : A) → p < length xs → old ≡ get_or xs p old → f new ≡ g (f old) → map f (set xs p new) ≡ change_at (map f xs) p g
map-set f g [] p old new low is e = absurd (omega (arith, low))
map-set f g (x ∷ xs) zero old new low is e = ap (λ y. y ∷ map f xs) (e ∙ ap (λ y. g (f y)) is)
map-set f g (x ∷ xs) (suc p) old new low is e = ap (λ ys. f x ∷ ys) (map-set f g xs p old new (omega (arith, low)) is e)

-- the same where the image stays
pub map-set_same : {A B : Type 0} (f : A → B) (xs : List A) (p : ℕ) (old new : A) → p < length xs → old ≡ get_or xs p old → f new ≡ f old → map f (set xs p new) ≡ map f xs
map-set_same f [] p old new low is e = absurd (omega (arith, low))
map-set_same f (x ∷ xs) zero old new low is e = ap (λ y. y ∷ map f xs) (e ∙ ap f is)
map-set_same f (x ∷ xs) (suc p) old new low is e = ap (λ ys. f x ∷ ys) (map-set_same f xs p old new (omega (arith, low)) is e)

-- an element in the place of another is a change
pub set-change : {A : Type 0} (xs : List A) (p : ℕ) (new : A) → set xs p new ≡ change_at xs p (λ x. new)
set-change [] p new = refl
set-change (x ∷ xs) zero new = refl
set-change (x ∷ xs) (suc p) new = ap (λ ys. x ∷ ys) (set-change xs p new)

-- the image of what is found
pub found-map : {A B : Type 0} (d : A) (f : A → B) (xs : List A) (p : ℕ) → found_or (f d) (slice_get (map f xs) p) ≡ f (found_or d (slice_get xs p))
found-map d f [] p = refl
found-map d f (x ∷ xs) zero = refl
found-map d f (x ∷ xs) (suc p) = found-map d f xs p

-- what is found at a place within the list
pub found-read : {A : Type 0} (d : A) (xs : List A) (p : ℕ) (x : A) → p < length xs → x ≡ get_or xs p x → found_or d (slice_get xs p) ≡ x
found-read d [] p x low is = absurd (omega (arith, low))
found-read d (y ∷ ys) zero x low is = sym is
found-read d (y ∷ ys) (suc p) x low is = found-read d ys p x (omega (arith, low)) is

-- the first place of the images
pub first_place-map : {A B : Type 0} (f : A → B) (test : B → Bool) (xs : List A) → first_place test (map f xs) ≡ first_place (λ x. test (f x)) xs
first_place-map f test [] = refl
first_place-map f test (x ∷ xs) = ap (earlier_place (test (f x))) (first_place-map f test xs)
