-- Lists with one element changed, and updates that are appended (nothing of the language).
use Rattle.std.specs.Prelude.{◌≡◌, ℕ, zero, suc, ◌<◌, List, [], ◌∷◌, length, refl, slice_get}
use Rattle.std.proofs.Common.{ap, sym, append-nil, arith}
use Rattle.vf_base.specs.Lists.{change_at}
use Rattle.v_design.specs.States.{LaterUpdate, found_or}
use Rattle.event_queue.specs.Queues.{HeldProcess, nothing_held, held_at, with_laters}

-- a change that changes nothing
pub change-none : {A : Type 0} (d : A) (xs : List A) (p : ℕ) (g : A → A) → g (found_or d (slice_get xs p)) ≡ found_or d (slice_get xs p) → change_at xs p g ≡ xs
change-none d [] p g e = refl
change-none d (x ∷ xs) zero g e = ap (λ y. y ∷ xs) e
change-none d (x ∷ xs) (suc p) g e = ap (λ ys. x ∷ ys) (change-none d xs p g e)

-- two changes that agree on what is there
pub change-same : {A : Type 0} (d : A) (xs : List A) (p : ℕ) (f g : A → A) → f (found_or d (slice_get xs p)) ≡ g (found_or d (slice_get xs p)) → change_at xs p f ≡ change_at xs p g
change-same d [] p f g e = refl
change-same d (x ∷ xs) zero f g e = ap (λ y. y ∷ xs) e
change-same d (x ∷ xs) (suc p) f g e = ap (λ ys. x ∷ ys) (change-same d xs p f g e)

-- one change after another
pub change-twice : {A : Type 0} (xs : List A) (p : ℕ) (f g : A → A) → change_at (change_at xs p f) p g ≡ change_at xs p (λ x. g (f x))
change-twice [] p f g = refl
change-twice (x ∷ xs) zero f g = refl
change-twice (x ∷ xs) (suc p) f g = ap (λ ys. x ∷ ys) (change-twice xs p f g)

-- what stands at the changed place
pub at-change : {A : Type 0} (d : A) (xs : List A) (p : ℕ) (g : A → A) → p < length xs → found_or d (slice_get (change_at xs p g) p) ≡ g (found_or d (slice_get xs p))
at-change d [] p g low = absurd (omega (arith, low))
at-change d (x ∷ xs) zero g low = refl
at-change d (x ∷ xs) (suc p) g low = at-change d xs p g (omega (arith, low))

-- a changed list is as long
pub length-change : {A : Type 0} (xs : List A) (p : ℕ) (g : A → A) → length (change_at xs p g) ≡ length xs
length-change [] p g = refl
length-change (x ∷ xs) zero g = refl
length-change (x ∷ xs) (suc p) g = ap suc (length-change xs p g)

-- no update more
pub no-laters : (queue : List HeldProcess) (p : ℕ) → queue ≡ change_at queue p (with_laters [])
no-laters queue p =
    sym (change-none nothing_held queue p (with_laters []) (ap (λ (later : List LaterUpdate). record (held_at queue p) { later = later }) (append-nil (held_at queue p).later)))
