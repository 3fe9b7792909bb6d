-- Lists, options and flags (nothing of the language).
use Rattle.std.proofs.Common.{◌≡◌, List, [], ◌∷◌, ◌++◌, length, take, drop, Bool, true, false, ◌||◌, refl, sym, ap, ◌∙◌}
use Rattle.std.specs.Prelude.{Some}
use Rattle.std.proofs.Math.Seq.{take-append_seam, drop-append_seam}
use Rattle.vf_base.specs.Lists.{AllHold}
use Rattle.v_design.specs.States.{found_or}

pub some-is : {A : Type 0} (x y : A) → Some x ≡ Some y → x ≡ y
some-is x y e = ap (found_or x) e

pub none-either : (b c : Bool) → (b || c) ≡ false → (b ≡ false) × (c ≡ false)
none-either true c e = cc
none-either false c e = (refl, e)

pub all-map : {A : Type 0} (P Q : A → Type 0) (xs : List A) → ((x : A) → P x → Q x) → AllHold P xs → AllHold Q xs
all-map P Q [] h all = tt
all-map P Q (x ∷ xs) h all = (h x all.0, all-map P Q xs h all.1)

pub all-zip : {A : Type 0} (P Q R : A → Type 0) (xs : List A) → ((x : A) → P x → Q x → R x) → AllHold P xs → AllHold Q xs → AllHold R xs
all-zip P Q R [] h p q = tt
all-zip P Q R (x ∷ xs) h p q = (h x p.0 q.0, all-zip P Q R xs h p.1 q.1)

abbrev head_or : {A : Type 0} → A → List A → A
head_or default [] = default
head_or default (x ∷ xs) = x

abbrev tail_of : {A : Type 0} → List A → List A
tail_of [] = []
tail_of (x ∷ xs) = xs

pub cons-parts : {A : Type 0} (x y : A) (xs ys : List A) → x ∷ xs ≡ y ∷ ys → (x ≡ y) × (xs ≡ ys)
cons-parts x y xs ys e = (ap (head_or x) e, ap tail_of e)

pub append-parts : {A : Type 0} (xs ys more other : List A) → length xs ≡ length ys → xs ++ more ≡ ys ++ other → (xs ≡ ys) × (more ≡ other)
append-parts xs ys more other e f = (
  sym (take-append_seam xs more) ∙ (λ i. take (e i) (f i)) ∙ take-append_seam ys other,
  sym (drop-append_seam xs more) ∙ (λ i. drop (e i) (f i)) ∙ drop-append_seam ys other,
)
