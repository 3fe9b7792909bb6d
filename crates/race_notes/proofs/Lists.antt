-- Lists of numbers and of facts (nothing of the language).
use Rattle.std.proofs.Common.{ℕ, zero, suc, ◌<◌, List, [], ◌∷◌, ◌++◌, length, get_or, refl, inl, inr, arith}
use Rattle.vf_base.specs.Lists.{AllHold}
use Rattle.copy_laws.specs.Filter.{IsIn}

pub all-joined : {A : Type 0} (P : A → Type 0) (xs ys : List A) → AllHold P xs → AllHold P ys → AllHold P (xs ++ ys)
all-joined P [] ys first second = second
all-joined P (x ∷ xs) ys first second = (first.0, all-joined P xs ys first.1 second)

pub all-weaker : {A : Type 0} (P Q : A → Type 0) (xs : List A) → ((x : A) → P x → Q x) → AllHold P xs → AllHold Q xs
all-weaker P Q [] f h = tt
all-weaker P Q (x ∷ xs) f h = (f x h.0, all-weaker P Q xs f h.1)

-- the element at a place stands in the list
pub in-at : {A : Type 0} (xs : List A) (place : ℕ) (default : A) → place < length xs → IsIn (get_or xs place default) xs
in-at [] place default low = absurd (omega (arith, low))
in-at (x ∷ xs) zero default low = inl refl
in-at (x ∷ xs) (suc place) default low = inr (in-at xs place default (omega (arith, low)))
