-- Updates that are due after one time and after a later one (nothing of the language).
use Rattle.std.proofs.Common.{◌≡◌, ℕ, ◌≤◌, Bool, true, false, not, cond, List, [], ◌∷◌, ◌++◌, refl, sym, ap, ◌∙◌, arith}
use Rattle.std.specs.Prelude.{filter, nat_le}
use Rattle.std.proofs.lemmas.Bool.{leb-true, le-leb}
use Rattle.std.proofs.lemmas.List.Elements.{filter-append}
use Rattle.v_design.specs.States.{LaterUpdate, is_due}
use Rattle.between_slots.specs.Updates.{due_after}

-- what a first test leaves out doesn't matter to a second one that leaves it out too
pub filter-again : {A : Type 0} (p q : A → Bool) (xs : List A) → ((x : A) → p x ≡ false → q x ≡ false) → filter q (filter p xs) ≡ filter q xs
filter-again p q [] from = refl
filter-again {A} p q (x ∷ xs) from = go (p x) refl (filter-again p q xs from)
  where
    go : (b : Bool) → p x ≡ b → filter q (filter p xs) ≡ filter q xs → filter q (cond b (x ∷ filter p xs) (filter p xs)) ≡ filter q (x ∷ xs)
    go true e rest = λ i. cond (q x) (x ∷ rest i) (rest i)
    go false e rest = rest ∙ sym (ap (λ b. cond b (x ∷ filter q xs) (filter q xs)) (from x e))

pub due-append : (time : ℕ) (xs ys : List LaterUpdate) → due_after time (xs ++ ys) ≡ due_after time xs ++ due_after time ys
due-append time xs ys = filter-append (λ (later : LaterUpdate). not (is_due time later)) xs ys

not-false : (b : Bool) → not b ≡ false → b ≡ true
not-false true e = refl
not-false false e = cc

due-still : (at time later : ℕ) → time ≤ later → not (nat_le at time) ≡ false → not (nat_le at later) ≡ false
due-still at time later low e = let due : at ≤ time = leb-true at time (not-false (nat_le at time) e) in ap not (le-leb at later (omega arith))

-- those that are due after a later time are among those that are due after an earlier one
pub due-later : (time later : ℕ) (xs : List LaterUpdate) → time ≤ later → due_after later (due_after time xs) ≡ due_after later xs
due-later time later xs low =
    filter-again (λ (update : LaterUpdate). not (is_due time update)) (λ (update : LaterUpdate). not (is_due later update)) xs (λ update e. due-still update.time time later low e)
