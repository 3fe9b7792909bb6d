-- Lists as they are changed element by element (nothing of the language).
use Rattle.std.proofs.Common.{◌≡◌, ℕ, zero, suc, ◌+◌, ◌-◌, ◌≤◌, length-drop, List, [], ◌∷◌, ◌++◌, length, set, take, drop, refl, ap, ◌∙◌, arith}
use Rattle.four_value.specs.Values.{LogicValue}
use Rattle.v_design.specs.Assignments.{ValueUpdate}
use Rattle.v_design.specs.States.{rest_of}
use Rattle.trace_window.specs.Writes.{Written}
use Rattle.moment_parts.specs.Within.{put_all}

pub drop-past : {A : Type 0} (n : ℕ) (xs : List A) → length xs ≤ n → drop n xs ≡ []
drop-past zero [] low = refl
drop-past (suc n) [] low = refl
drop-past zero (x ∷ xs) low = absurd (omega (arith, low))
drop-past (suc n) (x ∷ xs) low = drop-past n xs (omega (arith, low))

pub drop-rest : (n : ℕ) (xs : List ValueUpdate) → drop (n + 1) xs ≡ rest_of (drop n xs)
drop-rest n xs = (let e : n + 1 ≡ suc n = omega arith in ap (λ k. drop k xs) e) ∙ go n xs
  where
    go : (n : ℕ) (xs : List ValueUpdate) → drop (suc n) xs ≡ rest_of (drop n xs)
    go zero [] = refl
    go zero (x ∷ xs) = refl
    go (suc n) [] = refl
    go (suc n) (x ∷ xs) = go n xs

-- one write more
pub put_all-push : (writes : List Written) (write : Written) (values : List LogicValue) → put_all (writes ++ write ∷ []) values ≡ set (put_all writes values) write.object write.value
put_all-push [] write values = refl
put_all-push (first ∷ writes) write values = put_all-push writes write (set values first.object first.value)

pub put_all-length : (writes : List Written) (values : List LogicValue) → length (put_all writes values) ≡ length values
put_all-length [] values = refl
put_all-length (write ∷ writes) values = put_all-length writes (set values write.object write.value) ∙ set-length values write.object write.value
  where
    set-length : (xs : List LogicValue) (i : ℕ) (x : LogicValue) → length (set xs i x) ≡ length xs
    set-length [] i x = refl
    set-length (y ∷ xs) zero x = refl
    set-length (y ∷ xs) (suc i) x = ap suc (set-length xs i x)

-- all that is left behind so many
pub take-drop : {A : Type 0} (n : ℕ) (xs : List A) → take (length xs - n) (drop n xs) ≡ drop n xs
take-drop n xs = take-whole (length xs - n) (drop n xs) (let e : length (drop n xs) ≡ length xs - n = length-drop n xs in omega (arith, e))
  where
    take-whole : {A : Type 0} (k : ℕ) (ys : List A) → length ys ≤ k → take k ys ≡ ys
    take-whole zero [] low = refl
    take-whole (suc k) [] low = refl
    take-whole zero (y ∷ ys) low = absurd (omega (arith, low))
    take-whole (suc k) (y ∷ ys) low = ap (λ l. y ∷ l) (take-whole k ys (omega (arith, low)))
