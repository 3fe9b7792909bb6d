-- The watched bits one by one.
use Rattle.std.proofs.Common.{◌≡◌, ℕ, zero, suc, ◌<◌, ◌≤◌, min, List, [], ◌∷◌, length, map, get_or, drop, Bool, true, false, ◌||◌, refl, sym, ap, ◌∙◌, ⊎_elim, arith}
use Rattle.std.proofs.lemmas.Bool.{cases_lt}
use Rattle.std.proofs.lemmas.List.{drop_all}
use Rattle.vf_base.specs.Lists.{AllHold}
use Rattle.four_value.specs.declared.logic.Bit.{Bit}
use Rattle.v_design.specs.Grades.{is_hard, some_sample}

-- what holds of all elements holds of one
pub AllHold-at : {A B : Type 0} (P : B → Type 0) (f : A → B) (xs : List A) (j : ℕ) (d : A) → AllHold P (map f xs) → j < length xs → P (f (get_or xs j d))
AllHold-at P f [] j d h less = absurd (omega arith)
AllHold-at P f (x ∷ xs) zero d h less = h.0
AllHold-at P f (x ∷ xs) (suc j) d h less = AllHold-at P f xs j d h.1 (omega arith)

-- Comparisons of two lists of bits

hard-none : (good : List Bit) → some_sample is_hard good [] ≡ false
hard-none [] = refl
hard-none (x ∷ good) = refl

-- where one list is at its end no bit that is left detects the fault
hard-past : (good faulty : List Bit) (i : ℕ) → min (length good) (length faulty) ≤ i → some_sample is_hard (drop i good) (drop i faulty) ≡ false
hard-past good faulty i h =
    ⊎_elim (λ (other : i < length good). ap (some_sample is_hard (drop i good)) (drop_all i faulty (omega (arith, other, h))) ∙ hard-none (drop i good))
    (λ (one : length good ≤ i). ap (λ xs. some_sample is_hard xs (drop i faulty)) (drop_all i good one)) (cases_lt i (length good))

or-false : (b : Bool) → (b || false) ≡ b
or-false true = refl
or-false false = refl

-- what is known where one list is at its end
pub hard-through : (good faulty : List Bit) (i : ℕ) (hard : Bool) → min (length good) (length faulty) ≤ i →
    (hard || some_sample is_hard (drop i good) (drop i faulty)) ≡ some_sample is_hard good faulty → hard ≡ some_sample is_hard good faulty
hard-through good faulty i hard h so = sym (or-false hard) ∙ ap (λ b. hard || b) (sym (hard-past good faulty i h)) ∙ so
