-- The values of a faulty machine are those of the state for which its differences stand (nothing of the language).
use Rattle.std.proofs.Common.{◌≡◌, ℕ, zero, suc, ◌+◌, ◌<◌, List, [], ◌∷◌, length, refl, ap, sym, ◌∙◌, arith}
use Rattle.std.proofs.lemmas.List.{ext_get_or}
use Rattle.four_value.specs.Values.{LogicValue}
use Rattle.vf_base.specs.Lists.{map_numbered}
use Rattle.v_design.specs.Assignments.{value_at}
use Rattle.v_design.specs.States.{State, found_or}
use Rattle.copy_laws.specs.Differences.{Differences, own_of, StandsFor}
use Rattle.copy_laws.specs.Moves.{Within, IsWithin}
use Rattle.copy_overlay.specs.Faulty.{faulty_values}

numbered-length : (f : ℕ → LogicValue → LogicValue) (n : ℕ) (xs : List LogicValue) → length (map_numbered f n xs) ≡ length xs
numbered-length f n [] = refl
numbered-length f n (x ∷ xs) = ap suc (numbered-length f (n + 1) xs)

numbered-at : (f : ℕ → LogicValue → LogicValue) (n p : ℕ) (xs : List LogicValue) → p < length xs → value_at (map_numbered f n xs) p ≡ f (n + p) (value_at xs p)
numbered-at f n p [] within = absurd (let none : p < 0 = within in omega arith)
numbered-at f n zero (x ∷ xs) within = ap (λ m. f m x) (let same : n ≡ n + zero = omega arith in same)
numbered-at f n (suc p) (x ∷ xs) within =
    numbered-at f (n + 1) p xs (omega arith) ∙ ap (λ m. f m (value_at xs p)) (let same : (n + 1) + p ≡ n + suc p = omega arith in same)

-- there is one for each object
pub length-faulty : (good : List LogicValue) (own : List (ℕ × LogicValue)) → length (faulty_values good own) ≡ length good
unfolding faulty_values
length-faulty good own = numbered-length (λ (object : ℕ) (value : LogicValue). found_or value (own_of own object)) 0 good

-- its own, else the good machine's
pub value-faulty : (good : List LogicValue) (own : List (ℕ × LogicValue)) (object : ℕ) → object < length good →
    value_at (faulty_values good own) object ≡ found_or (value_at good object) (own_of own object)
unfolding faulty_values
value-faulty good own object within =
    numbered-at (λ (object : ℕ) (value : LogicValue). found_or value (own_of own object)) 0 object good within
    ∙ ap (λ m. found_or (value_at good object) (own_of own m)) (let same : 0 + object ≡ object = omega arith in same)

-- so they are the values of which this holds
pub faulty-are : (good faulty : List LogicValue) (own : List (ℕ × LogicValue)) → length faulty ≡ length good →
    ((object : ℕ) → object < length good → value_at faulty object ≡ found_or (value_at good object) (own_of own object)) → faulty_values good own ≡ faulty
faulty-are good faulty own count each =
    let long : length (faulty_values good own) ≡ length good = length-faulty good own in
    ext_get_or [] (faulty_values good own) faulty (long ∙ sym count) (λ object within. value-faulty good own object (omega arith) ∙ sym (each object (omega arith)))

-- between slots: where differences stand for a state they are its values
pub faulty-stands : (d : Differences) (good faulty : State) → StandsFor d good faulty → faulty_values good.values d.values ≡ faulty.values
faulty-stands d good faulty stands = faulty-are good.values faulty.values d.values stands.value_count (λ object within. stands.values object)

-- and within a phase
pub faulty-within : (d : Within) (good faulty : State) (own : List (ℕ × LogicValue)) → IsWithin d good faulty → ((object : ℕ) → own_of own object ≡ d.values object) →
    faulty_values good.values own ≡ faulty.values
faulty-within d good faulty own is same =
    faulty-are good.values faulty.values own is.value_count (λ object within. is.values object ∙ ap (found_or (value_at good.values object)) (sym (same object)))
