-- Strobes as a plan keeps them.
use Rattle.std.proofs.Common.{◌≡◌, ℕ, zero, suc, ◌+◌, ◌≤◌, ◌<◌, List, [], ◌∷◌, length, get_or, slice_index, All, arith, refl}
use Rattle.vf_base.specs.Base.{WatchedBit}
use Rattle.vf_base.specs.Lists.{AllHold}
use Rattle.v_design.specs.Designs.{TestPlan, StuckAt}
use Rattle.v_design.specs.WellFormed.{IsAscending, IsPlan}

all-hold : (P : ℕ → Type 0) (xs : List ℕ) → ((i : ℕ) → i < length xs → P (get_or xs i 0)) → AllHold P xs
all-hold P [] h = tt
all-hold P (x ∷ xs) h = (h 0 (omega arith), all-hold P xs (λ i lt. h (suc i) (omega arith)))

pub ascends : (xs : List ℕ) → ((i j : ℕ) → i < j → j < length xs → get_or xs i 0 < get_or xs j 0) → IsAscending xs
ascends [] h = tt
ascends (x ∷ xs) h = (all-hold (λ later. x < later) xs (λ j lt. h 0 (suc j) (omega arith) (omega arith)), ascends xs (λ i j below lt. h (suc i) (suc j) (omega arith) (omega arith)))

pub all-in-time : (xs : List ℕ) (end : ℕ) → All (λ time. time ≤ end) xs → AllHold (λ time. time ≤ end) xs
all-in-time xs end h = all-hold (λ time. time ≤ end) xs (λ i lt. h i 0 lt)

-- the rules of a plan
pub plan-keeps : (end : ℕ) (strobes times : List ℕ) (watched : List WatchedBit) (faults : List StuckAt) →
    end ≤ 1000000000000 → ((i j : ℕ) → i < j → j < length strobes → slice_index strobes i < slice_index strobes j) → All (λ time. time ≤ end) strobes →
    length strobes ≤ length times → length times ≤ 65536 → length watched ≤ 4096 → length faults ≤ 65536 →
    IsPlan (record { end = end; strobes = strobes; watched = watched; faults = faults })
plan-keeps end strobes times watched faults early ordered in_time fewer few_t few_w few_f = record {
  end = early;
  ascending = ascends strobes ordered;
  in_time = all-in-time strobes end in_time;
  few_strobes = omega arith;
  few_watched = few_w;
  few_faults = few_f;
}
