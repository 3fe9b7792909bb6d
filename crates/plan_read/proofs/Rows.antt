-- Rows of strobes.
use Rattle.std.proofs.Common.{◌≡◌, ℕ, zero, suc, ◌+◌, ◌-◌, ◌*◌, ◌/◌, ◌≤◌, ◌<◌, List, [], ◌∷◌, ◌++◌, length, arith, refl, sym, ◌∙◌, ap, length-append, true, false, Bool, Option, Some, None, nat_lt}
use Rattle.std.specs.List.{list_any}
use Rattle.std.proofs.Math.Nat.{mul-le-mul_left}
use Rattle.std.proofs.lemmas.Bool.{le-ltb, lt-ltb}
use Rattle.std.proofs.lemmas.List.Folds.{list_any-append}
use Rattle.plan_read.specs.Forms.{row}
use Rattle.plan_read.specs.Spelled.{PlanReason, IsTooMany}
use Rattle.plan_read.specs.Steps.{strobes_reason, too_many_if}

-- a row has as many times as it says
pub length-row : (from step count : ℕ) → length (row from step count) ≡ count
length-row from step zero = refl
length-row from step (suc count) = let e = length-row from step count in simp length-append (omega arith)

-- no time of a row is past a time, where none is as it is counted
pub row-none : (end from step count : ℕ) → ((k : ℕ) → k < count → from + step * k ≤ end) → list_any (nat_lt end) (row from step count) ≡ false
row-none end from step zero h = refl
row-none end from step (suc count) h =
    let before : list_any (nat_lt end) (row from step count) ≡ false = row-none end from step count (λ k lt. h k (omega arith)) in
    let here : nat_lt end (from + step * count) ≡ false = le-ltb end (from + step * count) (h count (omega arith)) in
    list_any-append (nat_lt end) (row from step count) ((from + step * count) ∷ []) ∙ rw (before, here) refl

up-to-last : (end from step count k : ℕ) → from + step * count ≤ end → k < count + 1 → from + step * k ≤ end
up-to-last end from step count k last lt = let up : step * k ≤ step * count = mul-le-mul_left step (omega arith) in omega arith

reason-by : (end before : ℕ) (times : List ℕ) (many : Bool) → list_any (nat_lt end) times ≡ false → nat_lt 65536 (before + length times) ≡ many → strobes_reason end times before ≡ too_many_if many
reason-by end before times many none few = rw (none, few) refl

-- strobes that are in time and few
pub strobes-good : (end from step count before : ℕ) → from + step * count ≤ end → before + (count + 1) ≤ 65536 → strobes_reason end (row from step (count + 1)) before ≡ None
strobes-good end from step count before last few =
    reason-by end before (row from step (count + 1)) false (row-none end from step (count + 1) (λ k lt. up-to-last end from step count k last lt))
    (rw length-row (le-ltb 65536 (before + (count + 1)) (omega arith)))

-- strobes that are in time and too many
pub strobes-many : (end from step count before : ℕ) → from + step * count ≤ end → 65536 < before + (count + 1) → strobes_reason end (row from step (count + 1)) before ≡ Some IsTooMany
strobes-many end from step count before last many =
    reason-by end before (row from step (count + 1)) true (row-none end from step (count + 1) (λ k lt. up-to-last end from step count k last lt))
    (rw length-row (lt-ltb 65536 (before + (count + 1)) (omega arith)))
