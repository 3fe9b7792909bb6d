-- The indexes of a part-select, by their number (IEEE 1364-2001, clause 4.2.1).
use Rattle.std.proofs.Common.{◌≡◌, ℕ, zero, suc, ◌+◌, ◌-◌, ◌<◌, ◌≤◌, length, get_or, refl, ap, ◌∙◌, arith}
use Rattle.std.specs.Prelude.{if◌then◌else◌}
use Rattle.std.proofs.lemmas.Bool.{le-leb, lt-leb}
use Rattle.v_design.specs.Expressions.{up_from, down_from, part_indexes}
use Rattle.v_design.specs.Assignments.{part_width}

pub length-up_from : (start count : ℕ) → length (up_from start count) ≡ count
length-up_from start zero = refl
length-up_from start (suc count) = ap suc (length-up_from (start + 1) count)

pub length-down_from : (start count : ℕ) → length (down_from start count) ≡ count
length-down_from start zero = refl
length-down_from start (suc count) = ap suc (length-down_from (start - 1) count)

get_or-up_from : (start count k : ℕ) → k < count → get_or (up_from start count) k 0 ≡ start + k
get_or-up_from start zero k low = absurd (omega arith)
get_or-up_from start (suc count) zero low = omega arith
get_or-up_from start (suc count) (suc k) low = let rest : get_or (up_from (start + 1) count) k 0 ≡ start + 1 + k = get_or-up_from (start + 1) count k (omega arith) in omega arith

get_or-down_from : (start count k : ℕ) → k < count → get_or (down_from start count) k 0 ≡ start - k
get_or-down_from start zero k low = absurd (omega arith)
get_or-down_from start (suc count) zero low = omega arith
get_or-down_from start (suc count) (suc k) low = let rest : get_or (down_from (start - 1) count) k 0 ≡ start - 1 - k = get_or-down_from (start - 1) count k (omega arith) in omega arith

indexes_up : (from to : ℕ) → to ≤ from → part_indexes from to ≡ up_from to (from - to + 1)
indexes_up from to h = ap (λ b. if b then up_from to (from - to + 1) else down_from to (to - from + 1)) (le-leb to from h)

indexes_down : (from to : ℕ) → from < to → part_indexes from to ≡ down_from to (to - from + 1)
indexes_down from to h = ap (λ b. if b then up_from to (from - to + 1) else down_from to (to - from + 1)) (lt-leb to from h)

-- upwards
pub part_width-up : (from to : ℕ) → to ≤ from → part_width from to ≡ from - to + 1
part_width-up from to h = ap length (indexes_up from to h) ∙ length-up_from to (from - to + 1)

-- downwards
pub part_width-down : (from to : ℕ) → from < to → part_width from to ≡ to - from + 1
part_width-down from to h = ap length (indexes_down from to h) ∙ length-down_from to (to - from + 1)

pub part_index-up : (from to k : ℕ) → to ≤ from → k < part_width from to → get_or (part_indexes from to) k 0 ≡ to + k
part_index-up from to k h low =
    ap (λ l. get_or l k 0) (indexes_up from to h) ∙ get_or-up_from to (from - to + 1) k (let e : part_width from to ≡ from - to + 1 = part_width-up from to h in omega arith)

pub part_index-down : (from to k : ℕ) → from < to → k < part_width from to → get_or (part_indexes from to) k 0 ≡ to - k
part_index-down from to k h low =
    ap (λ l. get_or l k 0) (indexes_down from to h) ∙ get_or-down_from to (to - from + 1) k (let e : part_width from to ≡ to - from + 1 = part_width-down from to h in omega arith)
