-- The bits that an entry of a wait is on, as a run of bits with bits outside the range on both sides (nothing of the language).
use Rattle.std.specs.Prelude.{ℕ, ◌&&◌, List, ◌++◌, map, replicate, Option, Some, None, nat_eq, nat_lt, if◌then◌else◌}
use Rattle.four_value.specs.declared.logic.Edge.{Edge}
use Rattle.four_value.specs.declared.logic.Edge.TheVariants.{Any, Pos, Neg}
use Rattle.v_design.specs.Expressions.{up_from}

-- some bits outside the range, a run of bits, and some outside again
abbrev pub run_places : ℕ → ℕ → ℕ → ℕ → List (Option ℕ)
run_places below low width above = replicate below None ++ (map Some (up_from low width) ++ replicate above None)

-- of the run, with an edge the least significant bit alone; none where the select begins outside
abbrev pub least_width : ℕ → ℕ → ℕ
least_width below width = if nat_eq below 0 && nat_lt 0 width then 1 else 0

abbrev pub width_by_edge : Edge → ℕ → ℕ → ℕ
width_by_edge Any below width = width
width_by_edge Pos below width = least_width below width
width_by_edge Neg below width = least_width below width
