-- A counter that rises (nothing of the language).
use Rattle.std.specs.Prelude.{ℕ, ◌+◌, ◌≤◌}

-- a counter rose by no more than one number is above another
abbrev pub RisesWithin : ℕ → ℕ → ℕ → ℕ → Type 0
RisesWithin from to before after = after + from ≤ before + to
