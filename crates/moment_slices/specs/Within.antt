-- Moments from one on and before another (nothing of the language).
use Rattle.std.specs.Prelude.{ℕ, Bool, ◌&&◌, nat_le, nat_lt}

-- whether a moment comes from one on and before another
abbrev pub comes_within : ℕ → ℕ → ℕ → Bool
comes_within first limit moment = nat_le first moment && nat_lt moment limit
