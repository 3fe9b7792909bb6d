-- The code's ranges as plain data.
use Rattle.std.specs.Prelude.{ℕ, Bool, true, false, Option, Some, None, nat_lt, cond}
use Rattle.v_design.specs.Sized.{span, most_bits}
use Rattle.v_names.specs.Scopes.{DeclaredRange}
use Rattle.name_checks.specs.declared.range.BitRange.{BitRange}

abbrev pub range_seen : BitRange → DeclaredRange
range_seen range = record { ranged = range.ranged; high = range.high; low = range.low }

-- the width of a range, if it isn't over the most
abbrev pub fitting_width : DeclaredRange → Option ℕ
fitting_width range = cond (nat_lt most_bits (span range.high range.low)) None (Some (span range.high range.low))
