-- Ranges that are too wide.
use Rattle.std.specs.Prelude.{Bool, nat_lt}
use Rattle.v_design.specs.Sized.{span, most_bits}
use Rattle.v_tree.specs.Trees.{SourceRange}
use Rattle.v_names.specs.Scopes.{Scope}
use Rattle.v_elab.specs.ItemFaults.{bound_of}

-- whether a range is wider than a vector may be
abbrev pub is_too_wide : Scope → SourceRange → Bool
is_too_wide scope range = nat_lt most_bits (span (bound_of scope range.high) (bound_of scope range.low))
