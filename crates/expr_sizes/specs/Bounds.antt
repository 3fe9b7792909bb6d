-- The declared bounds of a vector as plain data.
use Rattle.v_names.specs.Scopes.{DeclaredRange}
use Rattle.expr_sizes.specs.declared.name.VectorBounds.{VectorBounds}

abbrev pub bounds_of : VectorBounds → DeclaredRange
bounds_of bounds = record { ranged = bounds.ranged; high = bounds.high; low = bounds.low }
