-- The code's declared bounds as plain data.
use Rattle.v_tree.specs.Views.{range_of}
use Rattle.v_names.specs.Names as plain
use Rattle.name_checks.specs.declared.bounds.Bounds.{Bounds}
use Rattle.name_checks.specs.declared.bounds.Bounds.TheVariants.{Unbounded, Integer, Ranged}

abbrev pub bounds_seen : Bounds → plain.Bounds
bounds_seen Unbounded = plain.Unbounded
bounds_seen Integer = plain.IntegerBounds
bounds_seen (Ranged range) = plain.RangeBounds (range_of range.now)
