-- The tables that the code keeps.
use Rattle.std.specs.Prelude.{map}
use Rattle.object_names.specs.NameTables.{NameTables}
use Rattle.object_names.specs.NameViews.{memory_seen, piece_seen}
use Rattle.object_names.specs.declared.names.ObjectNames.TheInside.{Inside}

abbrev pub tables_in : Inside → NameTables
tables_in names = record { signals = names.signals.now; memories = map memory_seen names.memories; pieces = map piece_seen names.pieces }
