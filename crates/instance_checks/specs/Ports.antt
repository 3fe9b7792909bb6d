-- Ports of a module by their names.
use Rattle.std.specs.Prelude.{Bool, filter}
use Rattle.v_tree.specs.Trees.{Identifier, SourceModule}
use Rattle.v_names.specs.Names.{Declaration, is_port, of_name, names_declared}
use Rattle.v_names.specs.Readings.{is_empty}

-- whether a name of a module is that of no port
abbrev pub is_no_port : SourceModule → Identifier → Bool
is_no_port m name = is_empty (filter (λ (d : Declaration). is_port d.declared) (of_name name (names_declared m)))
