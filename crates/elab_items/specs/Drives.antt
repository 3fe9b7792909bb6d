-- What nodes drive by selects.
use Rattle.std.specs.Prelude.{List, ◌++◌, map}
use Rattle.v_tree.specs.Trees.{Identifier, SourceSelect}
use Rattle.v_names.specs.Scopes.{Scope}
use Rattle.v_width.specs.Targets.{places_of_select}
use Rattle.v_elab.specs.Parts.{Drive}

abbrev pub drive_of_select : Identifier → Scope → SourceSelect → Drive
drive_of_select path scope s = record { signal = path ++ s.name; places = places_of_select scope s; place = s.place }

abbrev pub drives_of_selects : Identifier → Scope → List SourceSelect → List Drive
drives_of_selects path scope selects = map (drive_of_select path scope) selects
