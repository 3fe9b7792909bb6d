use Rattle.std.proofs.Common.{◌≡◌, take, map}
use Rattle.std.specs.Prelude.{flat_map}
use Rattle.v_design.specs.Plain.{name_joined}
use Rattle.v_elab.specs.Drivers.{signals_of}
use Rattle.elab_parts.specs.PartViews.{part_of}
use Rattle.object_names.specs.NameTables.{joined_by}
use Rattle.object_names.proofs.joined.names_joined.Given as goal

abbrev pub invariant-parts : goal.invariant-parts
invariant-parts l = map name_joined l.joined.items ≡ flat_map (joined_by l.names) (signals_of (map part_of (take l.part-index l.parts)))
