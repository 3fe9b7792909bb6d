-- Drives of objects, of the code, as plain ones.
use Rattle.std.specs.Prelude.{ℕ, List, map}
use Rattle.vf_base.specs.Base.{source_place}
use Rattle.v_elab.specs.Drivers as plain
use Rattle.key_index.specs.Groups.{keyed_of}
use Rattle.key_index.specs.declared.grouped.Keyed.{Keyed}
use Rattle.elab_parts.specs.PartViews.{places_of}
use Rattle.elab_wires.specs.declared.object_drive.ObjectDrive.{ObjectDrive}

abbrev pub object_drive_of : ObjectDrive → plain.ObjectDrive
object_drive_of d = record { node = d.node; offset = d.offset; places = places_of d.bits; place = source_place d.place }

abbrev pub drive_keyed : List ℕ × ObjectDrive → List ℕ × plain.ObjectDrive
drive_keyed p = (p.0, object_drive_of p.1)

-- drives under their keys
abbrev pub drives_listed : List (Keyed ObjectDrive) → List (List ℕ × plain.ObjectDrive)
drives_listed items = map drive_keyed (map keyed_of items)
