use Rattle.std.proofs.Common.{◌≡◌, take, map}
use Rattle.std.specs.Prelude.{flat_map}
use Rattle.elab_parts.specs.PartViews.{part_of}
use Rattle.elab_wires.specs.DriveViews.{drive_keyed}
use Rattle.elab_objects.specs.ObjectViews.{held_objects}
use Rattle.elab_objects.specs.Driven.{driving_keyed, part_objects_by}
use Rattle.elab_objects.proofs.parts.objects_of_parts.Given as goal

abbrev pub invariant-parts : goal.invariant-parts
invariant-parts l = held_objects l.objects.items ≡ flat_map (part_objects_by (map drive_keyed l.drives) (map driving_keyed l.driving)) (map part_of (take l.part-index l.parts))
