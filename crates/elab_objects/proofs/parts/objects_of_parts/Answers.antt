use Rattle.std.proofs.Common.{map}
use Rattle.elab_wires.specs.DriveViews.{drive_keyed}
use Rattle.elab_objects.specs.Driven.{driving_keyed, PartHasOneDriver}
use Rattle.elab_objects.proofs.Owners.{part-holds}
use Rattle.elab_objects.proofs.parts.objects_of_parts.Goals as goal

pub push_part-requires : goal.push_part-requires
push_part-requires c = part-holds (PartHasOneDriver (map drive_keyed c.args.drives.now) (map driving_keyed c.args.driving.now)) c.args.parts.now c.parts.part-index c.part-item.result c.requires
    c.parts-test.true c.part-item.is
