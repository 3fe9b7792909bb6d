use Rattle.std.proofs.Common.{◌≡◌, None, map, take}
use Rattle.elab_parts.specs.PartViews.{part_of}
use Rattle.elab_wires.specs.DriveViews.{drive_keyed}
use Rattle.elab_objects.specs.Driven.{driving_keyed}
use Rattle.driver_checks.proofs.CheckTurns.{parts_two_by}
use Rattle.driver_checks.proofs.check.one_driver.Given as goal

abbrev pub invariant-parts : goal.invariant-parts
invariant-parts l = parts_two_by (map drive_keyed l.drives) (map driving_keyed l.driving) (map part_of (take l.part-index l.parts)) ≡ None
