use Rattle.std.proofs.Common.{◌≡◌, take, map}
use Rattle.v_elab.specs.Drivers.{signals_of}
use Rattle.elab_parts.specs.PartViews.{part_of}
use Rattle.driver_checks.specs.Driving.{driving_listed, driving_besides}
use Rattle.driver_checks.proofs.driving.list_besides.Given as goal

abbrev pub invariant-parts : goal.invariant-parts
invariant-parts l = driving_listed l.items.items ≡ driving_besides l.signals l.targets (signals_of (map part_of (take l.part-index l.parts)))
