use Rattle.std.proofs.Common.{◌≡◌, ◌++◌, take, map}
use Rattle.key_index.specs.Places.{keys_of}
use Rattle.v_elab.specs.Drivers.{drive_signals}
use Rattle.elab_parts.specs.PartViews.{drive_of}
use Rattle.driver_checks.proofs.driving.push_targets.Given as goal

abbrev pub invariant-drives : goal.invariant-drives
invariant-drives l = keys_of l.names.items ≡ keys_of l.initial.names.items ++ drive_signals (map drive_of (take l.drive-index l.drives))
