use Rattle.std.proofs.Common.{◌≡◌, map, take}
use Rattle.v_elab.specs.Drivers.{block_drive}
use Rattle.elab_parts.specs.PartViews.{drive_of, process_of}
use Rattle.elab_behaviours.proofs.block_drives.block_drives.Given as goal

abbrev pub invariant-targets : goal.invariant-targets
invariant-targets l = map drive_of l.drives.items ≡ map (block_drive l.signals (process_of l.process)) (take l.name-index l.targets)
