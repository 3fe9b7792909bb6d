use Rattle.std.proofs.Common.{◌≡◌, take, false}
use Rattle.std.specs.List.{list_any}
use Rattle.key_index.specs.Places.{keys_of}
use Rattle.elab_parts.specs.PartViews.{process_of}
use Rattle.elab_wires.specs.Wirings.{reads_other}
use Rattle.elab_wires.proofs.blocks.any_other_name.Given as goal

abbrev pub invariant-names : goal.invariant-names
invariant-names l = list_any (reads_other l.signals (process_of l.process) l.targets l.objects) (keys_of (take l.name-index l.names)) ≡ false
