use Rattle.std.proofs.Common.{◌≡◌, take, map}
use Rattle.key_index.specs.Places.{keys_of}
use Rattle.v_elab.specs.Drivers.{signals_of}
use Rattle.elab_parts.specs.PartViews.{part_of}
use Rattle.elab_wires.specs.WrittenNames.{output_names}
use Rattle.elab_wires.proofs.writers.list_outputs.Given as goal

abbrev pub invariant-parts : goal.invariant-parts
invariant-parts l = keys_of l.names.items ≡ output_names (signals_of (map part_of (take l.part-index l.parts)))
