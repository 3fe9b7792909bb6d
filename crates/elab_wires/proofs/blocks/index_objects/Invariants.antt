use Rattle.std.proofs.Common.{◌≡◌, take, map}
use Rattle.key_index.specs.Places.{keys_of}
use Rattle.v_elab.specs.Drivers.{outermost}
use Rattle.elab_wires.proofs.blocks.index_objects.Given as goal

abbrev pub invariant-names : goal.invariant-names
invariant-names l = keys_of l.keys.items ≡ map (outermost l.signals) (take l.name-index l.names)
