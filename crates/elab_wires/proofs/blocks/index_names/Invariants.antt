use Rattle.std.proofs.Common.{◌≡◌, take}
use Rattle.key_index.specs.Places.{keys_of}
use Rattle.elab_wires.proofs.blocks.index_names.Given as goal

abbrev pub invariant-names : goal.invariant-names
invariant-names l = keys_of l.keys.items ≡ take l.name-index l.names
