use Rattle.std.proofs.Common.{◌≡◌, take}
use Rattle.elab_wires.specs.Wirings.{hierarchical_of}
use Rattle.elab_wires.proofs.blocks.hierarchical_names.Given as goal

abbrev pub invariant-names : goal.invariant-names
invariant-names l = l.whole.items ≡ hierarchical_of l.path (take l.name-index l.names)
