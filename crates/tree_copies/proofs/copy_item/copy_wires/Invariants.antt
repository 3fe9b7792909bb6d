use Rattle.std.proofs.Common.{◌≡◌, map, take}
use Rattle.v_tree.specs.Views.{wire_of}
use Rattle.tree_copies.proofs.copy_item.copy_wires.Given as goal

abbrev pub invariant-wires : goal.invariant-wires
invariant-wires l = map wire_of l.copies.items ≡ map wire_of (take l.wire-index l.wires)
