use Rattle.std.proofs.Common.{◌≡◌, map, take}
use Rattle.v_tree.specs.Views.{gate_of}
use Rattle.tree_copies.proofs.copy_item.copy_gates.Given as goal

abbrev pub invariant-gates : goal.invariant-gates
invariant-gates l = map gate_of l.copies.items ≡ map gate_of (take l.gate-index l.gates)
