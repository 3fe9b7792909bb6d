use Rattle.std.proofs.Common.{◌≡◌, map, take}
use Rattle.v_tree.specs.Views.{select_of}
use Rattle.tree_copies.proofs.select.copy_selects.Given as goal

abbrev pub invariant-selects : goal.invariant-selects
invariant-selects l = map select_of l.copies.items ≡ map select_of (take l.select-index l.selects)
