use Rattle.std.proofs.Common.{◌≡◌, map, take}
use Rattle.v_tree.specs.Views.{assignment_of}
use Rattle.tree_copies.proofs.copy_item.copy_assignments.Given as goal

abbrev pub invariant-assignments : goal.invariant-assignments
invariant-assignments l = map assignment_of l.copies.items ≡ map assignment_of (take l.assignment-index l.assignments)
