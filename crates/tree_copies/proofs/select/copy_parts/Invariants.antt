use Rattle.std.proofs.Common.{◌≡◌, map, take}
use Rattle.v_tree.specs.Views.{expression_of}
use Rattle.tree_copies.proofs.select.copy_parts.Given as goal

abbrev pub invariant-parts : goal.invariant-parts
invariant-parts l = map expression_of l.copies.items ≡ map expression_of (take l.part-index l.parts)
