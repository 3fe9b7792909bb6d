use Rattle.std.proofs.Common.{◌≡◌, map, take}
use Rattle.v_tree.specs.Views.{expression_of}
use Rattle.v_copy.proofs.expression.+copy_expression.Given as goal

abbrev pub invariant-copy_parts-loop-part : goal.invariant-copy_parts-loop-part
invariant-copy_parts-loop-part l = map expression_of l.copies.items ≡ map expression_of (take l.part-index l.parts)
