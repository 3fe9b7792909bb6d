use Rattle.std.proofs.Common.{◌≡◌, ◌+◌, ◌*◌, ◌++◌, drop, map}
use Rattle.v_design.specs.Plain.{piece_of, expression_of, expressions_of}
use Rattle.v_design.specs.Sized.{levels_of, levels_of_parts}
use Rattle.v_design.specs.Expressions.{parts_read}
use Rattle.process_operands.proofs.pieces.+pieces.Given as goal

abbrev pub invariant-push_parts-parts : goal.invariant-push_parts-parts
invariant-push_parts-parts l = map piece_of l.pieces.items ++ parts_read (expressions_of (drop l.part-index l.parts)) ≡ map piece_of l.initial.pieces.items ++ parts_read (expressions_of l.parts)

abbrev pub decreases-push_read : goal.decreases-push_read
decreases-push_read l = 2 * levels_of (expression_of l.expr.now)

abbrev pub decreases-push_parts : goal.decreases-push_parts
decreases-push_parts l = 2 * levels_of_parts (expressions_of l.parts.now) + 1
