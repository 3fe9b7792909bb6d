use Rattle.std.proofs.Common.{◌≡◌, ◌+◌, ◌*◌, ◌++◌, drop, length}
use Rattle.v_design.specs.Sized.{levels_of, levels_of_parts, own_width_of_parts}
use Rattle.v_design.specs.Plain.{expression_of, expressions_of}
use Rattle.v_design.specs.Expressions.{read_parts}
use Rattle.expr_eval.specs.Operands.{bits_so_far}
use Rattle.process_operands.specs.Sought.{got}
use Rattle.process_operands.proofs.expression.+read.Given as goal

-- the parts so far are read, and their bits stand above those of the parts to come
abbrev pub invariant-read_joined-parts : goal.invariant-read_joined-parts
invariant-read_joined-parts l =
    record {
      left : read_parts (expressions_of l.parts) (drop l.fn.used l.operands) ≡ got (λ lower. lower ++ bits_so_far l.bits)
          (read_parts (expressions_of (drop l.part-index l.parts)) (drop l.used l.operands));
      width : length (bits_so_far l.bits) + own_width_of_parts (expressions_of (drop l.part-index l.parts)) ≡ own_width_of_parts (expressions_of l.parts);
    }

abbrev pub decreases-read_value : goal.decreases-read_value
decreases-read_value l = 3 * levels_of (expression_of l.expr.now)

abbrev pub decreases-read_bit : goal.decreases-read_bit
decreases-read_bit l = 3 * levels_of (expression_of l.index.now) + 1

abbrev pub decreases-read_joined : goal.decreases-read_joined
decreases-read_joined l = 3 * levels_of_parts (expressions_of l.parts.now) + 1
