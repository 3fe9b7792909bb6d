use Rattle.std.proofs.Common.{arith, sym}
use Rattle.expr_eval.specs.PartLaws.{part_width-up, part_width-down, part_index-up, part_index-down}
use Rattle.expr_eval.proofs.operand.part_index.Goals as goal

pub overflow_add-result : goal.overflow_add-result
overflow_add-result c = omega (arith, part_width-up c.args.from c.args.to c.if-to-from.true, c.requires)

pub overflow_sub-result : goal.overflow_sub-result
overflow_sub-result c = omega (arith, part_width-down c.args.from c.args.to c.if-to-from.false, c.requires)

pub returns-then-to-from : goal.returns-then-to-from
returns-then-to-from c = sym (part_index-up c.args.from c.args.to c.args.bit c.if-to-from.true c.requires)

pub returns-else-to-from : goal.returns-else-to-from
returns-else-to-from c = sym (part_index-down c.args.from c.args.to c.args.bit c.if-to-from.false c.requires)
