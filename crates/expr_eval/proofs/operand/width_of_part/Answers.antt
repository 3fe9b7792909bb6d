use Rattle.std.proofs.Common.{arith}
use Rattle.expr_eval.specs.PartLaws.{part_width-up, part_width-down}
use Rattle.expr_eval.proofs.operand.width_of_part.Goals as goal

pub returns-then-to-from : goal.returns-then-to-from
returns-then-to-from c = omega (arith, part_width-up c.args.from c.args.to c.if-to-from.true, c.from.ensures)

pub returns-else-to-from : goal.returns-else-to-from
returns-else-to-from c = omega (arith, part_width-down c.args.from c.args.to c.if-to-from.false, c.from-else-to-from.ensures)
