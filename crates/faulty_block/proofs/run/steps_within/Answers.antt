-- The steps are few.
use Rattle.std.proofs.Common.{arith}
use Rattle.faulty_block.proofs.run.steps_within.Goals as goal

pub overflow_cast-taken : goal.overflow_cast-taken
overflow_cast-taken c = omega (arith, c.if-from-told.false, c.ranges.most)

pub returns-clause-end : goal.returns-clause-end
returns-clause-end c = c.in-Ran.is

pub returns-clause-few : goal.returns-clause-few
returns-clause-few c = omega (arith, c.if-from-told.false)
