-- What was answered, without the board.
use Rattle.std.specs.Prelude.{sum}
use Rattle.v_design.specs.PlainDesigns.{design_of, plan_of}
use Rattle.shard_workers.proofs.plan.grade_world.Goals as goal

pub returns-clause-grades : goal.returns-clause-grades
returns-clause-grades g c = c.without_board-grades.ensures.grades (design_of c.args.design.now) (plan_of c.args.plan.now) c.in_ok-graded.ensures.graded

pub returns-clause-ticks : goal.returns-clause-ticks
returns-clause-ticks g c =
    c.without_board-grades.ensures.ticks (design_of c.args.design.now) (plan_of c.args.plan.now) (sum c.args.steps.now) (sum c.grade_all.new.steps) c.in_ok-graded.ensures.ticks
