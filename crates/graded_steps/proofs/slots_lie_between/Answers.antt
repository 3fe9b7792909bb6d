-- The laws are proved in `Between`.
use Rattle.graded_steps.proofs.Between.{slots_lie_between}
use Rattle.graded_steps.proofs.slots_lie_between.Goals as goal

pub returns : goal.returns
returns c = slots_lie_between
