-- The laws are proved in `Standing`.
use Rattle.graded_steps.proofs.Standing.{runs_take_steps}
use Rattle.graded_steps.proofs.runs_take_steps.Goals as goal

pub returns : goal.returns
returns c = runs_take_steps c.first_run_goes_on.ensures
