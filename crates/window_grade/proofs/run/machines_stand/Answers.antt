-- The laws are proved in `Placed`.
use Rattle.window_grade.proofs.Placed.{machines_stand}
use Rattle.window_grade.proofs.run.machines_stand.Goals as goal

pub returns : goal.returns
returns c = machines_stand c.runs_go_on.ensures c.runs_stand.ensures c.runs_take_steps.ensures
