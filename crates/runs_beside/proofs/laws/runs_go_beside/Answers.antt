-- The law.
use Rattle.runs_beside.proofs.GoingOn.{runs_go_beside}
use Rattle.runs_beside.proofs.laws.runs_go_beside.Goals as goal

pub returns : goal.returns
returns c = runs_go_beside c.second_runs.ensures c.own_runs.ensures.steps c.own_runs.ensures.runs
