-- The laws are proved in `Runs`.
use Rattle.beside_laws.proofs.Runs.{runs_go_on}
use Rattle.beside_laws.proofs.runs_go_on.Goals as goal

pub returns : goal.returns
returns c = runs_go_on c.first_run_goes_on.ensures
