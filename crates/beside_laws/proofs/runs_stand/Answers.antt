-- The laws are proved in `Again`.
use Rattle.beside_laws.proofs.Again.{runs_stand}
use Rattle.beside_laws.proofs.runs_stand.Goals as goal

pub returns : goal.returns
returns c = runs_stand c.first_run_goes_on.ensures
