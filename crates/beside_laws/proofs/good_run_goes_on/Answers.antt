-- The laws are proved in `GoodRuns`.
use Rattle.beside_laws.proofs.GoodRuns.{good_run_goes_on}
use Rattle.beside_laws.proofs.good_run_goes_on.Goals as goal

pub returns : goal.returns
returns c = good_run_goes_on c.first_run_goes_on.ensures
