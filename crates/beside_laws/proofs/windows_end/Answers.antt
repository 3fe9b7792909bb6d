-- The laws are proved in `GoodRuns`.
use Rattle.beside_laws.proofs.GoodRuns.{windows_end}
use Rattle.beside_laws.proofs.windows_end.Goals as goal

pub returns : goal.returns
returns c = windows_end c.first_run_goes_on.ensures
