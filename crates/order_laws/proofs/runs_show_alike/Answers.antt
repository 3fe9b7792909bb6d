-- The laws are proved in `FirstOrder.RunSamples`.
use Rattle.order_laws.proofs.FirstOrder.RunSamples.{runs_show_alike, first_runs_show, clear_runs_exist}
use Rattle.order_laws.proofs.FirstOrder.NamedRaces.{first_runs_show_races}
use Rattle.order_laws.proofs.runs_show_alike.Goals as goal

pub returns-clause-alike : goal.returns-clause-alike
returns-clause-alike c = runs_show_alike

pub returns-clause-first : goal.returns-clause-first
returns-clause-first c = first_runs_show

pub returns-clause-exist : goal.returns-clause-exist
returns-clause-exist c = clear_runs_exist

pub returns-clause-races : goal.returns-clause-races
returns-clause-races c = first_runs_show_races
