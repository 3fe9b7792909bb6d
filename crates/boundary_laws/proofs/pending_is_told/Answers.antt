-- The laws are proved in `Pending`.
use Rattle.boundary_laws.proofs.Pending.{runs_append, lanes_shorten}
use Rattle.boundary_laws.proofs.pending_is_told.Goals as goal

pub returns-clause-later : goal.returns-clause-later
returns-clause-later c = runs_append c.shared_runs.ensures.appends

pub returns-clause-lanes : goal.returns-clause-lanes
returns-clause-lanes c = lanes_shorten
