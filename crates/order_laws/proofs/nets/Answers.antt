-- The laws are proved in `WorkedNodes`, `CleanNets`, `PhasesGoOn` and `StartSettles`.
use Rattle.order_laws.proofs.WorkedNodes.{nets_settle, settled_values_are_one}
use Rattle.order_laws.proofs.CleanNets.{phases_settle, changes_have_bounds}
use Rattle.order_laws.proofs.StartSettles.{start_begins}
use Rattle.order_laws.proofs.PhasesGoOn.{next_phase_begins}
use Rattle.order_laws.proofs.nets.Goals as goal

pub returns-clause-settle : goal.returns-clause-settle
returns-clause-settle c = nets_settle

pub returns-clause-one : goal.returns-clause-one
returns-clause-one c = settled_values_are_one

pub returns-clause-phases : goal.returns-clause-phases
returns-clause-phases c = phases_settle

pub returns-clause-bounds : goal.returns-clause-bounds
returns-clause-bounds c = changes_have_bounds

pub returns-clause-begin : goal.returns-clause-begin
returns-clause-begin c = record { first = start_begins; next = next_phase_begins }
