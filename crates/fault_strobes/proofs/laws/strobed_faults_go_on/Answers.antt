-- The laws are proved in `Faults`.
use Rattle.fault_strobes.proofs.Faults.{strobed-faults}
use Rattle.fault_strobes.proofs.laws.strobed_faults_go_on.Goals as goal

pub returns : goal.returns
returns c = strobed-faults c.faults_go_on.ensures
