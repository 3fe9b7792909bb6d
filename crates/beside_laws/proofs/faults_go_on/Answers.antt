-- The laws are proved in `Shards`.
use Rattle.beside_laws.proofs.Shards.{faults_go_on}
use Rattle.beside_laws.proofs.faults_go_on.Goals as goal

pub returns : goal.returns
returns c = faults_go_on c.first_run_goes_on.ensures
