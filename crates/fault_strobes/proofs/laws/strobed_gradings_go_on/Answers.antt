-- The laws are proved in `Strobes`.
use Rattle.fault_strobes.proofs.Strobes.{strobed-on}
use Rattle.fault_strobes.proofs.laws.strobed_gradings_go_on.Goals as goal

pub returns : goal.returns
returns c = strobed-on c.gradings_go_on.ensures
