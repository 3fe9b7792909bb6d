-- The laws are proved in `Ends`.
use Rattle.fault_strobes.proofs.Ends.{strobed-ends}
use Rattle.fault_strobes.proofs.laws.strobed_gradings_end.Goals as goal

pub returns : goal.returns
returns c = strobed-ends c.gradings_end.ensures c.full_grades_are.ensures
