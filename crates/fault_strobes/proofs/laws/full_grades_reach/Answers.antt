-- The laws are proved in `Reaching`.
use Rattle.fault_strobes.proofs.Reaching.{reach}
use Rattle.fault_strobes.proofs.laws.full_grades_reach.Goals as goal

pub returns : goal.returns
returns c = reach c.first_run_goes_on.ensures
