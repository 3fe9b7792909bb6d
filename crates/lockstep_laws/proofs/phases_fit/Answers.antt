-- The law is proved in `Phases`.
use Rattle.lockstep_laws.proofs.Phases.{phases_fit}
use Rattle.lockstep_laws.proofs.phases_fit.Goals as goal

pub returns : goal.returns
returns c = phases_fit
