-- The law is proved in `Limits`.
use Rattle.lockstep_places.proofs.Limits.{limits_tell}
use Rattle.lockstep_places.proofs.limits_tell.Goals as goal

pub returns : goal.returns
returns c = limits_tell
