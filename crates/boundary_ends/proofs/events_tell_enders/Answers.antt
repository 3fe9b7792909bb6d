-- The law is proved in `Stepping`.
use Rattle.boundary_ends.proofs.Stepping.{events_tell_enders}
use Rattle.boundary_ends.proofs.events_tell_enders.Goals as goal

pub returns : goal.returns
returns c = events_tell_enders c.steps_tell_ends.ensures
