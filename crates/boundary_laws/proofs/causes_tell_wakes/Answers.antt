-- The law is proved in `Wakes`.
use Rattle.boundary_laws.proofs.Wakes.{causes_tell_wakes}
use Rattle.boundary_laws.proofs.causes_tell_wakes.Goals as goal

pub returns : goal.returns
returns c = causes_tell_wakes
