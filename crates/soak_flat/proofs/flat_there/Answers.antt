-- The law is proved in `Accepted`.
use Rattle.soak_flat.proofs.Accepted.{units-flat}
use Rattle.soak_flat.proofs.flat_there.Goals as goal

pub returns : goal.returns
returns c = units-flat
