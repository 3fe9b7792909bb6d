-- The law is proved in `Stood`.
use Rattle.moments_stand.proofs.Stood.{moments_stand}
use Rattle.moments_stand.proofs.moments_stand.Goals as goal

pub returns : goal.returns
returns c = moments_stand
