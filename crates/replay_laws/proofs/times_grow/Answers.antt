-- The law is proved in `Growing`.
use Rattle.replay_laws.proofs.Growing.{times_grow}
use Rattle.replay_laws.proofs.times_grow.Goals as goal

pub returns : goal.returns
returns c = times_grow
