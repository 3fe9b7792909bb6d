-- The law is proved in `Looking`.
use Rattle.replay_laws.proofs.Looking.{races_are_looked_for}
use Rattle.replay_laws.proofs.races_are_looked_for.Goals as goal

pub returns : goal.returns
returns c = races_are_looked_for
