-- The law is proved in `Pairs`.
use Rattle.replay_laws.proofs.Pairs.{claims_are_shown}
use Rattle.replay_laws.proofs.claims_are_shown.Goals as goal

pub returns : goal.returns
returns c = claims_are_shown
