-- The law is proved in `Turned`.
use Rattle.lockstep_copy.proofs.Turned.{lanes_tell_turns}
use Rattle.lockstep_copy.proofs.laws.lanes_tell_turns.Goals as goal

pub returns : goal.returns
returns c = lanes_tell_turns
