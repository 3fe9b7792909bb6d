-- The laws.
use Rattle.own_counts.proofs.Joined as laws
use Rattle.own_counts.proofs.laws.own_steps_join.Goals as goal

pub returns : goal.returns
returns c = laws.own_steps_join
