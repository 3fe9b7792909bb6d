-- The law.
use Rattle.known_steps.proofs.Going.{known_steps_go_on}
use Rattle.known_steps.proofs.laws.known_steps_go_on.Goals as goal

pub returns : goal.returns
returns c = known_steps_go_on c.own_runs.ensures.counts
