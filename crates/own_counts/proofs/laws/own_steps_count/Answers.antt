-- The laws.
use Rattle.own_counts.proofs.Phases.{own_steps_count}
use Rattle.own_counts.proofs.laws.own_steps_count.Goals as goal

pub returns : goal.returns
returns c = own_steps_count c.own_runs.ensures.steps c.own_runs.ensures.runs
