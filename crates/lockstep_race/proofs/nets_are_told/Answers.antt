-- The laws are proved in `Nets`.
use Rattle.lockstep_race.proofs.Nets.{unreached_nets, variables}
use Rattle.lockstep_race.proofs.nets_are_told.Goals as goal

pub returns-clause-nets : goal.returns-clause-nets
returns-clause-nets c = unreached_nets

pub returns-clause-variables : goal.returns-clause-variables
returns-clause-variables c = variables
