-- The laws are proved in `Stretches`.
use Rattle.machine_laws.proofs.Stretches.{events_go_on, stretches_go_on}
use Rattle.machine_laws.proofs.stretches_go_on.Goals as goal

pub returns-clause-event : goal.returns-clause-event
returns-clause-event c = events_go_on c.slots.ensures

pub returns-clause-stretch : goal.returns-clause-stretch
returns-clause-stretch c = stretches_go_on c.slots.ensures
