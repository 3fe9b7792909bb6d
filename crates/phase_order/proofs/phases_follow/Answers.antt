-- The laws are proved in `Ordered`.
use Rattle.phase_order.proofs.Ordered.{phases_follow, first_events_split}
use Rattle.phase_order.proofs.phases_follow.Goals as goal

pub returns-clause-phases : goal.returns-clause-phases
returns-clause-phases c = phases_follow c.slots.ensures

pub returns-clause-split : goal.returns-clause-split
returns-clause-split c = first_events_split
