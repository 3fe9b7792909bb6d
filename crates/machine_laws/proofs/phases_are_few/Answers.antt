-- The laws are proved in `FewPhases`.
use Rattle.machine_laws.proofs.FewPhases.{phases_are_few, slot_phases_are_few, turns_wake}
use Rattle.machine_laws.proofs.phases_are_few.Goals as goal

pub returns-clause-few : goal.returns-clause-few
returns-clause-few c = phases_are_few

pub returns-clause-slots : goal.returns-clause-slots
returns-clause-slots c = slot_phases_are_few

pub returns-clause-wake : goal.returns-clause-wake
returns-clause-wake c = turns_wake
