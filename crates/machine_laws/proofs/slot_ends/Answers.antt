-- The laws are proved in `Ends`, and that on the next slot in `Moments`.
use Rattle.machine_laws.proofs.Moments.{next_slots_begin}
use Rattle.machine_laws.proofs.Ends.{quiet_slots_end, hyper_slots_end}
use Rattle.machine_laws.proofs.slot_ends.Goals as goal

pub returns-clause-quiet : goal.returns-clause-quiet
returns-clause-quiet c = quiet_slots_end

pub returns-clause-hyper : goal.returns-clause-hyper
returns-clause-hyper c = hyper_slots_end

pub returns-clause-next : goal.returns-clause-next
returns-clause-next c = next_slots_begin c.nets.ensures.begin
