-- The law is proved in `FirstOrder.FineSlots`.
use Rattle.order_laws.proofs.FirstOrder.FineSlots.{fine_slots_end_alike}
use Rattle.order_laws.proofs.fine_slots.Goals as goal

pub returns : goal.returns
returns c = fine_slots_end_alike
