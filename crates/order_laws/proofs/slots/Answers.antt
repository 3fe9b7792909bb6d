-- The law is proved in `SlotsEnd`.
use Rattle.order_laws.proofs.SlotsEnd.{slots_end}
use Rattle.order_laws.proofs.slots.Goals as goal

pub returns : goal.returns
returns c = slots_end
